-- `vobsub_c::vobsub_extract_spu` meets its contract: the answer of the layer, taken apart. Assumes nothing.
use Prim.Native.Nat.{ℕ}
use mathlib.Core.Path.{◌≡◌, sym, ap, ◌∙◌}
use mathlib.Core.List.{List}
use Rattle.ps_model.specs.Answers.{Extracted}
use Rattle.ps_model.specs.declared.UnitAt.{UnitAt}
use Rattle.outcome.specs.Outcome.{Res, refusal_of, answered}
use Rattle.std.specs.Prelude.{Ok}
use Rattle.vobsub_c.specs.Answers.{or_before, unit_length, unit_joined, UnitExtracted, UnitUndisturbed}
use Rattle.vobsub_c.proofs.Returned.{unit-returned}
use Rattle.vobsub_c.proofs.Streams.{unit_kept}
use Rattle.vobsub_c.proofs.vobsub_extract_spu.Goals as goal

-- what is left where the layer's answer is known
given : (f : List ℕ) (p t : ℕ) (s s' : List ℕ) (n j : ℕ) (a b : Res UnitAt) → a ≡ b → Extracted f p t s a s'
    → UnitExtracted f p t s n j (refusal_of b) s' (or_before unit_length b n) (or_before unit_joined b j) × UnitUndisturbed f p t s n j (refusal_of b) s' (or_before unit_length b n) (or_before unit_joined b j)
given f p t s s' n j a b e q =
    let h = sym e ∙ q.answer in
    unit_kept f p t s n j _ _ _ _ (record {
      refusal = ap refusal_of h;
      returned = unit-returned _ _ _ _ _ (ap refusal_of h);
      long = ap (λ (o : Res UnitAt). or_before unit_length o n) h;
      where_is = ap (λ (o : Res UnitAt). or_before unit_joined o j) h;
      stores = q.scratch;
    })

pub returns-in-Ok-Bare : goal.returns-in-Ok-Bare
returns-in-Ok-Bare c = given _ _ _ _ _ _ _ _ _ (ap answered (c.in-Ok-Bare.is ∙ ap Ok c.in-Ok-Bare.field-0-is)) c.extract_spu.ensures.0

pub returns-in-Ok-Joined : goal.returns-in-Ok-Joined
returns-in-Ok-Joined c = given _ _ _ _ _ _ _ _ _ (ap answered (c.in-Ok-Joined.is ∙ ap Ok c.in-Ok-Joined.field-0-is)) c.extract_spu.ensures.0

pub returns-in-Err : goal.returns-in-Err
returns-in-Err c = rw c.number.ensures (given _ _ _ _ _ _ _ _ _ (ap answered c.in-Err.is) c.extract_spu.ensures.0)
