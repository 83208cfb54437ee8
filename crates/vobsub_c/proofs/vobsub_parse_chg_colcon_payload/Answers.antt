-- `vobsub_c::vobsub_parse_chg_colcon_payload` meets its contract: the answer of the layer, taken apart. Assumes nothing.
use Prim.Native.Nat.{ℕ}
use mathlib.Core.Path.{◌≡◌, refl, sym, ap, ◌∙◌, subst}
use mathlib.Core.List.{List}
use Rattle.bands_model.specs.Answers.{Stored}
use Rattle.bands_model.specs.Claim.{Says}
use Rattle.outcome.specs.Outcome.{Res, ok, refuse, refusal_of, answered}
use Rattle.vobsub_c.specs.Answers.{or_before, BandsGiven}
use Rattle.vobsub_c.proofs.Returned.{bands-returned}
use Rattle.vobsub_c.proofs.Told.{told-payload, told-many, told_none}
use Rattle.vobsub_c.proofs.vobsub_parse_chg_colcon_payload.Goals as goal

-- what is left where the layer's answer is known
given : (p ws ws' : List ℕ) (n : ℕ) (a b : Res ℕ) → a ≡ b → Stored p ws a ws' → Says p ws ws' a → BandsGiven p ws n (refusal_of b) ws' (or_before (λ m. m) b n)
given p ws ws' n a b e q s =
    let h = sym e ∙ q.answer in
    let t = subst (Says p ws ws') e s in
    record {
      refusal = ap refusal_of h;
      returned = bands-returned _ _ (ap refusal_of h);
      counted = ap (λ (o : Res ℕ). or_before (λ m. m) o n) h;
      stores = q.words;
      as_found = kept b t;
      payload_told = told-payload p ws ws' n b t;
      too_many = told-many p ws ws' n b t;
      unlisted = told_none p ws ws' n b t;
    }
  where
    kept : (o : Res ℕ) → Says p ws ws' o → (refusal_of o ≡ 0 → ⊥) → (ws' ≡ ws) × (or_before (λ m. m) o n ≡ n)
    kept (ok m) c z = absurd (z refl)
    kept (refuse k) c z = (c.0, refl)

pub returns-in-Ok : goal.returns-in-Ok
returns-in-Ok c =
    let r = c.parse_chg_colcon_payload in
    given _ _ _ _ _ _ (ap answered c.in-Ok.is) r.ensures.0 r.ensures.1

pub returns-in-Err : goal.returns-in-Err
returns-in-Err c =
    let r = c.parse_chg_colcon_payload in
    rw c.number.ensures (given _ _ _ _ _ _ (ap answered c.in-Err.is) r.ensures.0 r.ensures.1)
