-- `vobsub_c::vobsub_decode_cue` meets its contract: the answer of the call, taken apart. Assumes nothing.
use Prim.Native.Nat.{ℕ}
use mathlib.Core.Path.{◌≡◌, refl, sym, ap, subst, ◌∙◌}
use mathlib.Core.List.{List}
use lib.IntN.{ℤ}
use Rattle.grammar.specs.Reading.{Wanted}
use Rattle.vobsub_model.specs.Call.{Lent}
use Rattle.vobsub_model.specs.Answers.{CuePainted}
use Rattle.vobsub_model.specs.Claim.{Exactly}
use Rattle.vobsub_model.specs.declared.Shown.{Shown}
use Rattle.vobsub_numbers.specs.Numbers.{shown_numbers, shown_times}
use Rattle.outcome.specs.Outcome.{Res, refusal_of, answered}
use Rattle.vobsub_c.specs.Answers.{or_before, CueDecoded, CueUndisturbed}
use Rattle.vobsub_c.proofs.Returned.{canvas_returned}
use Rattle.vobsub_c.proofs.Streams.{cue-kept}
use Rattle.vobsub_c.proofs.Told.{told-reading}
use Rattle.vobsub_c.proofs.vobsub_decode_cue.Goals as goal

-- what is left where the call's answer is known, and times and numbers are its own
given : (t f : List ℕ) (w : Wanted) (b b' : Lent) (zs zs' : List ℤ) (ns ns' : List ℕ) (a d : Res Shown) → a ≡ d
    → CuePainted t f w b a b' → Exactly t f w b a b' → zs' ≡ or_before shown_times d zs → ns' ≡ or_before shown_numbers d ns
    → CueDecoded t f w b zs ns (refusal_of d) b' zs' ns' × CueUndisturbed t f w b zs ns (refusal_of d) b' zs' ns'
given t f w b b' zs zs' ns ns' a d e q x k h =
    let y = sym e ∙ q.answer in
    let k' = k ∙ ap (λ (o : Res Shown). or_before shown_times o zs) y in
    let h' = h ∙ ap (λ (o : Res Shown). or_before shown_numbers o ns) y in
    cue-kept t f w b zs ns _ b' zs' ns' (record {
      refusal = ap refusal_of y;
      returned = canvas_returned t f w b _ (ap refusal_of y);
      timed = k';
      told = h';
      in_scratch = q.in_scratch;
      in_pixels = q.in_pixels;
      in_canvas = q.in_canvas;
      exactly = subst (λ (o : Res Shown). Exactly t f w b o b') q.answer x;
      reading_told = told-reading t f w b zs zs' ns ns' k' h';
    })

pub returns-in-Ok : goal.returns-in-Ok
returns-in-Ok c =
    given _ _ _ _ _ _ _ _ _ _ _ (ap answered c.in-Ok.is) c.decode_cue.ensures.0 c.decode_cue.ensures.1
    c.shown_times_of.ensures c.shown_numbers_of.ensures

pub returns-in-Err : goal.returns-in-Err
returns-in-Err c =
    rw c.number.ensures (given _ _ _ _ _ _ _ _ _ _ _ (ap answered c.in-Err.is) c.decode_cue.ensures.0 c.decode_cue.ensures.1 refl refl)
