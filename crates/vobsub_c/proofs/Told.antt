-- Times and numbers of a painted cue, as they are stored, are the reading's, those of a unit and of a payload what is
-- listed of it. Assumes nothing.
use Prim.Native.Nat.{ℕ, ◌≤◌, ◌<◌}
use native.Mathlib.Omega.{arith}
use mathlib.Core.Path.{◌≡◌, refl, ap, ◌∙◌, subst}
use mathlib.Core.Bool.{cond}
use mathlib.Core.Logic.{⊎_elim}
use mathlib.Core.List.{List, [], ◌∷◌}
use lib.IntN.{ℤ}
use lib.ListN.{length}
use Rattle.outcome.specs.Outcome.{Res, ok, refuse, refusal_of, no_band_list, many_bands}
use Rattle.grammar.specs.Bands.{Band, band_words, most_bands, record_words}
use Rattle.grammar.specs.Rows.{Code}
use Rattle.grammar.specs.Record.{Told, given}
use Rattle.std.specs.Prelude.{Option, Some as some, None as none}
use Rattle.clock_model.specs.Answers.{micros_in, time_or0}
use Rattle.idx_model.specs.Answers.{duration_in, or_zero}
use Rattle.grammar.proofs.Unique.{bands-unique}
use Rattle.bands_model.specs.Claim.{PayloadBands, TooMany, Says}
use Rattle.control_model.specs.declared.Spu.{Spu}
use Rattle.spu_model.specs.Claim.{Recorded}
use Rattle.grammar.specs.Reading.{Wanted, Reading, IsReading, shown}
use Rattle.vobsub_model.specs.Call.{Lent, reading_in}
use Rattle.vobsub_model.specs.Answers.{canvas_answer, shown_given}
use Rattle.vobsub_model.specs.Claim.{Room}
use Rattle.vobsub_model.proofs.Claim.{reading-iff}
use Rattle.vobsub_numbers.specs.Numbers.{there, count_in, time_in, spu_numbers, shown_numbers, shown_times}
use Rattle.vobsub_c.specs.Answers.{or_before, PayloadTold, told_numbers, ReadingTold}

-- a time and a duration of the code, by those of the grammar
timed : (o : Option ℤ) → time_in (micros_in o) ≡ time_or0 o
timed none = refl
timed (some z) = refl

is_there : (o : Option ℤ) → there (micros_in o) ≡ cond (given o) 1 0
is_there none = refl
is_there (some z) = refl

pub lasts : (o : Option ℕ) → there (duration_in o) ≡ cond (given o) 1 0
lasts none = refl
lasts (some d) = refl

pub counted : (o : Option ℕ) → count_in (duration_in o) ≡ or_zero o
counted none = refl
counted (some d) = refl

module _ (text file : List ℕ) (q : Wanted) (b : Lent) where
  pub told-reading : (zs zs' : List ℤ) (ns ns' : List ℕ)
      → zs' ≡ or_before shown_times (canvas_answer (reading_in text file q b)) zs
      → ns' ≡ or_before shown_numbers (canvas_answer (reading_in text file q b)) ns
      → (x : Reading) → IsReading text file q x → Room x b → ReadingTold x zs' ns'
  unfolding shown_given
  told-reading zs zs' ns ns' k h x i o =
      let e = (reading-iff text file q b x).1 (i, o) in
      record {
        times_are =
            k ∙ ap (λ (r : Res Reading). or_before shown_times (canvas_answer r) zs) e
            ∙ (λ i. (shown x).start ∷ timed (shown x).show i ∷ timed (shown x).hide i ∷ []);
        numbers_are =
            h ∙ ap (λ (r : Res Reading). or_before shown_numbers (canvas_answer r) ns) e
            ∙ (λ i.
            lasts (shown x).duration i ∷ counted (shown x).duration i ∷ (shown x).start_delay ∷ (shown x).stop_delay
            ∷ (shown x).x1 ∷ (shown x).y1 ∷ (shown x).width ∷ (shown x).height ∷ (shown x).codes ∷ (shown x).clipped
            ∷ cond (shown x).started 1 0 ∷ cond (shown x).stopped 1 0 ∷ is_there (shown x).hide i ∷ []);
      }

-- ---- A unit

pub numbers-told : (t : Told) (rs : List (List Code)) (s : Spu) → Recorded t rs s → spu_numbers s ≡ told_numbers t rs
numbers-told t rs s h =
    λ i. h.x1 i ∷ h.y1 i ∷ h.x2 i ∷ h.y2 i ∷ h.selected i ∷ h.alpha i
    ∷ cond (h.started i) 1 0 ∷ h.start_delay i ∷ cond (h.stopped i) 1 0 ∷ h.stop_delay i
    ∷ cond (h.forced i) 1 0 ∷ h.top i ∷ h.bottom i ∷ cond (h.changed i) 1 0
    ∷ h.band_words i ∷ h.codes i ∷ h.clipped i ∷ []

-- ---- A payload

module _ (p ws ws' : List ℕ) (n : ℕ) where
  pub told-payload : (a : Res ℕ) → Says p ws ws' a → (bs : List Band) → PayloadBands p bs → length bs ≤ most_bands
      → PayloadTold bs (refusal_of a) ws' (or_before (λ m. m) a n)
  told-payload (ok m) c bs h few =
      let q : c.0 ≡ bs = bands-unique p (length p) 0 c.0 bs c.1 h in
      record { accepted = refl; bands_are = c.4 ∙ ap record_words q; count_is = c.3 ∙ ap (λ (b : List Band). length (band_words b)) q }
  told-payload (refuse k) c bs h few =
      ⊎_elim (λ u. absurd (u.1 bs h))
      (λ t.
      let q : t.1.0 ≡ bs = bands-unique p (length p) 0 t.1.0 bs t.1.1 h in
      let l : most_bands < length bs = subst (λ (b : List Band). most_bands < length b) q t.1.2 in
      absurd (omega arith))
      c.1

  pub told-many : (a : Res ℕ) → Says p ws ws' a → TooMany p → refusal_of a ≡ many_bands
  told-many (ok m) c t = absurd (c.5 t)
  told-many (refuse k) c t = ⊎_elim (λ u. absurd (u.1 t.0 t.1)) (λ u. u.0) c.1

  pub told_none : (a : Res ℕ) → Says p ws ws' a → ((bs : List Band) → PayloadBands p bs → ⊥) → refusal_of a ≡ no_band_list
  told_none (ok m) c u = absurd (u c.0 c.1)
  told_none (refuse k) c u = ⊎_elim (λ h. h.0) (λ h. absurd (u h.1.0 h.1.1)) c.1
