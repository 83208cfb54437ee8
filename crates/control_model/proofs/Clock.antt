-- The times of a cue by its unit's record: they stay, or leave. Assumes nothing.
use Prim.Native.Nat.{ℕ}
use mathlib.Core.Path.{◌≡◌, sym, ap, ◌∙◌}
use mathlib.Core.Bool.{true, false}
use lib.IntN.{ℤ}
use Rattle.outcome.specs.Outcome.{Res, ok, refuse, long_instant}
use Rattle.grammar.specs.Record.{Told}
use Rattle.grammar.specs.Times.{show_time, hide_time}
use Rattle.clock_model.specs.Clock.{told_stay}
use Rattle.clock_model.specs.Answers.{delayed, times_of, times_answer}
use Rattle.clock_model.specs.declared.Times.{Times}
use Rattle.clock_model.proofs.Clock.{delayed-is, times_are, times-leave}
use Rattle.rle_model.specs.declared.Counts.{Counts}
use Rattle.control_model.specs.Answers.{spu_of}
use Rattle.control_model.specs.declared.Spu.{Spu}

-- the times that a record asks for
abbrev times_by : ℤ → Spu → Res Times
times_by z s = times_answer z (delayed s.started s.start_delay_raw.0) (delayed s.stopped s.stop_delay_raw.0)

module _ (z : ℤ) (s : Spu) (t : Told) (n : Counts) (e : s ≡ spu_of t n) where
  times_told_lem : times_by z s ≡ times_answer z t.starts t.stops
  unfolding spu_of
  times_told_lem = ap (times_by z) e ∙ (λ i. times_answer z (delayed-is t.starts i) (delayed-is t.stops i))

  -- by the answer of the code that asks for them
  module _ (r : Res Times) (g : r ≡ times_by z s) where
    pub told_stay_lem : (x : Times) → r ≡ ok x
        → (told_stay z t ≡ true) × (x ≡ times_of (show_time z t.starts) (hide_time z t.starts t.stops))
    told_stay_lem x q = times_are z t.starts t.stops x (sym times_told_lem ∙ sym g ∙ q)

    pub told-leave : (k : ℕ) → r ≡ refuse k → (told_stay z t ≡ false) × (k ≡ long_instant)
    told-leave k q = times-leave z t.starts t.stops k (sym times_told_lem ∙ sym g ∙ q)
