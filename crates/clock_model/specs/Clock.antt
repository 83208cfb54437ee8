-- Whether the times of a cue stay in signed 64 bits (FORMAT 6.7). Assumes nothing: these are definitions.
use Rattle.std.specs.Prelude.{ℕ, Bool, true, ◌&&◌, ℤ}
use Rattle.std.specs.Prelude.{Option, Some as some, None as none}
use Rattle.outcome.specs.Outcome.{Res, ok, check, and_then, long_instant}
use Rattle.grammar.specs.Record.{Told, told}
use Rattle.grammar.specs.Times.{show_time, hide_time}
use Rattle.grammar.specs.Picture.{ListedUnit}
use Rattle.clock_model.specs.Sums.{stays}

-- a time stays, or there is none
abbrev pub time_stays : Option ℤ → Bool
time_stays none = true
time_stays (some z) = stays z

-- both times of a cue with this start, by the delays of the first start and of the last stop
unfoldable pub times_stay : ℤ → Option ℕ → Option ℕ → Bool
times_stay start starts stops = time_stays (show_time start starts) && time_stays (hide_time start starts stops)

-- of one whose unit's commands told t
abbrev pub told_stay : ℤ → Told → Bool
told_stay start t = times_stay start t.starts t.stops

-- what was found, but 33 where its times leave: that is asked last of all
abbrev pub in_time : {A : Type 0} → (A → Bool) → Res A → Res A
in_time stay r = and_then r (λ a. check (stay a) long_instant (ok a))

-- a unit of a cue with this start
abbrev pub unit_in_time : ℤ → Res ListedUnit → Res ListedUnit
unit_in_time start r = in_time (λ (l : ListedUnit). told_stay start (told l.blocks)) r
