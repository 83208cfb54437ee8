-- What each answer of the code means. Assumes nothing: these are definitions.
use Rattle.std.specs.Prelude.{ℕ, Bool, true, false, cond, ℤ, pos, negsuc}
use Rattle.std.specs.Prelude.{Option, Some as some, None as none}
use Rattle.outcome.specs.Outcome.{Res, ok, refuse, map_res, long_instant}
use Rattle.grammar.specs.Times.{show_time, hide_time}
use Rattle.clock_model.specs.Sums.{checked}
use Rattle.clock_model.specs.Clock.{times_stay}
use Rattle.clock_model.specs.declared.Ticks.{Ticks}
use Rattle.clock_model.specs.declared.Micros.{Micros}
use Rattle.clock_model.specs.declared.Times.{Times}

abbrev pub ticks : ℕ → Ticks
ticks d = record { 0 = d }

abbrev pub micros : ℤ → Micros
micros z = record { 0 = z }

-- how many microseconds there are, 0 below 0
abbrev pub micros_count : ℤ → ℕ
micros_count (pos n) = n
micros_count (negsuc n) = 0

-- a delay as a record holds it
abbrev pub delayed : Bool → ℕ → Option ℕ
delayed true d = some d
delayed false d = none

-- a time, 0 where there is none
abbrev pub time_or0 : Option ℤ → ℤ
time_or0 none = pos 0
time_or0 (some z) = z

-- a delay of the code, and a time of the code
abbrev pub delay_in : Option Ticks → Option ℕ
delay_in none = none
delay_in (some t) = some t.0

abbrev pub micros_in : Option ℤ → Option Micros
micros_in none = none
micros_in (some z) = some (micros z)

-- a show time and a hide time
abbrev pub times_of : Option ℤ → Option ℤ → Times
times_of show hide = record { show = micros_in show; hide = micros_in hide }

-- a number of microseconds as a time, or that it leaves signed 64 bits
abbrev pub instant : Option ℤ → Res Micros
instant none = refuse long_instant
instant (some z) = ok (micros z)

-- the same of a time that there may be
abbrev pub instant_if : Option ℤ → Res (Option Micros)
instant_if none = ok none
instant_if (some z) = map_res some (instant (checked z))

-- of a cue with this start, by the delays of the first start and of the last stop
unfoldable pub times_answer : ℤ → Option ℕ → Option ℕ → Res Times
times_answer start starts stops =
    cond (times_stay start starts stops)
    (ok (times_of (show_time start starts) (hide_time start starts stops)))
    (refuse long_instant)
