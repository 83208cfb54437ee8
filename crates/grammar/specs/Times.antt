-- When a cue's picture is shown and hidden (FORMAT 6.7). Assumes nothing: these are definitions.
use Rattle.std.specs.Prelude.{ℕ, ◌*◌, ◌/◌, ℤ, pos, ◌+ℤ◌}
use Rattle.std.specs.Prelude.{Option, Some as some, None as none}
use Rattle.grammar.specs.Index.{Stays}

-- a delay of d ticks in microseconds, rounded down: a tick is 1024/90000 of a second
abbrev pub in_micros : ℕ → ℕ
in_micros d = d * 102400 / 9

-- a cue's start, and a delay after it, where there is one
abbrev pub time_after : ℤ → Option ℕ → Option ℤ
time_after start none = none
time_after start (some d) = some (start +ℤ pos (in_micros d))

-- by the delay of the first start command; without one the picture is never shown
abbrev pub show_time : ℤ → Option ℕ → Option ℤ
show_time start starts = time_after start starts

-- by the delay of the last stop command; what is never shown is not hidden
abbrev pub hide_time : ℤ → Option ℕ → Option ℕ → Option ℤ
hide_time start none stops = none
hide_time start (some d) stops = time_after start stops

-- a time that there is stays in signed 64 bits
abbrev pub TimeStays : Option ℤ → Type 0
TimeStays none = Unit {0}
TimeStays (some z) = Stays z
