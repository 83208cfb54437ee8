-- Closed inputs on which each edit of this crate's definitions gives another value. Assumes nothing.
use mathlib.Core.Path.{◌≡◌, refl}
use mathlib.Core.Bool.{true}
use Rattle.std.specs.Prelude.{Some as some, None as none}
use lib.IntN.{pos, negsuc}
use Rattle.outcome.specs.Outcome.{ok, refuse, long_instant}
use Rattle.clock_model.specs.Clock.{times_stay}
use Rattle.clock_model.specs.Answers.{micros, times_answer}

-- a cue that starts at 7: shown a tick later and hidden after nine; not stopped; not started
pub both-given :
    (times_answer (pos 7) (some 1) (some 9)
    ≡ ok (record { show = some (micros (pos 11384)); hide = some (micros (pos 102407)) }))
    × (times_answer (pos 7) (some 1) none
    ≡ ok (record { show = some (micros (pos 11384)); hide = none }))
    × (times_answer (pos 7) none (some 9)
    ≡ ok (record { show = none; hide = none }))
unfolding times_answer times_stay
both-given = (refl, refl, refl)

-- 2^63 - 1 is the last time, and -2^63 the first
pub bounds-given :
    (times_stay (pos 9223372036854764430) (some 1) none ≡ true)
    × (times_answer (pos 9223372036854764431) (some 1) none ≡ refuse long_instant)
    × (times_stay (pos 9223372036854764430) (some 0) (some 1) ≡ true)
    × (times_answer (pos 9223372036854764431) (some 0) (some 1) ≡ refuse long_instant)
    × (times_stay (negsuc 9223372036854775807) (some 0) (some 0) ≡ true)
    × (times_stay (pos 9223372036854775807) none (some 65535) ≡ true)
unfolding times_answer times_stay
bounds-given = (refl, refl, refl, refl, refl, refl)
