-- Closed inputs on which each edit of this crate's definitions gives another value. Assumes nothing.
use mathlib.Core.Path.{◌≡◌, refl}
use Rattle.std.specs.Prelude.{Some as some}
use mathlib.Core.List.{[], ◌∷◌}
use lib.IntN.{pos}
use Rattle.grammar.specs.IndexNumbers.{numeral}
use Rattle.idx_numbers_model.specs.Parts.{all}
use Rattle.idx_numbers_model.specs.Numbers.{unsigned, bare, position_of}
use Rattle.clock_model.specs.Sums.{checked}
use Rattle.idx_numbers_model.specs.Times.{micros_of}

-- 1:02:03.004
pub hour-counted : micros_of (pos 1) (pos 2) (pos 3) (pos 4) ≡ some (pos 3723004000)
unfolding checked
hour-counted = refl

-- `0x0x1` without every leading `0x`
pub stripped : bare (48 ∷ 120 ∷ 48 ∷ 120 ∷ 49 ∷ []) ≡ 49 ∷ []
unfolding bare
stripped = refl

-- `18446744073709551615` overflows in hexadecimal, and is the greatest decimal position
pub last-position : position_of (49 ∷ 56 ∷ 52 ∷ 52 ∷ 54 ∷ 55 ∷ 52 ∷ 52 ∷ 48 ∷ 55 ∷ 51 ∷ 55 ∷ 48 ∷ 57 ∷ 53 ∷ 53 ∷ 49 ∷ 54 ∷ 49 ∷ 53 ∷ []) ≡ some 18446744073709551615
unfolding unsigned bare all numeral
last-position = refl
