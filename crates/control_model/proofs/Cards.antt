-- Closed inputs on which each edit of this crate's definitions gives another value. Assumes nothing.
use mathlib.Core.Path.{◌≡◌, refl}
use Rattle.std.specs.Prelude.{Some as some}
use mathlib.Core.List.{[], ◌∷◌}
use Rattle.grammar.specs.Bytes.{word, nibble, nibbles}
use Rattle.grammar.specs.Control.{start, area, offsets}
use Rattle.outcome.specs.Outcome.{refuse, many_bands}
use Rattle.control_model.specs.Fold.{untold, tell}
use Rattle.control_model.specs.Few.{bands_given}
use Rattle.control_model.specs.Chain.{area_at, offsets_at}

-- columns 1 to 2, and lines 3 to 4
pub area-read : area_at (0x00 ∷ 0x10 ∷ 0x02 ∷ 0x00 ∷ 0x30 ∷ 0x04 ∷ []) 0 ≡ area 1 2 3 4
unfolding nibbles nibble
area-read = refl

-- the top field at 5, the bottom field at 6
pub offsets-read : offsets_at (0x00 ∷ 0x05 ∷ 0x00 ∷ 0x06 ∷ []) 0 ≡ offsets 5 6
unfolding word
offsets-read = refl

-- two starts, with delays 7 and 9
pub first_start_lem : (tell 9 start (tell 7 start untold)).starts ≡ some 7
unfolding untold
first_start_lem = refl

-- beside a refusal there are no words of a unit's bands
pub no_words_beside : bands_given (refuse many_bands) ≡ refuse 34
no_words_beside = refl
