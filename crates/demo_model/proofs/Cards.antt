-- Closed inputs on which each edit of this crate's definitions gives another value. Assumes nothing.
use Prim.Native.Nat.{ℕ}
use mathlib.Core.Path.{◌≡◌, refl}
use mathlib.Core.List.{List, [], ◌∷◌}
use Rattle.outcome.specs.Outcome.{ok}
use Rattle.grammar.specs.Picture.{evens}
use Rattle.demo_model.specs.Codes.{mark, runs, cut, run_marks, marks_of, digits, nibbles_of, packed, picture_rows, field_nibbles}
use Rattle.demo_model.specs.Unit.{unit_of, all_colours, picture_ok, sized_unit, demo_at}

-- a run of 256 before the row's end: 255, and 1
pub run-cut : run_marks 256 1 ≡ mark 4 1021 ∷ mark 1 5 ∷ []
unfolding cut
run-cut = refl

-- 3 by 2, 1 1 2 and 3 0 0
abbrev pub wide : List ℕ
wide = 1 ∷ 1 ∷ 2 ∷ 3 ∷ 0 ∷ 0 ∷ []

abbrev pub wide_unit : List ℕ
wide_unit =
    0x00 ∷ 0x22 ∷ 0x00 ∷ 0x0A ∷ 0x90 ∷ 0x00 ∷ 0x20 ∷ 0x70 ∷ 0x00 ∷ 0x00
    ∷ 0x00 ∷ 0x00 ∷ 0x00 ∷ 0x0A ∷ 0x03 ∷ 0x01 ∷ 0x32 ∷ 0x04 ∷ 0x0F ∷ 0xFF ∷ 0x05 ∷ 0x00 ∷ 0x00 ∷ 0x02 ∷ 0x00 ∷ 0x00 ∷ 0x01 ∷ 0x06 ∷ 0x00 ∷ 0x04 ∷ 0x00 ∷ 0x07 ∷ 0x01 ∷ 0xFF
    ∷ []

pub wide-written : demo_at 3 2 wide 34 ≡ ok wide_unit
unfolding demo_at picture_ok all_colours sized_unit unit_of evens runs cut marks_of digits nibbles_of packed picture_rows field_nibbles
wide-written = refl
