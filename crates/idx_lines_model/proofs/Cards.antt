-- Closed inputs on which each edit of this crate's definitions gives another value. Assumes nothing.
use Prim.Native.Nat.{ℕ}
use mathlib.Core.Path.{◌≡◌, refl}
use mathlib.Core.Bool.{true}
use Rattle.std.specs.Prelude.{Option, Some as some}
use mathlib.Core.List.{List, [], ◌∷◌, ◌++◌}
use lib.IntN.{pos}
use Rattle.outcome.specs.Outcome.{Res, ok, refuse, refusal_of, large_position}
use Rattle.grammar.specs.Index.{timestamp_word, filepos_word, start_of}
use Rattle.grammar.specs.IndexNumbers.{numeral}
use Rattle.idx_numbers_model.specs.Parts.{part, front, rest, shorn, trim, split, strip, all}
use Rattle.idx_numbers_model.specs.Numbers.{unsigned, signed, bare, position_of}
use Rattle.idx_lines_model.specs.Lines.{tokens, palette_at, fields, steps, first_such, last_such, parts_at, line_of}
use Rattle.idx_lines_model.specs.Answers.{Value, cued, lean}

-- of two parts that pass a test, the first and the last
pub first_part : first_such (λ p. true) (part 0 [] ∷ part 1 [] ∷ []) ≡ some (part 0 [])
unfolding first_such
first_part = refl

pub last-part : last_such (λ p. true) (part 0 [] ∷ part 1 [] ∷ []) ≡ some (part 1 [])
unfolding last_such
last-part = refl

-- sixteen tokens `0`, and `g` after them
pub sixteen-tokens : refusal_of (palette_at (part 0 []) (part 0 (48 ∷ 44 ∷ 48 ∷ 44 ∷ 48 ∷ 44 ∷ 48 ∷ 44 ∷ 48 ∷ 44 ∷ 48 ∷ 44 ∷ 48 ∷ 44 ∷ 48 ∷ 44 ∷ 48 ∷ 44 ∷ 48 ∷ 44 ∷ 48 ∷ 44 ∷ 48 ∷ 44 ∷ 48 ∷ 44 ∷ 48 ∷ 44 ∷ 48 ∷ 44 ∷ 48 ∷ 44 ∷ 103 ∷ []))) ≡ 0
unfolding tokens front rest unsigned bare all numeral
sixteen-tokens = refl

-- the digits `100000000`: as a position one more than is stored
abbrev pub past_stored : List ℕ
past_stored = 49 ∷ 48 ∷ 48 ∷ 48 ∷ 48 ∷ 48 ∷ 48 ∷ 48 ∷ 48 ∷ []

-- the line `timestamp:0,filepos:` with these digits
abbrev pub stamp : List ℕ → List ℕ
stamp d = timestamp_word ++ 48 ∷ 44 ∷ filepos_word ++ d

-- what that line says
abbrev at : List ℕ → Res (Option Value)
at d = lean (line_of (part 0 (stamp d)))

-- `FFFFFFFF` is a cue at that position, and `100000000` is 41
pub last_stored : at (70 ∷ 70 ∷ 70 ∷ 70 ∷ 70 ∷ 70 ∷ 70 ∷ 70 ∷ []) ≡ ok (some (cued (pos 0) 4294967295))
unfolding line_of strip trim front rest shorn split parts_at first_such last_such fields steps unsigned signed bare all numeral start_of
last_stored = refl

pub first-large : at past_stored ≡ refuse large_position
unfolding line_of strip trim front rest shorn split parts_at first_such last_such fields steps unsigned signed bare all numeral start_of
first-large = refl

-- `10000000000000000`, 17 digits: it is read as that decimal number, and then 41
pub seventeen-large :
    (position_of (past_stored ++ 48 ∷ 48 ∷ 48 ∷ 48 ∷ 48 ∷ 48 ∷ 48 ∷ 48 ∷ []) ≡ some 10000000000000000)
    × (at (past_stored ++ 48 ∷ 48 ∷ 48 ∷ 48 ∷ 48 ∷ 48 ∷ 48 ∷ 48 ∷ []) ≡ refuse large_position)
unfolding line_of strip trim front rest shorn split parts_at first_such last_such fields steps unsigned signed bare all numeral start_of
seventeen-large = (refl, refl)
