-- Parts of a text, and what a part writes: a number, or bytes. Assumes nothing: these are definitions.
use Rattle.std.specs.Prelude.{ℕ, zero, suc, ◌+◌, ◌*◌, ◌/◌, ◌%◌, ◌≤◌, ◌<◌, ◌≡◌, cond, List, [], ◌∷◌, length, drop, eqb}
use Rattle.std.specs.Prelude.{Option, Some as some, None as none}
use Rattle.std.proofs.lemmas.List.Edits.{sets}
use Rattle.grammar.specs.IndexParts.{unlike}
use Rattle.idx_numbers_model.specs.Parts.{front, rest}
use Rattle.idx_numbers_model.specs.Numbers.{unsigned}
use Rattle.table.specs.declared.Item.{Item}

-- part k of s, with the mark m between parts, and nothing behind the last
unfoldable pub part_at : ℕ → ℕ → List ℕ → List ℕ
part_at m zero s = front (unlike m) s
part_at m (suc k) s = part_at m k (drop 1 (rest (unlike m) s))

abbrev pub or_zero : Option ℕ → ℕ
or_zero none = 0
or_zero (some n) = n

-- the number that decimal digits make, 0 where they make none of 64 bits
abbrev pub number_of : List ℕ → ℕ
number_of s = or_zero (unsigned 10 18446744073709551615 s)

-- number k of a row: numbers are its third part
abbrev pub given_at : List ℕ → ℕ → ℕ
given_at s k = number_of (part_at 32 k (part_at 124 2 s))

-- what a hexadecimal digit stands for, 0 to 9 or A to F: the low half of its byte, and 9 more for a letter
abbrev pub hex_digit : ℕ → ℕ
hex_digit c = (c % 16 + c / 64 * 9) % 16

-- the bytes that s writes: each as itself, or as a backslash and two hexadecimal digits
unfoldable pub bytes_of : List ℕ → List ℕ
bytes_of [] = []
bytes_of (x ∷ []) = x ∷ []
bytes_of (x ∷ a ∷ []) = x ∷ bytes_of (a ∷ [])
bytes_of (x ∷ a ∷ b ∷ s) = cond (eqb x 92) ((hex_digit a * 16 + hex_digit b) ∷ bytes_of s) (x ∷ bytes_of (a ∷ b ∷ s))

-- r is the first byte that s writes from place i on, and the place after it
pub record Written (s : List ℕ) (i : ℕ) (r : Item) : Type 0 where
  pub first : bytes_of (drop i s) ≡ r.byte ∷ bytes_of (drop r.next s)
  pub past : i < r.next
  pub inside : r.next ≤ length s

-- what storing the bytes that s writes leaves: as many as there is room for, and their number
pub record Stored (s out : List ℕ) (r : ℕ) (out' : List ℕ) : Type 0 where
  pub count : r ≡ length (bytes_of s)
  pub held : out' ≡ sets out 0 (bytes_of s)
