-- Numbers of the index text, over base, sign and bound (FORMAT 1.3, 1.8). Conditions on the bytes of a number and its value.
-- Assumes nothing: these are definitions.
use Rattle.std.specs.Prelude.{ℕ, zero, suc, ◌+◌, ◌-◌, ◌*◌, ◌^◌, ◌≤◌, ◌<◌, ◌≡◌, Bool, cond, ◌&&◌, ◌⊎◌, List, [], ◌∷◌, length, leb, ltb, ℤ, pos, neg_ℤ}
use Rattle.grammar.specs.Parts.{Part}
use Rattle.grammar.specs.IndexParts.{All, StartsWith}

-- a part, and the number that it says
pub record Valued (A : Type 0) : Type 0 where
  pub part : Part
  pub value : A

-- what a digit stands for, 16 where the byte is none; letters in both cases
abbrev pub digit : ℕ → ℕ
digit b =
    cond (leb 48 b && leb b 57) (b - 48) (cond (leb 97 b && leb b 102) (b - 87) (cond (leb 65 b && leb b 70) (b - 55) 16))

abbrev pub is_digit : ℕ → ℕ → Bool
is_digit base b = ltb (digit b) base

-- the number that digits make, after what stands before them
unfoldable pub numeral : ℕ → ℕ → List ℕ → ℕ
numeral base acc [] = acc
numeral base acc (b ∷ s) = numeral base (acc * base + digit b) s

-- one digit or more, whose value is within the bound (FORMAT 1.3)
pub record Digits (base top : ℕ) (s : List ℕ) (v : ℕ) : Type 0 where
  pub some_digit : 0 < length s
  pub all_digits : All (is_digit base) s
  pub number : v ≡ numeral base 0 s
  pub within : v ≤ top

-- with a `+` before them, or nothing
abbrev pub Unsigned : ℕ → ℕ → List ℕ → ℕ → Type 0
Unsigned base top s v = Digits base top s v ⊎ ((r : List ℕ) × (s ≡ 43 ∷ r) × Digits base top r v)

-- with either sign, in signed 64 bits
abbrev pub Signed : List ℕ → ℤ → Type 0
Signed s z =
    ((v : ℕ) × Unsigned 10 (2 ^ 63 - 1) s v × (z ≡ pos v))
    ⊎ ((r : List ℕ) × (v : ℕ) × (s ≡ 45 ∷ r) × Digits 10 (2 ^ 63) r v × (z ≡ neg_ℤ (pos v)))

-- the prefix `0x`; s is n of them and then r, which starts with no other
abbrev pub zero_x : List ℕ
zero_x = 48 ∷ 120 ∷ []

abbrev pub Stripped : ℕ → List ℕ → List ℕ → Type 0
Stripped zero s r = (s ≡ r) × (StartsWith zero_x r → ⊥)
Stripped (suc n) s r = (t : List ℕ) × (s ≡ 48 ∷ 120 ∷ t) × Stripped n t r

-- hexadecimal, after every leading `0x` (FORMAT 1.3)
abbrev pub Hex : ℕ → List ℕ → ℕ → Type 0
Hex top s v = (n : ℕ) × (r : List ℕ) × Stripped n s r × Unsigned 16 top r v

-- the largest number that is read as a position; what is listed has a smaller bound, `top_stored` (FORMAT 1.8)
abbrev pub top_position : ℕ
top_position = 2 ^ 64 - 1

-- hexadecimal; decimal only where no hexadecimal reading exists (FORMAT 1.8)
abbrev pub Position : List ℕ → ℕ → Type 0
Position s v =
    Hex top_position s v ⊎ (((w : ℕ) → Hex top_position s w → ⊥) × Unsigned 10 top_position s v)
