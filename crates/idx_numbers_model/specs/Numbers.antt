-- Numbers of the index text as functions of bytes (FORMAT 1.3, 1.8). Assumes nothing: these are definitions.
use Rattle.std.specs.Prelude.{ℕ, ◌-◌, ◌^◌, cond, ◌&&◌, List, [], ◌∷◌, leb, eqb, ℤ, pos, neg_ℤ}
use Rattle.std.specs.Prelude.{Option, Some as some, None as none}
use Rattle.grammar.specs.IndexNumbers.{is_digit, numeral, top_position}
use Rattle.idx_numbers_model.specs.Parts.{all}

-- one digit or more of the base, at most top
abbrev pub digits : ℕ → ℕ → List ℕ → Option ℕ
digits base top [] = none
digits base top (b ∷ s) = cond (all (is_digit base) (b ∷ s) && leb (numeral base 0 (b ∷ s)) top) (some (numeral base 0 (b ∷ s))) none

-- with a `+` before them, or nothing
unfoldable pub unsigned : ℕ → ℕ → List ℕ → Option ℕ
unsigned base top [] = none
unsigned base top (b ∷ s) = cond (eqb b 43) (digits base top s) (digits base top (b ∷ s))

abbrev pub sign : (ℕ → ℤ) → Option ℕ → Option ℤ
sign f none = none
sign f (some v) = some (f v)

-- with either sign, in signed 64 bits
unfoldable pub signed : List ℕ → Option ℤ
signed [] = none
signed (b ∷ s) = cond (eqb b 45) (sign (λ v. neg_ℤ (pos v)) (digits 10 (2 ^ 63) s)) (sign pos (unsigned 10 (2 ^ 63 - 1) (b ∷ s)))

-- without every leading `0x`
unfoldable pub bare : List ℕ → List ℕ
bare [] = []
bare (a ∷ []) = a ∷ []
bare (a ∷ b ∷ s) = cond (eqb a 48 && eqb b 120) (bare s) (a ∷ b ∷ s)

abbrev pub hex : ℕ → List ℕ → Option ℕ
hex top s = unsigned 16 top (bare s)

abbrev pub or_else : {A : Type 0} → Option A → Option A → Option A
or_else (some a) o = some a
or_else none o = o

-- decimal only where hexadecimal fails (FORMAT 1.8)
abbrev pub position_of : List ℕ → Option ℕ
position_of s = or_else (hex top_position s) (unsigned 10 top_position s)
