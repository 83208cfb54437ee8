-- What each case of the code's types stands for. Assumes nothing: these are definitions.
use Rattle.std.specs.Prelude.{ℕ, ◌+◌, ◌*◌, ◌^◌, ◌<◌, Bool, cond, ◌&&◌, ◌||◌, List, [], ◌∷◌, leb, ltb, eqb, length}
use Rattle.std.specs.Prelude.{Option, Some as some, None as none}
use Rattle.grammar.specs.IndexParts.{parting, token_byte}
use Rattle.grammar.specs.IndexNumbers.{is_digit, numeral}
use Rattle.idx_numbers_model.specs.Parts.{front}
use Rattle.idx_numbers_model.specs.declared.Digits.{Digits}
use Rattle.idx_numbers_model.specs.declared.Kind.{Kind}
use Rattle.idx_numbers_model.specs.declared.Kind.TheVariants.{Parting, Token}

-- the bytes of a kind
abbrev pub test : Kind → ℕ → Bool
test Parting = parting
test Token = token_byte

-- a bound that 64 bits hold, by its quotient and its remainder by the base
pub record Bound (base most last : ℕ) : Type 0 where
  pub some_base : 0 < base
  pub less : last < base
  pub held : most * base + last < 2 ^ 64

-- acc leaves room for a further digit d within that bound
abbrev pub fitting : ℕ → ℕ → ℕ → ℕ → Bool
fitting acc d most last = ltb acc most || (eqb acc most && leb d last)

-- so many digits that make v
abbrev pub run : ℕ → ℕ → Digits
run n v = record { count = n; value = v }

-- the digits at the front of s, after n others that make acc: how many there are then, and their number, if that is at most top
unfoldable pub run_after : ℕ → ℕ → ℕ → ℕ → List ℕ → Option Digits
run_after base top n acc s =
    cond (leb (numeral base acc (front (is_digit base) s)) top)
    (some (run (n + length (front (is_digit base) s)) (numeral base acc (front (is_digit base) s))))
    none

abbrev pub run_of : ℕ → ℕ → List ℕ → Option Digits
run_of base top s = run_after base top 0 0 s

-- bytes as one number, the first one lowest
unfoldable pub lowest : List ℕ → ℕ
lowest [] = 0
lowest (b ∷ s) = b + 256 * lowest s
