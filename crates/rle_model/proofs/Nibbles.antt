-- A half-byte count is inside a field of n bytes exactly where its byte is, and what an answer of reading a nibble says. Assumes nothing.
use Prim.Native.Nat.{ℕ, ◌+◌, ◌-◌, ◌*◌, ◌/◌, ◌%◌, ◌^◌, ◌<◌, ◌≤◌}
use mathlib.Core.Path.{◌≡◌, refl}
use mathlib.Core.Bool.{Bool, true, false}
use mathlib.Core.List.{List}
use native.Mathlib.Omega.{arith}
use lib.Dec.{ltb}
use lib.ListN.{length}
use borrow.Author.Tests.{lt-ltb, le-ltb, ltb-true, ltb-false, eq-eqb, ne_eqb}
use Rattle.outcome.specs.Outcome.{ok, refuse, check, field_ran_out}
use Rattle.grammar.specs.Bytes.{byte, nibble}
use Rattle.grammar.specs.Rows.{align}
use Rattle.rle_model.specs.Nibbles.{nibble_at, on_byte}

pub inside : (p n : ℕ) → p / 2 < n → ltb p (2 * n) ≡ true
inside p n h = lt-ltb p (2 * n) (omega arith)

pub outside : (p n : ℕ) → n ≤ p / 2 → ltb p (2 * n) ≡ false
outside p n h = le-ltb p (2 * n) (omega arith)

-- of a byte the high half stands at the even count
pub nibble-high : (s : List ℕ) (p : ℕ) → p % 2 ≡ 0 → nibble s p ≡ byte s (p / 2) / 16 % 16
unfolding nibble
nibble-high s p h = rw (eq-eqb (p % 2) 0 h)

pub nibble-low : (s : List ℕ) (p : ℕ) → p % 2 ≡ 1 → nibble s p ≡ byte s (p / 2) % 16
unfolding nibble
nibble-low s p h = let n : p % 2 ≡ 0 → ⊥ = λ z. omega arith in rw (ne_eqb (p % 2) 0 n)

-- where a nibble was read, the count is inside and the nibble is the field's
pub is-nibble : (s : List ℕ) (p n : ℕ) → ok n ≡ nibble_at s p → (p < 2 * length s) × (n ≡ nibble s p)
is-nibble s p n q = go (ltb p (2 * length s)) refl q
  where
    go : (t : Bool) → ltb p (2 * length s) ≡ t → ok n ≡ check t field_ran_out (ok (nibble s p)) → (p < 2 * length s) × (n ≡ nibble s p)
    go true h q' = (ltb-true _ _ h, cc)
    go false h q' = let z : ◌≡◌ {A = ℕ} 0 1 = cc in absurd (omega arith)

-- where the field ran out, the count is past it, and the number is 26
pub ran_out : (s : List ℕ) (p n : ℕ) → refuse n ≡ nibble_at s p → (2 * length s ≤ p) × (n ≡ field_ran_out)
ran_out s p n q = go (ltb p (2 * length s)) refl q
  where
    go : (t : Bool) → ltb p (2 * length s) ≡ t → refuse n ≡ check t field_ran_out (ok (nibble s p)) → (2 * length s ≤ p) × (n ≡ field_ran_out)
    go true h q' = let z : ◌≡◌ {A = ℕ} 0 1 = cc in absurd (omega arith)
    go false h q' = (ltb-false _ _ h, cc)

-- in a field, and at its end, to align is to go to the next byte: no count there is the largest
pub on_byte_lem : (s : List ℕ) (p : ℕ) → length s * 1 < 2 ^ 63 → p ≤ 2 * length s → on_byte p ≡ align p
on_byte_lem s p f h = let n : p ≡ 2 ^ 64 - 1 → ⊥ = λ z. omega arith in rw (ne_eqb p (2 ^ 64 - 1) n)

-- an odd count that is not the largest goes on by one, and an even one stays
pub on_byte-next : (p : ℕ) → (p ≡ 2 ^ 64 - 1 → ⊥) → p + p % 2 ≡ on_byte p
unfolding align
on_byte-next p n = rw (ne_eqb p (2 ^ 64 - 1) n)

pub on_byte-last : (p : ℕ) → p ≡ 2 ^ 64 - 1 → p ≡ on_byte p
on_byte-last p e = rw (eq-eqb p (2 ^ 64 - 1) e)
