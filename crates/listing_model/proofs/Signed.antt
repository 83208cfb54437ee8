-- A signed number as its sign and the number without it. Assumes nothing.
use Prim.Native.Nat.{ℕ, ◌^◌, ◌≤◌}
use mathlib.Core.Path.{◌≡◌, refl, sym, ap}
use mathlib.Core.List.{◌∷◌}
use native.Mathlib.Omega.{arith}
use native.Mathlib.Numerals.{add-one}
use lib.Dec.{ltb→lt}
use lib.IntN.{ℤ, pos, negsuc, nat_abs}
use lib.ListN.{length}
use lib.Signed.{◌<ℤ◌, ◌≤ℤ◌}
use Rattle.listing_model.specs.Lines.{decimal, signed}
use Rattle.listing_model.proofs.Laws.{decimal-short}

-- a number of 64 bits has at most 19 digits beside its sign
pub abs_short : (n : ℕ) → n ≤ 2 ^ 63 → length (decimal n) ≤ 19
abs_short n h = decimal-short 18 n (omega arith)

pub minus-signed : (z : ℤ) → z <ℤ pos 0 → 45 ∷ decimal (nat_abs z) ≡ signed z
minus-signed (pos n) l = absurd (omega (arith, ltb→lt n 0 l.lt))
minus-signed (negsuc n) l = ap (λ (k : ℕ). 45 ∷ decimal k) (sym (add-one n))

pub plain-signed : (z : ℤ) → pos 0 ≤ℤ z → decimal (nat_abs z) ≡ signed z
plain-signed (pos n) l = refl
plain-signed (negsuc n) l = absurd l.le
