-- A signed number as a sign and a number, for casting it. Assumes nothing.
use Prim.Native.Nat.{suc, ◌-◌, ◌^◌, ◌<◌}
use mathlib.Core.Path.{◌≡◌, refl, ap, ◌∙◌}
use mathlib.Core.Bool.{Bool, true, false, cond}
use native.Mathlib.Omega.{arith}
use lib.Dec.{T, ltb, ltb→lt}
use lib.IntN.{ℤ, pos, negsuc, nat_abs, ◌-ℤ◌}
use lib.Signed.{mag, non_neg, ◌<ℤ◌, ◌≤ℤ◌}
use mir.Syntax.{w64}
use mir.Val.{Fits, SFits, to_z, of_z}
use mir.Facts.{to_z-of_z, Fits-nat_abs}
use borrow.Author.Tests.{ltb-true}

-- -1 less z, for a z below 0
record Up (z : ℤ) : Type 0 where
  up : T (non_neg z)
  below : mag z < 2 ^ 63
  same : nat_abs z ≡ mag z

flipped : (z : ℤ) → SFits w64 z → z <ℤ pos 0 → Up (negsuc 0 -ℤ z)
flipped (pos n) f h = absurd (omega (arith, ltb→lt n 0 h.lt))
flipped (negsuc m) f h = go (ltb (suc m) 1) refl
  where
    go : (t : Bool) → ltb (suc m) 1 ≡ t → Up (cond t (negsuc (1 - suc (suc m))) (pos (suc m - 1)))
    go true e = absurd (omega (arith, ltb-true (suc m) 1 e))
    go false e = record { up = tt; below = omega (arith, f.sfits); same = refl }

module _ (z y : ℤ) (f : SFits w64 z) (e : y ≡ z) where
  module _ (h : z <ℤ pos 0) where
    pub minus_fits : SFits w64 (negsuc 0 -ℤ y)
    minus_fits = rw e (record { sfits = (flipped z f h).below })

    back : to_z w64 (of_z w64 (negsuc 0 -ℤ y)) ≡ negsuc 0 -ℤ z
    back = to_z-of_z {w = w64} minus_fits ∙ ap (λ (x : ℤ). negsuc 0 -ℤ x) e

    pub minus_cast : (T (non_neg (to_z w64 (of_z w64 (negsuc 0 -ℤ y))))) × Fits w64 (nat_abs (to_z w64 (of_z w64 (negsuc 0 -ℤ y))))
    minus_cast = rw back ((flipped z f h).up, record { fits = omega (arith, (flipped z f h).same, (flipped z f h).below) })

    pub minus_below : nat_abs (to_z w64 (of_z w64 (negsuc 0 -ℤ y))) < 2 ^ 63
    minus_below = rw back (omega (arith, (flipped z f h).same, (flipped z f h).below))

  pub plain_cast : pos 0 ≤ℤ z → (T (non_neg y)) × Fits w64 (nat_abs y)
  plain_cast h = rw e (up z h, Fits-nat_abs {w = w64} {w' = w64} tt f)
    where
      up : (x : ℤ) → pos 0 ≤ℤ x → T (non_neg x)
      up (pos n) l = tt
      up (negsuc n) l = absurd l.le
