-- A duration as a number of signed 64 bits, over plain variables. Assumes nothing.
use Prim.Native.Nat.{◌-◌, ◌^◌, min}
use mathlib.Core.Path.{◌≡◌, ap, ap₂, ◌∙◌}
use native.Mathlib.Omega.{arith}
use lib.Dec.{T}
use lib.IntN.{ℤ, pos, negsuc, ◌-ℤ◌}
use lib.Signed.{non_neg}
use mir.Syntax.{w64}
use mir.Val.{SFits, to_z, of_z}
use mir.Facts.{to_z-of_z}
use Rattle.grammar.specs.IndexCues.{clip}

-- the difference is a number of signed 64 bits, and not below 0
pub record Later (z : ℤ) : Type 0 where
  pub up : T (non_neg z)
  pub fits : SFits w64 z

-- and it is the duration
whole-time : (z : ℤ) → Later z → z ≡ pos (clip z)
whole-time (pos n) h = let e : n ≡ min n (2 ^ 63 - 1) = omega (arith, h.fits.sfits) in ap pos e
whole-time (negsuc n) h = absurd h.up

-- as the machine reads it back from its bits
module _ (a b x y : ℤ) (ea : x ≡ a) (eb : y ≡ b) (later : Later (b -ℤ a)) where
  same : y -ℤ x ≡ b -ℤ a
  same = ap₂ (λ (v w : ℤ). v -ℤ w) eb ea

  pub time-fits : SFits w64 (y -ℤ x)
  time-fits = rw same later.fits

  back : to_z w64 (of_z w64 (y -ℤ x)) ≡ b -ℤ a
  back = ap (λ (z : ℤ). to_z w64 (of_z w64 z)) same ∙ to_z-of_z {w = w64} later.fits

  pub time-is : to_z w64 (of_z w64 (y -ℤ x)) ≡ pos (clip (b -ℤ a))
  time-is = back ∙ whole-time (b -ℤ a) later
