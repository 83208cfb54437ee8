-- Signed sums that stay in 64 bits, or leave them. Assumes nothing.
use mathlib.Core.Path.{◌≡◌, refl, ap, ◌∙◌}
use mathlib.Core.Bool.{Bool, true, false, cond}
use Prim.Native.Nat.{ℕ, suc, ◌-◌, ◌<◌, ◌≤◌, ◌^◌}
use native.Mathlib.Omega.{arith}
use borrow.Author.Tests.{lt-ltb, ltb-true}
use lib.Dec.{ltb, ltb→lt}
use lib.IntN.{ℤ, pos, negsuc, sub_ℕ, ◌+ℤ◌}
use lib.Signed.{mag, lt_z, lt_z_yes, lt_z_no, ◌<ℤ◌, ◌≤ℤ◌}
use mir.Syntax.{w64}
use mir.Val.{SFits, to_z}
use Rattle.clock_model.specs.Sums.{checked, pick}
use Rattle.std.specs.Prelude.{Option, Some as some, None as none, SomeIff}

-- a signed test's fact
pub yes_lt : {a b : ℤ} → lt_z a b ≡ true → a <ℤ b
yes_lt e = lt_z_yes (rw e tt)

pub no_lt : {a b : ℤ} → lt_z a b ≡ false → b ≤ℤ a
no_lt {a} {b} e = lt_z_no {a = a} {b = b} (rw e tt)

-- a number of std's methods that stays, or none
pub checked_is : (z : ℤ) (o : Option ℤ) → SomeIff o (SFits w64 z) z → o ≡ checked z
unfolding checked
checked_is z (some y) h = simp (lt-ltb (mag z) (2 ^ 63) h.0.sfits) (ap some h.1)
checked_is z none h = go (ltb (mag z) (2 ^ 63)) refl
  where
    go : (t : Bool) → ltb (mag z) (2 ^ 63) ≡ t → none ≡ pick t (some z) none
    go true q = absurd (h (record { sfits = ltb-true (mag z) (2 ^ 63) q }))
    go false q = refl

-- ---- a sum
sub-mag : (a b : ℕ) → a < 2 ^ 63 → b ≤ 2 ^ 63 → mag (sub_ℕ a b) < 2 ^ 63
sub-mag a b h k = go (ltb a b) refl
  where
    go : (t : Bool) → ltb a b ≡ t → mag (cond t (negsuc (b - suc a)) (pos (a - b))) < 2 ^ 63
    go true e = omega (arith, ltb-true a b e)
    go false e = omega arith

neg-only : {X : Type 0} (n : ℕ) → pos n <ℤ pos 0 → X
neg-only n h = absurd (omega (arith, ltb→lt n 0 h.lt))

-- one below 0
pub mixed_right : (a b : ℤ) → SFits w64 a → SFits w64 b → pos 0 ≤ℤ a → b <ℤ pos 0 → SFits w64 (a +ℤ b)
mixed_right a (pos n) f g h k = neg-only n k
mixed_right (pos m) (negsuc n) f g h k = record { sfits = sub-mag m (suc n) f.sfits g.sfits }
mixed_right (negsuc m) (negsuc n) f g h k = absurd h.le

-- ---- a number that stays, as the machine reads it back signed
pub cast_is : (m n : ℕ) → m ≡ n → n < 2 ^ 63 → to_z w64 m ≡ pos n
cast_is m n e h = ap (to_z w64) e ∙ rw (lt-ltb n (2 ^ 63) h)
