-- `listing::put_signed` meets its contract: a `-` where the number is below 0, and the number without it. Assumes nothing.
use native.Mathlib.Omega.{arith}
use Prim.Native.Nat.{ℕ}
use mathlib.Core.Path.{◌≡◌, ap, ◌∙◌}
use mathlib.Core.List.{List, ◌∷◌}
use lib.IntN.{ℤ, nat_abs}
use Rattle.listing_model.specs.Lines.{decimal}
use mir.Syntax.{w64}
use mir.Facts.{to_z-of_z}
use Rattle.clock_model.proofs.Sums.{yes_lt, no_lt}
use Rattle.listing_model.proofs.Laws.{put_put, put_in, put_as}
use Rattle.listing_model.proofs.Signed.{abs_short, minus-signed, plain-signed}
use Rattle.listing.proofs.Line.put_signed.Goals.{then-z-lt0, else-z-lt0}
use Rattle.listing.proofs.Line.put_signed.Goals as goal

pub put_decimal-requires : goal.put_decimal-requires
put_decimal-requires c =
    let q = c.requires in
    let s = abs_short c.unsigned_abs.result c.unsigned_abs.ensures.bound in
    elim c.if-z-lt0.branch [
      | then-z-lt0 w ↦ let p = w.put_byte.ensures.put.next in rw w.self-is (omega arith)
      | else-z-lt0 w ↦ rw w.self-is (omega arith)
    ]

-- a number of 64 bits, as the machine has it
abs_same : (y z : ℤ) → y ≡ z → (n : ℕ) → n ≡ nat_abs y → decimal n ≡ decimal (nat_abs z)
abs_same y z e n h = ap decimal (h ∙ ap nat_abs e)

pub returns-clause-put : goal.returns-clause-put
returns-clause-put c =
    let s = abs_short c.unsigned_abs.result c.unsigned_abs.ensures.bound in
    let e = to_z-of_z {w = w64} c.ranges.z in
    let d = abs_same _ _ e _ c.unsigned_abs.ensures.value in
    elim c.if-z-lt0.branch [
      | then-z-lt0 w ↦
          let p = rw w.self-is at c.put_decimal.ensures.put in
          let z = minus-signed c.args.z (yes_lt (rw e at w.if-z-lt0.true)) in
          put_in 20 (omega arith) (put_as (ap (λ (x : List ℕ). 45 ∷ x) d ∙ z) (put_put w.put_byte.ensures.put p))
      | else-z-lt0 w ↦
          let p = rw w.self-is at c.put_decimal.ensures.put in
          let z = plain-signed c.args.z (no_lt (rw e at w.if-z-lt0.false)) in
          put_in 20 (omega arith) (put_as (d ∙ z) p)
    ]
