-- `nibbles::nibble_at` meets its contract. Assumes nothing.
use native.Mathlib.Omega.{arith}
use mathlib.Core.Path.{ap}
use Rattle.outcome.specs.Outcome.{ok}
use Rattle.rle_model.proofs.Nibbles.{inside, nibble-low}
use Rattle.nibbles.proofs.nibble_at.Goals as goal

pub returns : goal.returns
returns c =
    let a = c.args in
    rw (inside _ _ c.if-field-i.false) (ap ok (omega (arith, nibble-low a.field.now a.pos (omega arith))))
