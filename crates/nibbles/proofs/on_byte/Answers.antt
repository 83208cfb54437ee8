-- `nibbles::on_byte` meets its contract. Assumes nothing.
use native.Mathlib.Omega.{arith}
use Rattle.rle_model.proofs.Nibbles.{on_byte-next}
use Rattle.nibbles.proofs.on_byte.Goals as goal

pub returns-then-pos-field : goal.returns-then-pos-field
returns-then-pos-field c = on_byte-next c.args.pos (λ z. omega (arith, c.if-pos-field.true, c.well_formed.0.1, z))

pub returns : goal.returns
returns c = on_byte-next c.args.pos c.if-pos-eq18446744073709551615.false
