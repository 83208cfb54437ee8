-- `control::twelve_from` meets its contract: three nibbles of a word. Assumes nothing.
use native.Mathlib.Omega.{arith}
use Prim.Native.Nat.{◌+◌}
use Rattle.control_model.proofs.Bits.{twelve-from}
use Rattle.control.proofs.twelve_from.Goals as goal

pub returns : goal.returns
returns c = rw c.word_at.ensures (twelve-from c.args.unit.now c.args.q (omega (arith, c.type_inv.unit c.args.q)) (omega (arith, c.type_inv.unit (c.args.q + 1))))
