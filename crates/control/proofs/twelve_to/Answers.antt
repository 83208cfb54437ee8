-- `control::twelve_to` meets its contract: three nibbles of a word. Assumes nothing.
use native.Mathlib.Omega.{arith}
use Prim.Native.Nat.{◌+◌}
use Rattle.control_model.proofs.Bits.{twelve_to}
use Rattle.control.proofs.twelve_to.Goals as goal

pub returns : goal.returns
returns c = rw c.word_at.ensures (twelve_to c.args.unit.now c.args.q (omega (arith, c.type_inv.unit (c.args.q + 1))))
