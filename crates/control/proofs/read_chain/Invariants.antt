-- `control::read_chain` meets its contract: each turn is one block more. Assumes nothing.
use Prim.Native.Nat.{◌-◌}
use Rattle.control_model.proofs.Loops.{Chaining}
use Rattle.control.proofs.read_chain.Given as goal

abbrev pub invariant-loop-pos : goal.invariant-loop-pos
invariant-loop-pos l = Chaining l.blocks.unit.now l.blocks.end l.from l.pos l.told

abbrev pub decreases-loop-pos : goal.decreases-loop-pos
decreases-loop-pos l = 65536 - l.pos
