-- `control::read_commands` meets its contract: each turn is one command more. Assumes nothing.
use Prim.Native.Nat.{◌-◌}
use Rattle.control_model.proofs.Loops.{Commanding}
use Rattle.control.proofs.read_commands.Given as goal

abbrev pub invariant-loop-at : goal.invariant-loop-at
invariant-loop-at l = Commanding l.blocks.unit.now l.blocks.end l.delay l.from l.initial.told l.at l.told

abbrev pub decreases-loop-at : goal.decreases-loop-at
decreases-loop-at l = l.blocks.end - l.at
