-- `bands::fill_commands` meets its contract: each turn stores one command's words. Assumes nothing.
use Prim.Native.Nat.{◌-◌}
use Rattle.control_model.proofs.Fill.{Filling}
use Rattle.bands.proofs.fill_commands.Given as goal

abbrev pub invariant-loop-at : goal.invariant-loop-at
invariant-loop-at l = Filling l.blocks.unit.now l.blocks.end l.from l.start l.initial.words l.at l.to l.words

abbrev pub decreases-loop-at : goal.decreases-loop-at
decreases-loop-at l = l.blocks.end - l.at
