-- `bands::fill_chain` meets its contract: each turn stores one block's words. Assumes nothing.
use Prim.Native.Nat.{◌-◌}
use Rattle.control_model.proofs.Fill.{ChainFilling}
use Rattle.bands.proofs.fill_chain.Given as goal

abbrev pub invariant-loop-pos : goal.invariant-loop-pos
invariant-loop-pos l = ChainFilling l.blocks.unit.now l.blocks.end l.from l.initial.words l.pos l.to l.words

abbrev pub decreases-loop-pos : goal.decreases-loop-pos
decreases-loop-pos l = 65536 - l.pos
