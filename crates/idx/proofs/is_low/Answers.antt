-- `idx::is_low` meets its contract: each turn tests one byte more. Assumes nothing.
use native.Mathlib.Omega.{arith}
use mathlib.Core.Path.{◌∙◌}
use Rattle.idx_model.proofs.Loops.{low-starts, low_lost, low-kept, low-done}
use Rattle.idx.proofs.is_low.Goals as goal
use Rattle.idx.proofs.is_low.Goals.{then-b-ge128, else-b-ge128}

pub loop-b-preserved : goal.loop-b-preserved
loop-b-preserved c =
    elim c.if-b-ge128.branch [
      | then-b-ge128 w ↦ w.low-is ∙ low_lost c.args.s.now c.loop-b.low c.loop-b.b-index c.loop-b.invariant c.loop-b-test.true w.if-b-ge128.true
      | else-b-ge128 w ↦ w.low-is ∙ low-kept c.args.s.now c.loop-b.low c.loop-b.b-index c.loop-b.invariant c.loop-b-test.true w.if-b-ge128.false
    ]

pub loop-b-init : goal.loop-b-init
loop-b-init c = low-starts c.args.s.now
