-- `idx_numbers::eight_have` meets its contract: each turn tests one byte more. Assumes nothing.
use mathlib.Core.Path.{◌∙◌}
use lib.ListN.{take, drop}
use Prim.Native.Nat.{◌+◌, ◌-◌}
use Rattle.idx_numbers_model.proofs.Loops.{block-starts, block-hit, block-pass}
use Rattle.idx_numbers.proofs.eight_have.Goals as goal
use Rattle.idx_numbers.proofs.eight_have.Goals.{then-b-sep, else-b-sep}

pub loop-b-preserved : goal.loop-b-preserved
loop-b-preserved c =
    elim c.if-b-sep.branch [
      | then-b-sep w ↦ w.hit-is ∙ block-hit c.args.sep (take (c.args.i + 8 - c.args.i) (drop c.args.i c.args.s.now)) c.loop-b.hit c.loop-b.b-index c.loop-b.invariant c.loop-b-test.true w.if-b-sep.true
      | else-b-sep w ↦ w.hit-is ∙ block-pass c.args.sep (take (c.args.i + 8 - c.args.i) (drop c.args.i c.args.s.now)) c.loop-b.hit c.loop-b.b-index c.loop-b.invariant c.loop-b-test.true w.if-b-sep.false
    ]

pub loop-b-init : goal.loop-b-init
loop-b-init c = block-starts c.args.sep (take (c.args.i + 8 - c.args.i) (drop c.args.i c.args.s.now))
