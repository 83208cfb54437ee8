-- `idx_numbers::until` meets its contract: each turn passes eight bytes over. Assumes nothing.
use native.Mathlib.Omega.{arith}
use Rattle.grammar.specs.IndexParts.{unlike}
use Rattle.idx_numbers_model.proofs.Loops.{skip_block, near-end, front-le}
use Rattle.idx_numbers.proofs.until.Goals as goal

pub loop-i-preserved : goal.loop-i-preserved
loop-i-preserved c = (omega arith, skip_block _ _ _ c.loop-i.invariant.0 c.loop-i.invariant.1 _ c.eight_have.ensures c.if-eight_have.false (omega arith))

pub overflow_add-result : goal.overflow_add-result
overflow_add-result c =
    omega (arith, near-end _ _ _ c.loop-i.invariant.0 c.loop-i.invariant.1 _ c.near.ensures, front-le (unlike c.args.sep) c.args.s.now)

pub overflow_add-result-2 : goal.overflow_add-result-2
overflow_add-result-2 c =
    omega (arith, near-end _ _ _ c.loop-i.invariant.0 c.loop-i.invariant.1 _ c.near-2.ensures, front-le (unlike c.args.sep) c.args.s.now)
