-- `idx_lines::find_parts` meets its contract: each turn is one part more. Assumes nothing.
use native.Mathlib.Omega.{arith}
use Rattle.idx_lines_model.proofs.Places.{end_in, finding-next, finding_done}
use Rattle.idx_lines.proofs.find_parts.Goals as goal

pub returns-then-e-s : goal.returns-then-e-s
returns-then-e-s c =
    finding_done c.args.s.now c.loop-found.i c.until.result c.loop-found.invariant.inside c.until.ensures c.trim-part.result.now c.trim-part.ensures c.loop-found.found c.loop-found.invariant c.noted-found.result c.noted-found.ensures c.if-e-s.true

pub loop-found-preserved : goal.loop-found-preserved
loop-found-preserved c =
    finding-next c.args.s.now c.loop-found.i c.until.result c.loop-found.invariant.inside c.until.ensures c.trim-part.result.now c.trim-part.ensures c.loop-found.found c.loop-found.invariant c.noted-found.result c.noted-found.ensures c.if-e-s.false

pub overflow_add-e : goal.overflow_add-e
overflow_add-e c = omega (arith, end_in c.args.s.now c.loop-found.i c.until.result c.loop-found.invariant.inside c.until.ensures)

pub slice_bounds-trim-end : goal.slice_bounds-trim-end
slice_bounds-trim-end c = end_in c.args.s.now c.loop-found.i c.until.result c.loop-found.invariant.inside c.until.ensures
