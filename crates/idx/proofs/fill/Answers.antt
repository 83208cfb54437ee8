-- `idx::fill` meets its contract: each turn is one line more. Assumes nothing.
use native.Mathlib.Omega.{arith}
use Rattle.idx_model.proofs.Loops.{line-in}
use Rattle.idx_model.proofs.Stores.{filling-starts, fill_fits, filling-next, filling_done, long-starts, long_positions}
use Rattle.idx.proofs.fill.Goals as goal

pub returns-then-e-text : goal.returns-then-e-text
returns-then-e-text c =
    filling_done c.args.text.now c.loop-palette.i c.until.result c.loop-palette.invariant.inside c.until.ensures c.trim-l.result.now c.trim-l.ensures _ _ c.read_line-line.result c.read_line-line.ensures c.args.starts.now c.args.positions.now c.loop-palette.starts c.loop-palette.positions c.loop-palette.n c.loop-palette.invariant _ _ _ c.store_cue-n.ensures c.if-e-text.true

pub loop-palette-preserved : goal.loop-palette-preserved
loop-palette-preserved c =
    filling-next c.args.text.now c.loop-palette.i c.until.result c.loop-palette.invariant.inside c.until.ensures c.trim-l.result.now c.trim-l.ensures _ _ c.read_line-line.result c.read_line-line.ensures c.args.starts.now c.args.positions.now c.loop-palette.starts c.loop-palette.positions c.loop-palette.n c.loop-palette.invariant _ _ _ c.store_cue-n.ensures c.if-e-text.false

pub loop-palette-init : goal.loop-palette-init
loop-palette-init c = filling-starts c.args.text.now c.args.starts.now c.args.positions.now c.requires

pub overflow_add-e : goal.overflow_add-e
overflow_add-e c = omega (arith, line-in c.args.text.now c.loop-palette.i c.until.result c.loop-palette.invariant.inside c.until.ensures)

pub slice_bounds-trim-end : goal.slice_bounds-trim-end
slice_bounds-trim-end c = line-in c.args.text.now c.loop-palette.i c.until.result c.loop-palette.invariant.inside c.until.ensures

pub store_cue-n-requires : goal.store_cue-n-requires
store_cue-n-requires c =
    fill_fits c.args.text.now c.loop-palette.i c.until.result c.loop-palette.invariant.inside c.until.ensures c.trim-l.result.now c.trim-l.ensures _ _ c.read_line-line.result c.read_line-line.ensures c.args.starts.now c.args.positions.now c.loop-palette.starts c.loop-palette.positions c.loop-palette.n c.loop-palette.invariant
