-- `idx_numbers::trim` meets its contract. Assumes nothing.
use Rattle.idx_numbers_model.proofs.Loops.{lead-le, trim-ends, trim-long}
use Rattle.idx_numbers.proofs.trim.Goals as goal

pub returns : goal.returns
returns c = trim-ends c.args.s.now _ c.blanks-a.ensures _ c.kept-n.ensures

pub slice_bounds-m-count : goal.slice_bounds-m-count
slice_bounds-m-count c = lead-le _ _ c.blanks-a.ensures

pub slice_bounds-m-start : goal.slice_bounds-m-start
slice_bounds-m-start c = lead-le _ _ c.blanks-a.ensures

pub slice_bounds-result-end : goal.slice_bounds-result-end
slice_bounds-result-end c = trim-long c.args.s.now _ c.blanks-a.ensures _ c.kept-n.ensures
