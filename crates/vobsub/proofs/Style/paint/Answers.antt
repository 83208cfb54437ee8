-- `vobsub::Style::paint` meets its contract: the lines left give the whole. Assumes nothing.
use native.Mathlib.Omega.{arith}
use Rattle.vobsub_model.proofs.Painting.{line-room, lines_start, lines-go, lines_end}
use Rattle.vobsub.proofs.Style.paint.Goals as goal

pub loop-r-preserved : goal.loop-r-preserved
loop-r-preserved c =
    let m = line-room c.args.map.width c.args.map.height c.loop-r.r c.loop-r-test.true in
    let b = c.args.map.whole in
    lines-go _ _ _ _ _ _ _ _ c.loop-r.r c.loop-r.canvas c.loop-r.invariant c.loop-r-test.true (omega arith) _ c.row-row.ensures _ c.paint_line.ensures

pub returns : goal.returns
returns c = lines_end _ _ _ _ _ _ _ _ c.loop-r.r _ c.loop-r.invariant (omega arith)
