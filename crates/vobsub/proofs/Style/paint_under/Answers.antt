-- `vobsub::Style::paint_under` meets its contract: what is left of the line gives the whole. Assumes nothing.
use mathlib.Core.Path.{ap, ◌∙◌}
use lib.ListN.{get_or}
use lib.Seq.{sets}
use Rattle.vobsub_model.proofs.Painting.{painting-starts, painting_goes, painting_ends, line-is, line-done, line-whole, quad_of}
use Rattle.vobsub.proofs.Style.paint_under.Goals as goal

pub loop-i-preserved : goal.loop-i-preserved
loop-i-preserved c =
    painting_goes _ _ _ _ c.loop-i.i _ c.loop-i.invariant c.loop-i-test.true _ (quad_of _ _ _ _ _ c.pixel_of-p.ensures) (line-is _ _ c.args.place.x c.args.place.y c.loop-i.i (get_or c.args.row.now c.loop-i.i 0) _ _ _ _ c.look_at-four.ensures c.pixel_of-p.ensures) _ c.put4.ensures

pub returns : goal.returns
returns c =
    painting_ends _ _ _ _ c.loop-i.i _ c.loop-i.invariant c.loop-i-test.false (line-done _ _ c.args.place.x c.args.place.y c.loop-i.i)
    ∙ ap (sets c.args.canvas.now c.args.at) (line-whole _ _ c.args.place.x c.args.place.y c.args.row.now)
