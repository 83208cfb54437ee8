-- `vobsub::Style::paint_under` meets its contract: what is left of the line gives the whole. Assumes nothing.
use Prim.Native.Nat.{◌-◌}
use lib.ListN.{length}
use Rattle.vobsub_model.specs.Paint.{look_is, word_look}
use Rattle.vobsub_model.proofs.Painting.{Painting, line_from}
use Rattle.vobsub.proofs.Style.paint_under.Given as goal

abbrev pub invariant-loop-i : goal.invariant-loop-i
invariant-loop-i l =
    Painting (line_from l.self.palette (word_look l.self.words.now (look_is l.self.own.selectors l.self.own.alphas)) l.place.x l.place.y) l.row l.initial.canvas l.at l.i l.canvas

abbrev pub decreases-loop-i : goal.decreases-loop-i
decreases-loop-i l = length l.row - l.i
