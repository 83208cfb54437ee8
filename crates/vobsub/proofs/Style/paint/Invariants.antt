-- `vobsub::Style::paint` meets its contract: the lines left give the whole. Assumes nothing.
use Rattle.vobsub_model.specs.Paint.{look_is, word_look}
use Rattle.vobsub_model.proofs.Painting.{Lines}
use Rattle.vobsub.proofs.Style.paint.Given as goal

abbrev pub invariant-loop-r : goal.invariant-loop-r
invariant-loop-r l =
    Lines l.self.palette (word_look l.self.words.now (look_is l.self.own.selectors l.self.own.alphas)) l.place.x l.place.y l.map.width l.map.height l.map.pixels.now l.initial.canvas l.r l.canvas
