-- `vobsub::Style::pixel_of` meets its contract: clear where alpha is 0, and else the palette's colour. Assumes nothing.
use Rattle.vobsub_model.proofs.Painting.{pixel-clear, pixel-seen}
use Rattle.vobsub.proofs.Style.pixel_of.Goals as goal

pub returns-then-alpha-eq0 : goal.returns-then-alpha-eq0
returns-then-alpha-eq0 c = pixel-clear _ _ _ c.args.c _ c.nibble_of-alpha.ensures c.if-alpha-eq0.true

pub returns : goal.returns
returns c = pixel-seen _ _ _ c.args.c _ c.nibble_of-alpha.ensures c.if-alpha-eq0.false _ c.nibble_of.ensures
