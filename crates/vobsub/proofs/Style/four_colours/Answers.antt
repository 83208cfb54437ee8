-- `vobsub::Style::four_colours` meets its contract: four pixels. Assumes nothing.
use Rattle.vobsub_model.proofs.Painting.{four_are}
use Rattle.vobsub.proofs.Style.four_colours.Goals as goal

pub returns : goal.returns
returns c = four_are _ _ _ _ _ _ c.pixel_of-a.ensures c.pixel_of-b.ensures c.pixel_of-c.ensures c.pixel_of-d.ensures
