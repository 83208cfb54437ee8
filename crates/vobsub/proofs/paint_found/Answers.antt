-- `vobsub::paint_found` meets its contract: the unit's bytes, painted. Assumes nothing.
use Rattle.vobsub_model.proofs.Loops.{found-painted}
use Rattle.vobsub.proofs.paint_found.Goals as goal

pub returns : goal.returns
returns c =
    found-painted _ _ _ _ _ _ _ _ (c.unit_part-bytes.ensures 0) c.paint_unit.ensures
