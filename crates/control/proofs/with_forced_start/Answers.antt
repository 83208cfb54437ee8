-- `control::with_forced_start` meets its contract: a start, and it was forced. Assumes nothing.
use Rattle.control_model.proofs.Told.{forced-told}
use Rattle.control.proofs.with_forced_start.Goals as goal

pub returns : goal.returns
returns c = λ t e. forced-told t _ _ (c.with_start.ensures t e)
