-- `control::with_stop` meets its contract: the last stop counts. Assumes nothing.
use Rattle.control_model.proofs.Told.{stop-told}
use Rattle.control.proofs.with_stop.Goals as goal

pub returns : goal.returns
returns c = λ t e. stop-told t _ e _
