-- `control::with_offsets` meets its contract: two values are others. Assumes nothing.
use Rattle.control_model.proofs.Told.{offsets-told}
use Rattle.control.proofs.with_offsets.Goals as goal

pub returns : goal.returns
returns c = λ t d e. offsets-told t _ e d _ _
