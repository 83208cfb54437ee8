-- `control::with_bands` meets its contract: words are added. Assumes nothing.
use Rattle.control_model.proofs.Told.{bands-told}
use Rattle.control.proofs.with_bands.Goals as goal

pub returns : goal.returns
returns c = λ t d n bs h e. bands-told t _ e d n _ bs h
