-- `control::with_area` meets its contract: four values are others. Assumes nothing.
use Rattle.control_model.proofs.Told.{area-told}
use Rattle.control.proofs.with_area.Goals as goal

pub returns : goal.returns
returns c = λ t d e. area-told t _ e d _ _ _ _
