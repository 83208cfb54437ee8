-- `control::with_alphas` meets its contract: one value is another. Assumes nothing.
use Rattle.control_model.proofs.Told.{alphas-told}
use Rattle.control.proofs.with_alphas.Goals as goal

pub returns : goal.returns
returns c = λ t d e. alphas-told t _ e d _
