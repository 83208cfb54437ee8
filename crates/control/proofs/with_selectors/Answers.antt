-- `control::with_selectors` meets its contract: one value is another. Assumes nothing.
use Rattle.control_model.proofs.Told.{selectors-told}
use Rattle.control.proofs.with_selectors.Goals as goal

pub returns : goal.returns
returns c = λ t d e. selectors-told t _ e d _
