-- `control::with_area_at` meets its contract: four numbers of three nibbles. Assumes nothing.
use mathlib.Core.Path.{◌∙◌}
use Rattle.control_model.proofs.Told.{area-read}
use Rattle.control.proofs.with_area_at.Goals as goal

pub returns : goal.returns
returns c = λ t d e. c.with_area.ensures t d e ∙ area-read _ _ t d _ _ _ _ c.twelve_from-x1.ensures c.twelve_to-x2.ensures c.twelve_from-y1.ensures c.twelve_to-y2.ensures
