-- `vobsub::shown_of` meets its contract: field by field. Assumes nothing.
use mathlib.Core.Path.{refl}
use Rattle.vobsub.proofs.shown_of.Goals as goal

pub returns : goal.returns
returns c = refl
