-- `packets::stuffing` meets its contract: of the bytes FF in front, 16 at most. Assumes nothing.
use mathlib.Core.Path.{◌∙◌}
use Rattle.ps_model.proofs.Body.{stuffed}
use Rattle.packets.proofs.stuffing.Goals as goal

pub returns : goal.returns
returns c = c.leading_ff.ensures ∙ stuffed c.args.pes.now _ c.min.ensures
