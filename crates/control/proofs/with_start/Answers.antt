-- `control::with_start` meets its contract: the first start counts. Assumes nothing.
use Rattle.control_model.proofs.Told.{started-told, start-told}
use Rattle.control.proofs.with_start.Goals as goal

pub returns-then-spu : goal.returns-then-spu
returns-then-spu c = λ t e. started-told t _ e _ c.if-spu.true

pub returns : goal.returns
returns c = λ t e. start-told t _ e _ c.if-spu.false
