-- `spu::ending` meets its contract: by the order of two places. Assumes nothing.
use mathlib.Core.Path.{◌∙◌}
use Rattle.spu_model.proofs.Loops.{end-at-bottom, end-at-control}
use Rattle.spu.proofs.ending.Goals as goal

pub returns-then-top-bottom : goal.returns-then-top-bottom
returns-then-top-bottom c = c.min.ensures ∙ end-at-bottom _ _ _ c.if-top-bottom.true

pub returns : goal.returns
returns c = end-at-control _ _ _ c.if-top-bottom.false
