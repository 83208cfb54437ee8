-- `idx_numbers::strip_0x` meets its contract: each turn takes one `0x`. Assumes nothing.
use mathlib.Core.Path.{sym, ◌∙◌}
use Rattle.idx_numbers_model.proofs.Numbers.{bare-past, bare-as-is}
use Rattle.idx_numbers.proofs.strip_0x.Goals as goal

pub loop-shorter-preserved : goal.loop-shorter-preserved
loop-shorter-preserved c =
    c.loop-shorter.invariant ∙ bare-past c.loop-shorter.rest.now c.in-Some.shorter.now c.in-Some.ensures.cases.0 c.in-Some.ensures.cases.1

pub returns : goal.returns
returns c = bare-as-is c.loop-shorter.rest.now c.in_default.ensures.cases ∙ sym c.loop-shorter.invariant
