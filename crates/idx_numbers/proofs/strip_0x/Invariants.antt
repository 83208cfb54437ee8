-- `idx_numbers::strip_0x` meets its contract: each turn takes one `0x`. Assumes nothing.
use mathlib.Core.Path.{◌≡◌}
use lib.ListN.{length}
use Rattle.idx_numbers_model.specs.Numbers.{bare}
use Rattle.idx_numbers.proofs.strip_0x.Given as goal

abbrev pub invariant-loop-shorter : goal.invariant-loop-shorter
invariant-loop-shorter l = bare l.s ≡ bare l.rest

abbrev pub decreases-loop-shorter : goal.decreases-loop-shorter
decreases-loop-shorter l = length l.rest
