-- `idx::is_low` meets its contract: each turn tests one byte more. Assumes nothing.
use mathlib.Core.Path.{◌≡◌}
use lib.ListN.{take}
use Rattle.idx_numbers_model.specs.Parts.{all}
use Rattle.idx_model.specs.Text.{low_byte}
use Rattle.idx.proofs.is_low.Given as goal

abbrev pub invariant-loop-b : goal.invariant-loop-b
invariant-loop-b l = l.low ≡ all low_byte (take l.b-index l.s)
