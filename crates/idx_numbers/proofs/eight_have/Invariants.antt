-- `idx_numbers::eight_have` meets its contract: each turn tests one byte more. Assumes nothing.
use mathlib.Core.Path.{◌≡◌}
use mathlib.Core.Bool.{not}
use lib.ListN.{take}
use Rattle.grammar.specs.IndexParts.{unlike}
use Rattle.idx_numbers_model.specs.Parts.{all}
use Rattle.idx_numbers.proofs.eight_have.Given as goal

abbrev pub invariant-loop-b : goal.invariant-loop-b
invariant-loop-b l = l.hit ≡ not (all (unlike l.sep) (take l.b-index l.b-items))
