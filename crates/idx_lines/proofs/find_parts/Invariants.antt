-- `idx_lines::find_parts` meets its contract: each turn is one part more. Assumes nothing.
use Prim.Native.Nat.{◌+◌, ◌-◌}
use lib.ListN.{length}
use Rattle.idx_lines_model.proofs.Places.{Finding}
use Rattle.idx_lines.proofs.find_parts.Given as goal

abbrev pub invariant-loop-found : goal.invariant-loop-found
invariant-loop-found l = Finding l.s l.i l.found

abbrev pub decreases-loop-found : goal.decreases-loop-found
decreases-loop-found l = length l.s + 1 - l.i
