-- `idx_numbers::digits` meets its contract: each turn is one digit more. Assumes nothing.
use mathlib.Core.Path.{◌≡◌}
use Prim.Native.Nat.{◌≤◌, ◌-◌, ◌+◌, ◌*◌}
use lib.ListN.{length, drop}
use Rattle.idx_numbers_model.specs.Answers.{run_after, run_of}
use Rattle.idx_numbers.proofs.digits.Given as goal

abbrev pub invariant-loop-i : goal.invariant-loop-i
invariant-loop-i g l = (l.i ≤ length l.s) × (l.acc ≤ l.most * g.row.BASE + l.last) × (run_of g.row.BASE (l.most * g.row.BASE + l.last) l.s ≡ run_after g.row.BASE (l.most * g.row.BASE + l.last) l.i l.acc (drop l.i l.s))

abbrev pub decreases-loop-i : goal.decreases-loop-i
decreases-loop-i g l = length l.s - l.i
