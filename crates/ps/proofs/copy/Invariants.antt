-- `ps::copy` meets its contract: each turn is one byte more. Assumes nothing.
use lib.ListN.{take, drop}
use Rattle.outcome.proofs.Laws.{Copying}
use Rattle.ps.proofs.copy.Given as goal

abbrev pub invariant-loop-i : goal.invariant-loop-i
invariant-loop-i l = Copying (take l.m (drop l.a l.file)) l.initial.scratch l.to l.i l.scratch
