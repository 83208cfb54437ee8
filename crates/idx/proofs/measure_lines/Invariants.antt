-- `idx::measure_lines` meets its contract: each turn is one line more. Assumes nothing.
use Prim.Native.Nat.{◌+◌, ◌-◌}
use lib.ListN.{length}
use Rattle.idx_model.proofs.Loops.{Measuring}
use Rattle.idx.proofs.measure_lines.Given as goal

abbrev pub invariant-loop-line : goal.invariant-loop-line
invariant-loop-line l = Measuring l.text l.room l.cue l.initial.palette l.i l.seen l.palette

abbrev pub decreases-loop-line : goal.decreases-loop-line
decreases-loop-line l = length l.text + 1 - l.i
