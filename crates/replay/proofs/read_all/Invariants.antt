-- `replay::read_all` is safe and ends: a turn that goes on has read a byte at least. Assumes nothing.
use Rattle.std.proofs.Common.{length, ◌-◌}
use Rattle.replay.proofs.read_all.Given as goal

abbrev pub decreases-loop-done : goal.decreases-loop-done
decreases-loop-done g l = length l.initial.s - l.done
