-- `chg_colcon::read_list` meets its contract: each turn reads at least one item more, and what is read so far stands in front. Assumes nothing.
use Rattle.bands_model.proofs.Loops.{Reading}
use Rattle.chg_colcon.proofs.read_list.Given as goal

abbrev pub invariant-loop-to : goal.invariant-loop-to
invariant-loop-to l = Reading l.payload l.from l.initial.out l.rest l.left l.lo l.at l.out

abbrev pub decreases-loop-to : goal.decreases-loop-to
decreases-loop-to l = l.rest
