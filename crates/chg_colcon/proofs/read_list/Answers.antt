-- `chg_colcon::read_list` meets its contract: each turn reads at least one item more, and what is read so far stands in front. Assumes nothing.
use native.Mathlib.Omega.{arith}
use Rattle.bands_model.proofs.Loops.{reading-ends, reading-fails, reading-less, reading-goes, list_ends, list_fails}
use Rattle.chg_colcon.proofs.read_list.Goals as goal

pub overflow_sub-result : goal.overflow_sub-result
overflow_sub-result c = omega (arith, (reading-ends _ _ _ _ _ _ _ _ _ c.loop-to.invariant 4 _ c.go_on.ensures _ c.in-End.is).place)

pub returns-in-End : goal.returns-in-End
returns-in-End c = list_ends _ _ _ _ _ (reading-ends _ _ _ _ _ _ _ _ _ c.loop-to.invariant 4 _ c.go_on.ensures _ c.in-End.is)

pub returns-in-Bad : goal.returns-in-Bad
returns-in-Bad c = list_fails _ _ _ _ (reading-fails _ _ _ _ _ _ _ _ _ c.loop-to.invariant 4 _ c.go_on.ensures c.in-Bad.is)

pub loop-to-smaller : goal.loop-to-smaller
loop-to-smaller c = omega (arith, reading-less _ _ _ _ _ _ _ _ _ c.loop-to.invariant 4 _ c.go_on.ensures _ _ _ _ c.in-More.is)

pub loop-to-preserved : goal.loop-to-preserved
loop-to-preserved c = reading-goes _ _ _ _ _ _ _ _ _ c.loop-to.invariant 4 _ c.go_on.ensures _ _ _ _ c.in-More.is
