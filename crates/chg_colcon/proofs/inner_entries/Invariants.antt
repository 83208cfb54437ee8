-- `chg_colcon::inner_entries` meets its contract: each turn reads an entry more, and what is read so far stands in front. Assumes nothing.
use Prim.Native.Nat.{◌≤◌}
use lib.ListN.{drop}
use Rattle.bands_model.specs.Bands.{entries_of}
use Rattle.bands_model.specs.Answers.{Ahead}
use Rattle.chg_colcon.proofs.inner_entries.Given as goal

abbrev pub invariant-loop-left : goal.invariant-loop-left
invariant-loop-left l = (1 ≤ l.left) × Ahead l.p (entries_of l.p l.count l.least) (entries_of (drop l.i l.p) l.left l.lo) l.from l.initial.out l.i l.at l.out

abbrev pub decreases-loop-left : goal.decreases-loop-left
decreases-loop-left l = l.left
