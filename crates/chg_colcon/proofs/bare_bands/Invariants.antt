-- `chg_colcon::bare_bands` meets its contract: each turn reads a band more, and what is read so far stands in front. Assumes nothing.
use Prim.Native.Nat.{◌-◌}
use lib.ListN.{length, drop}
use Rattle.bands_model.specs.Bands.{bands_of}
use Rattle.bands_model.specs.Answers.{Ahead}
use Rattle.chg_colcon.proofs.bare_bands.Given as goal

abbrev pub invariant-loop-first : goal.invariant-loop-first
invariant-loop-first l = Ahead l.p (bands_of l.p) (bands_of (drop l.i l.p)) l.from l.initial.out l.i l.at l.out

abbrev pub decreases-loop-first : goal.decreases-loop-first
decreases-loop-first l = length l.p - l.i
