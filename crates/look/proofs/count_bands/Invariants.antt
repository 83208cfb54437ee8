-- `look::count_bands` meets its contract: those counted and those in what is left are all. Assumes nothing.
use Prim.Native.Nat.{◌+◌, ◌*◌, ◌≤◌}
use mathlib.Core.Path.{◌≡◌}
use lib.ListN.{length}
use Rattle.bands_model.specs.Count.{counting}
use Rattle.look.proofs.count_bands.Given as goal

abbrev pub invariant-loop-band : goal.invariant-loop-band
invariant-loop-band l = (3 * l.bands + length l.rest ≤ length l.words) × (l.bands + counting 0 l.rest ≡ counting 0 l.words)

abbrev pub decreases-loop-band : goal.decreases-loop-band
decreases-loop-band l = length l.rest
