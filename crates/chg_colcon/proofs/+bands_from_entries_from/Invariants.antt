-- `chg_colcon::bands_from` and `chg_colcon::entries_from` end: each call has fewer bytes left.
use lib.ListN.{length}
use Rattle.chg_colcon.proofs.+bands_from_entries_from.Given as goal

abbrev pub decreases-bands_from : goal.decreases-bands_from
decreases-bands_from l = length l.p.now

abbrev pub decreases-entries_from : goal.decreases-entries_from
decreases-entries_from l = length l.p.now
