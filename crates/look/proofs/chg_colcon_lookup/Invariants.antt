-- `look::chg_colcon_lookup` meets its contract: the bands left, after what was found, are all bands. Assumes nothing.
use mathlib.Core.Path.{◌≡◌}
use mathlib.Core.Bool.{false}
use lib.ListN.{length}
use Rattle.bands_model.specs.Look.{told, looking, look_words}
use Rattle.look.proofs.chg_colcon_lookup.Given as goal

abbrev pub invariant-loop-band : goal.invariant-loop-band
invariant-loop-band l = looking l.x l.y 0 false (told l.look) l.left ≡ look_words l.x l.y l.words

abbrev pub decreases-loop-band : goal.decreases-loop-band
decreases-loop-band l = length l.left
