-- `look::spans_line` meets its contract: a band left spans the line where one of all bands does. Assumes nothing.
use mathlib.Core.Path.{◌≡◌}
use lib.ListN.{length}
use Rattle.bands_model.specs.Look.{spanning, spans_line}
use Rattle.look.proofs.spans_line.Given as goal

abbrev pub invariant-loop-band : goal.invariant-loop-band
invariant-loop-band l = spanning l.y 0 l.rest ≡ spans_line l.y l.words

abbrev pub decreases-loop-band : goal.decreases-loop-band
decreases-loop-band l = length l.rest
