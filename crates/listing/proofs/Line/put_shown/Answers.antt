-- `listing::put_shown` meets its contract: times, area and delays. Assumes nothing.
use Rattle.listing_model.proofs.Laws.{put_put, put_as}
use Rattle.listing_model.specs.Lines.{shown_line, times}
use mathlib.Core.Path.{ap}
use mir.Syntax.{w64}
use mir.Facts.{to_z-of_z}
use lib.IntN.{ℤ}
use Rattle.listing.proofs.Line.put_shown.Goals as goal

pub returns-clause-put : goal.returns-clause-put
unfolding shown_line
returns-clause-put c =
    put_put
    (put_as (ap (λ (z : ℤ). times c.args.n z c.args.duration) (to_z-of_z {w = w64} c.ranges.start)) c.put_times.ensures.put)
    (put_put c.put_area.ensures.put c.put_delays.ensures.put)
