-- `listing::put_times` meets its contract: three fields. Assumes nothing.
use Rattle.listing_model.proofs.Laws.{put_put, put_as}
use mathlib.Core.Path.{ap}
use mir.Syntax.{w64}
use mir.Facts.{to_z-of_z}
use lib.IntN.{ℤ}
use Rattle.listing_model.specs.Lines.{signed}
use Rattle.listing.proofs.Line.put_times.Goals as goal

pub returns-clause-put : goal.returns-clause-put
returns-clause-put c =
    put_put c.put_number.ensures.put
    (put_put (put_put c.put_byte.ensures.put (put_as (ap (λ (z : ℤ). signed z) (to_z-of_z {w = w64} c.ranges.start)) c.put_signed.ensures.put))
    (put_put c.put_byte-2.ensures.put c.put_lasting.ensures.put))
