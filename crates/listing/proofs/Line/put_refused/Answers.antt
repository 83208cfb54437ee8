-- `listing::put_refused` meets its contract: number, `refused`, number. Assumes nothing.
use native.Mathlib.Omega.{arith}
use mathlib.Core.Path.{ap}
use Rattle.listing_model.proofs.Laws.{put_put, put_in, put_as}
use Rattle.listing_model.specs.Lines.{refused_line}
use Rattle.listing.proofs.Line.put_refused.Goals as goal

pub returns-clause-put : goal.returns-clause-put
unfolding refused_line
returns-clause-put c =
    put_as (ap (refused_line c.args.n) c.number.ensures)
    (put_in 210 (omega arith) (put_put c.put_number.ensures.put c.put_numbered.ensures.put))
