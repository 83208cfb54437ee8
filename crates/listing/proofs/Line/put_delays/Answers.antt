-- `listing::put_delays` meets its contract: three fields and the end of the line. Assumes nothing.
use Rattle.listing_model.proofs.Laws.{put_put}
use Rattle.listing.proofs.Line.put_delays.Goals as goal

pub returns-clause-put : goal.returns-clause-put
returns-clause-put c = put_put c.put_field.ensures.put (put_put c.put_field-2.ensures.put (put_put c.put_field-3.ensures.put c.put_newline.ensures.put))
