-- `listing::put_numbered` meets its contract: a word, a number and the end of the line. Assumes nothing.
use Rattle.listing_model.proofs.Laws.{put_put}
use Rattle.listing.proofs.Line.put_numbered.Goals as goal

pub returns-clause-put : goal.returns-clause-put
returns-clause-put c = put_put c.put_word.ensures.put (put_put c.put_field.ensures.put c.put_newline.ensures.put)
