-- `listing::put_word` meets its contract: a part of the line is written over. Assumes nothing.
use native.Mathlib.Omega.{arith}
use Rattle.listing_model.proofs.Laws.{put_over}
use Rattle.listing.proofs.Line.put_word.Goals as goal

pub returns-clause-put : goal.returns-clause-put
returns-clause-put c = put_over _ _ _ _ _ c.copy_from_slice.ensures.after (omega arith) (omega arith)
