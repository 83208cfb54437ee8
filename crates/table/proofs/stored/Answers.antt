-- `table::stored` meets its contract. Assumes nothing.
use Rattle.table.proofs.Laws.{stored_is}
use Rattle.table.proofs.stored.Goals as goal

pub returns : goal.returns
returns c = stored_is _ _ _ _ _ c.part.ensures c.bytes.ensures
