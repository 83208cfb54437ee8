-- `table::given` meets its contract. Assumes nothing.
use Rattle.table.proofs.Laws.{given_is}
use Rattle.table.proofs.given.Goals as goal

pub returns : goal.returns
returns c = given_is c.args.line.now _ _ _ _ c.part.ensures c.part-2.ensures c.number.ensures
