-- `table::bytes` meets its contract: each turn stores one byte. Assumes nothing.
use Rattle.table.proofs.Laws.{storing_goes, storing_ends}
use native.Mathlib.Omega.{arith}
use Rattle.table.proofs.bytes.Goals as goal

pub returns : goal.returns
returns c = storing_ends _ _ _ _ _ c.loop-i.invariant (omega (arith, c.loop-i-test.false))
