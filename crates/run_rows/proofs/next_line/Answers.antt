-- `run_rows::next_line` meets its contract. Assumes nothing.
use Rattle.std.proofs.Common.{arith}
use Rattle.run_rows.proofs.Laws.{plain_one, read_one}
use Rattle.run_rows.proofs.next_line.Goals as goal

pub loop-n-preserved : goal.loop-n-preserved
loop-n-preserved g c =
    record {
      plain = plain_one _ _ _ _ (omega arith) c.loop-n.invariant.plain (λ q. omega (arith, q));
      taken = read_one c.read.result _ _ _ _ _ _ _ (omega arith) (omega (arith, c.read.auto.buf)) c.loop-n.invariant.taken c.read.ensures.bound c.read.ensures.bytes (rw c.unwrap_or.ensures at c.if-unwrap_or-eq0.false);
    }
