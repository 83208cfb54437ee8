-- `idx_numbers::starts` meets its contract: another first byte, or std's test. Assumes nothing.
use native.Mathlib.Omega.{arith}
use mathlib.Core.Path.{◌∙◌}
use Rattle.idx_numbers_model.proofs.Loops.{starts-is, starts-unlike}
use Rattle.idx_numbers.proofs.starts.Goals as goal

pub returns : goal.returns
returns c = starts-unlike c.args.w.now c.args.s.now (omega (arith, c.in-len1-up.len_at_least)) c.if-first-wanted.true

pub returns-2 : goal.returns-2
returns-2 c = c.starts_with.ensures.value ∙ starts-is c.args.w.now c.args.s.now
