-- `idx_lines::is_timestamp` meets its contract: its number and two bytes. Assumes nothing.
use native.Mathlib.Omega.{arith}
use mathlib.Core.Path.{refl}
use Rattle.grammar.specs.Index.{timestamp_word}
use Rattle.idx_numbers_model.specs.Answers.{lowest}
use Rattle.idx_numbers_model.proofs.Steps.{word-short}
use Rattle.idx_lines_model.proofs.Words.{stamp-not, stamp-ninth, stamp-yes}
use Rattle.idx_lines.proofs.is_timestamp.Goals as goal

pub returns-then-l-lt10 : goal.returns-then-l-lt10
returns-then-l-lt10 c = word-short timestamp_word c.args.l.now c.if-l-lt10.true

pub returns-then-eight_at-ne7881708861846808948 : goal.returns-then-eight_at-ne7881708861846808948
unfolding lowest
returns-then-eight_at-ne7881708861846808948 c = stamp-not c.args.l.now c.if-l-lt10.false (λ i. omega (arith, c.shared_slice_known-1.given i)) c.eight_at.result c.eight_at.ensures _ refl c.if-eight_at-ne7881708861846808948.true

pub returns-then-l-ne112 : goal.returns-then-l-ne112
returns-then-l-ne112 c = stamp-ninth c.args.l.now c.if-l-lt10.false (λ i. omega (arith, c.shared_slice_known-1.given i)) c.eight_at.result c.eight_at.ensures c.if-l-ne112.true

pub returns : goal.returns
unfolding lowest
returns c =
    stamp-yes c.args.l.now c.if-l-lt10.false (λ i. omega (arith, c.shared_slice_known-1.given i)) c.eight_at.result c.eight_at.ensures _ refl c.if-eight_at-ne7881708861846808948.false c.if-l-ne112.false
