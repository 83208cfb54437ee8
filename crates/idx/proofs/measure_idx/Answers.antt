-- `idx::measure_idx` meets its contract: no bytes, or lines. Assumes nothing.
use mathlib.Core.Path.{sym, ◌∙◌}
use borrow.Author.Tests.{eqb-true, eqb-false}
use lib.ListN.{length}
use Rattle.idx_model.proofs.Whole.{empty-measured, bytes-measured}
use Rattle.outcome.specs.Outcome.{answered}
use Rattle.idx.proofs.measure_idx.Goals as goal

pub returns-then-is_empty : goal.returns-then-is_empty
returns-then-is_empty c =
    empty-measured c.args.text.now c.args.cue c.args.room c.args.palette.now
    (answered c.measure_empty.result) _ (eqb-true (length c.args.text.now) 0 (sym c.is_empty.ensures ∙ c.if-is_empty.true)) (c.measure_empty.ensures c.args.cue)

pub returns : goal.returns
returns c =
    bytes-measured c.args.text.now c.args.cue c.args.room c.args.palette.now
    (answered c.measure.result) _ (eqb-false (length c.args.text.now) 0 (sym c.is_empty.ensures ∙ c.if-is_empty.false)) c.measure.ensures
