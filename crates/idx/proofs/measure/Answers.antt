-- `idx::measure` meets its contract: a high byte refuses first. Assumes nothing.
use Rattle.idx_model.proofs.Loops.{text_high, text_low}
use Rattle.idx.proofs.measure.Goals as goal

pub returns-then-not-is_low : goal.returns-then-not-is_low
returns-then-not-is_low c = text_high c.args.text.now c.is_low.result c.is_low.ensures c.args.room c.args.cue c.args.palette.now c.if-not-is_low.true

pub returns : goal.returns
returns c = text_low c.args.text.now c.is_low.result c.is_low.ensures c.args.room c.args.cue c.args.palette.now c.if-not-is_low.false _ _ c.measure_lines.ensures
