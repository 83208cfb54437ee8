-- `vobsub::late_refusal` meets its contract: by whether the rows are refused. Assumes nothing.
use Rattle.grammar.specs.Record.{told, width}
use Rattle.spu_model.specs.Unit.{rows_at}
use Rattle.vobsub_model.proofs.Loops.{late-answer}
use Rattle.vobsub.proofs.late_refusal.Goals as goal

pub returns : goal.returns
returns c = λ bs e.
    late-answer (width (told bs)) (rows_at c.args.unit.now (told bs)) c.measure_rows.result (c.measure_rows.ensures bs e) _ c.err.ensures.value _ c.unwrap_or.ensures
