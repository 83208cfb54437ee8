-- `spu::Parsed::measure_rows` meets its contract: both fields, where they stand. Assumes nothing.
use native.Mathlib.Omega.{arith}
use Rattle.grammar.specs.Record.{told}
use Rattle.spu_model.proofs.Loops.{told_by_lem, known, rows_none, spans-inside, area_small, rows-measured}
use Rattle.spu.proofs.Parsed.measure_rows.Goals as goal

pub returns-then-l : goal.returns-then-l
returns-then-l c = λ bs e. rows_none c.args.self.now.unit.now _ _ (c.laid_out-l.ensures.2 bs e) c.if-l.true

pub measure_fields-requires : goal.measure_fields-requires
measure_fields-requires c =
    let i = spans-inside c.args.self.now.unit.now (told (told_by_lem _ _ c.args.self.now.read).0) _ (c.laid_out-l.ensures.2 (told_by_lem _ _ c.args.self.now.read).0 (told_by_lem _ _ c.args.self.now.read).1) (known _ _ (told_by_lem _ _ c.args.self.now.read)).inside in
    (i.0, i.1, omega (arith, area_small _ _ c.laid_out-l.ensures.0 c.laid_out-l.ensures.1))

pub returns : goal.returns
returns c = λ bs e. rows-measured c.args.self.now.unit.now _ _ (c.laid_out-l.ensures.2 bs e) _ (omega arith) c.measure_fields.ensures
