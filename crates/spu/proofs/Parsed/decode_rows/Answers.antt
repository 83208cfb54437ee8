-- `spu::Parsed::decode_rows` meets its contract: both fields, where they stand. Assumes nothing.
use native.Mathlib.Omega.{arith}
use Rattle.grammar.specs.Record.{told}
use Rattle.spu_model.proofs.Loops.{told_by_lem, known, rows-kept, spans-inside, room, rows-decoded}
use Rattle.spu.proofs.Parsed.decode_rows.Goals as goal

pub returns-then-l : goal.returns-then-l
returns-then-l c = λ bs e. rows-kept c.args.self.now.unit.now _ _ (c.laid_out-l.ensures.2 bs e) _ c.if-l.true

pub decode_rle_fields-requires : goal.decode_rle_fields-requires
decode_rle_fields-requires c =
    let i = spans-inside c.args.self.now.unit.now (told c.requires.0) _ (c.laid_out-l.ensures.2 c.requires.0 c.requires.1) (known _ _ (told_by_lem _ _ c.args.self.now.read)).inside in
    (i.0, i.1, room c.args.self.now.unit.now (told c.requires.0) _ (c.laid_out-l.ensures.2 c.requires.0 c.requires.1) _ c.requires.2)

pub returns : goal.returns
returns c = λ bs e. rows-decoded c.args.self.now.unit.now _ _ (c.laid_out-l.ensures.2 bs e) _ _ _ (omega arith) c.decode_rle_fields.ensures
