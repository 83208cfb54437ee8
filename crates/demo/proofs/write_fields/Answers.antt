-- `demo::write_fields` meets its contract: the top field, and then the bottom field. Assumes nothing.
use native.Mathlib.Omega.{arith}
use borrow.Author.Rules.{rules}
use mathlib.Core.Path.{refl}
use Rattle.demo_model.proofs.Whole.{fields-written}
use Rattle.demo.proofs.write_fields.Goals as goal

pub returns : goal.returns
returns c =
    let p = c.args.picture in
    fields-written p.width p.height p.indices.now _ _ _ _ _ _ refl refl c.emit_field.ensures.inked c.emit_field-2.ensures.inked _ refl refl (omega (arith, p.sound.h_most, c.emit_field.ensures.most, c.emit_field-2.ensures.most)) _ (search rules)
