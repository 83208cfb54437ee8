-- `demo::put_unit` meets its contract: its head, its fields and its control block. Assumes nothing.
use Rattle.demo_model.proofs.Whole.{unit-put}
use Rattle.demo.proofs.put_unit.Goals as goal

pub returns : goal.returns
returns c =
    let p = c.args.picture in
    unit-put p.width p.height p.indices.now c.args.ends c.requires.0 _ _ _ _ c.requires.2
    (rw (c.word_bytes.ensures, c.word_bytes-2.ensures) at c.copy_from_slice.ensures.after)
    c.write_fields.ensures.bytes
    (rw (c.word_bytes-2.ensures, c.word_bytes-3.ensures, c.word_bytes-4.ensures, c.word_bytes-5.ensures) at c.copy_from_slice-2.ensures.after)
