-- `spu::decode_rows` meets its contract: as its method does. Assumes nothing.
use Rattle.spu_model.proofs.Loops.{answer_by_lem}
use Rattle.spu.proofs.decode_rows.Goals as goal

pub invariant_of-parsed : goal.invariant_of-parsed
invariant_of-parsed c = record { read = answer_by_lem _ _ (c.requires.0, c.requires.1, c.requires.2) }
