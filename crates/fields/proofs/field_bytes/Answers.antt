-- `fields::field_bytes` meets its contract: a start past the end leaves nothing. Assumes nothing.
use Rattle.rle_model.proofs.Part.{part-taken}
use Rattle.fields.proofs.field_bytes.Goals as goal

pub returns : goal.returns
returns c = part-taken _ _ _ _ c.requires c.lesser-start.ensures
