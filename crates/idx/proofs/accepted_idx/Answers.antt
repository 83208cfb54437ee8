-- `idx::accepted_idx` meets its contract: what was seen is what the listed text gives. Assumes nothing.
use Rattle.idx_model.proofs.Picks.{idx_answer_lem}
use Rattle.idx.proofs.accepted_idx.Goals as goal

pub returns : goal.returns
returns c = λ t cue e f. idx_answer_lem cue t c.args.seen e c.args.palette f
