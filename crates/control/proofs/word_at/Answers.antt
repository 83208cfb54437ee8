-- `control::word_at` meets its contract: two bytes, the high one first. Assumes nothing.
use Rattle.grammar.specs.Bytes.{word}
use Rattle.control.proofs.word_at.Goals as goal

pub returns : goal.returns
unfolding word
returns c = c.word.ensures
