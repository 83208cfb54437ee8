-- `chg_colcon::read_entry` meets its contract. Assumes nothing.
use borrow.Author.Tests.{lt-ltb, le-ltb}
use Rattle.bands_model.specs.Bands.{entry_of}
use Rattle.chg_colcon.proofs.read_entry.Goals as goal

pub returns-in_default : goal.returns-in_default
unfolding entry_of
returns-in_default c = simp (lt-ltb _ _ c.in_default.len_below)

pub returns-then-column-lo : goal.returns-then-column-lo
unfolding entry_of
returns-then-column-lo c = simp (le-ltb _ _ c.in-len6-up.len_at_least, ← c.word-column.ensures, lt-ltb _ _ c.if-column-lo.true)

pub returns : goal.returns
unfolding entry_of
returns c = simp (le-ltb _ _ c.in-len6-up.len_at_least, ← c.word-column.ensures, ← c.word.ensures, ← c.word-2.ensures, le-ltb _ _ c.if-column-lo.false)
