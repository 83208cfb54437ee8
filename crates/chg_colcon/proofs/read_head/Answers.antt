-- `chg_colcon::read_head` meets its contract. Assumes nothing.
use native.Mathlib.Omega.{arith}
use lib.ListN.{length}
use borrow.Author.Tests.{eq-eqb, ne_eqb, lt-ltb}
use Rattle.bands_model.specs.Bands.{head_of}
use Rattle.bands_model.proofs.Loops.{head-words}
use Rattle.chg_colcon.proofs.read_head.Goals as goal

pub returns-in-empty : goal.returns-in-empty
unfolding head_of
returns-in-empty c = simp (eq-eqb (length c.args.p.now) 0 (omega (arith, c.in-empty.len_below)))

pub returns-in_default : goal.returns-in_default
unfolding head_of
returns-in_default c = simp (ne_eqb (length c.args.p.now) 0 (λ e. omega (arith, e, c.in_default.len_at_least)), lt-ltb _ 4 c.in_default.len_below)

pub returns-in-len4-up : goal.returns-in-len4-up
returns-in-len4-up c = head-words _ _ _ _ (λ e. omega (arith, e, c.in-len4-up.len_at_least)) c.in-len4-up.len_at_least c.word.ensures c.word-in-len4-up.ensures c.header_of.ensures
