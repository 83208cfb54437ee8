-- `chg_colcon::header_of` meets its contract. Assumes nothing.
use borrow.Author.Tests.{eq-eqb, ne_eqb, lt-ltb, le-ltb, le-leb, lt-leb}
use Rattle.bands_model.specs.Bands.{header}
use Rattle.chg_colcon.proofs.header_of.Goals as goal

pub returns-then-a-b-eq268435455 : goal.returns-then-a-b-eq268435455
unfolding header
returns-then-a-b-eq268435455 c = simp (eq-eqb _ 0x0FFFFFFF c.if-a-b-eq268435455.true)

pub returns-then-a-ge4096 : goal.returns-then-a-ge4096
unfolding header
returns-then-a-ge4096 c = simp (ne_eqb _ 0x0FFFFFFF c.if-a-b-eq268435455.false, le-ltb _ 4096 c.if-a-ge4096.true)

pub returns-then-a-last : goal.returns-then-a-last
unfolding header
returns-then-a-last c = simp (ne_eqb _ 0x0FFFFFFF c.if-a-b-eq268435455.false, lt-ltb _ 4096 c.if-a-ge4096.false, le-leb _ _ c.if-a-last.true)

pub returns : goal.returns
unfolding header
returns c = simp (ne_eqb _ 0x0FFFFFFF c.if-a-b-eq268435455.false, lt-ltb _ 4096 c.if-a-ge4096.false, lt-leb _ _ c.if-a-last.false)
