-- `codes::painted` meets its contract. Assumes nothing.
use borrow.Author.Tests.{eq-eqb, ne_eqb, lt-ltb, le-ltb}
use Rattle.grammar.specs.Rows.{paints}
use Rattle.codes.proofs.painted.Goals as goal

pub returns-then-value-lt256 : goal.returns-then-value-lt256
unfolding paints
returns-then-value-lt256 c p = rw (eq-eqb _ 4 c.if-size-eq4.true, lt-ltb _ 256 c.if-value-lt256.true)

pub returns-then-size-eq4 : goal.returns-then-size-eq4
unfolding paints
returns-then-size-eq4 c p = rw (eq-eqb _ 4 c.if-size-eq4.true, le-ltb _ 256 c.if-value-lt256.false) c.lesser-run.ensures

pub returns : goal.returns
unfolding paints
returns c p = rw (ne_eqb _ 4 c.if-size-eq4.false) c.lesser-run.ensures
