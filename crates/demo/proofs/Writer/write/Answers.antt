-- `demo::Writer::write` meets its contract: by which half of a byte it is. Assumes nothing.
use mathlib.Core.Path.{refl}
use Rattle.demo_model.proofs.Ink.{ink_even, ink_odd}
use Rattle.demo.proofs.Writer.write.Goals as goal

pub returns-then-self-eq0-clause-inked : goal.returns-then-self-eq0-clause-inked
returns-then-self-eq0-clause-inked c ns o h = ink_even ns o c.args.self.now.pen _ h c.args.nibble _ refl c.if-self-eq0.true refl _ c.put.ensures

pub returns-else-self-eq0-clause-inked : goal.returns-else-self-eq0-clause-inked
returns-else-self-eq0-clause-inked c ns o h = ink_odd ns o c.args.self.now.pen _ h c.args.nibble _ refl c.if-self-eq0.false refl _ c.put-else-self-eq0.ensures
