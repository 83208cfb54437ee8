-- `demo::Writer::emit_code` meets its contract: the last nibble after those before it. Assumes nothing.
use Rattle.demo_model.proofs.Ink.{digits-none, digits_more}
use Rattle.demo.proofs.Writer.+emit_code.Goals as goal

pub returns-then-size-eq0-clause-inked : goal.returns-then-size-eq0-clause-inked
returns-then-size-eq0-clause-inked t c ns o h = digits-none ns o _ _ _ _ c.if-size-eq0.true h

pub returns-clause-inked : goal.returns-clause-inked
returns-clause-inked t c ns o h = digits_more ns o _ _ _ _ c.if-size-eq0.false (c.write.ensures.inked _ o (c.emit_code.ensures.inked ns o h))
