-- `spu::Parsed::laid_out` meets its contract: each value by itself. Assumes nothing.
use native.Mathlib.Omega.{arith}
use Rattle.grammar.specs.Bytes.{word}
use Rattle.spu_model.proofs.Loops.{told_by_lem, known, same, laid}
use Rattle.spu.proofs.Parsed.laid_out.Goals as goal

pub overflow_sub-width : goal.overflow_sub-width
overflow_sub-width c = omega (arith, (known _ _ (told_by_lem _ _ c.args.self.now.read)).wide, (known _ _ (told_by_lem _ _ c.args.self.now.read)).high)

pub overflow_sub-height : goal.overflow_sub-height
overflow_sub-height c =
    omega (arith, (known _ _ (told_by_lem _ _ c.args.self.now.read)).wide, (known _ _ (told_by_lem _ _ c.args.self.now.read)).high)

pub bounds-unit-0 : goal.bounds-unit-0
bounds-unit-0 c = omega (arith, (known _ _ (told_by_lem _ _ c.args.self.now.read)).head)

pub bounds-unit-1 : goal.bounds-unit-1
bounds-unit-1 c = omega (arith, (known _ _ (told_by_lem _ _ c.args.self.now.read)).head)

pub bounds-unit-2 : goal.bounds-unit-2
bounds-unit-2 c = omega (arith, (known _ _ (told_by_lem _ _ c.args.self.now.read)).head)

pub bounds-unit-3 : goal.bounds-unit-3
bounds-unit-3 c = omega (arith, (known _ _ (told_by_lem _ _ c.args.self.now.read)).head)

pub returns : goal.returns
unfolding word
returns c =
    (omega arith, omega arith, λ bs e. laid c.args.self.now.unit.now _ _ _ _ _ _ (same _ _ (told_by_lem _ _ c.args.self.now.read) bs e) c.word_of-end.ensures c.word_of-control.ensures c.ending-to.ensures c.bottom_field.ensures)
