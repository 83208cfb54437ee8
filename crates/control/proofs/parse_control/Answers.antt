-- `control::parse_control` meets its contract: the head, the chain, and the size of the picture. Assumes nothing.
use native.Mathlib.Omega.{arith}
use mathlib.Core.Path.{sym, ◌∙◌, ap}
use Rattle.std.proofs.lemmas.Result.{err_from_is_err_and}
use Rattle.outcome.specs.Outcome.{answered}
use Rattle.std.specs.Prelude.{Some as some}
use Rattle.control_model.specs.Fold.{untold}
use Rattle.control_model.specs.Chain.{blocks_at}
use Rattle.control_model.specs.Answers.{chain_answer}
use Rattle.control_model.proofs.Loops.{unit-short, unit-early, unit-late, unit-past, unit-refused, unit-narrow, unit-low, unit_told}
use Rattle.control.proofs.parse_control.Goals as goal

pub returns-then-unit-lt4 : goal.returns-then-unit-lt4
returns-then-unit-lt4 c = unit-short c.args.unit.now c.if-unit-lt4.true

pub returns-then-from-lt4 : goal.returns-then-from-lt4
returns-then-from-lt4 c = unit-early c.args.unit.now (omega arith) (omega (arith, c.word_at-from.ensures))

pub returns-then-end-from : goal.returns-then-end-from
returns-then-end-from c = unit-late c.args.unit.now (omega arith) (omega (arith, c.word_at-end.ensures, c.word_at-from.ensures))

pub returns-then-unit-end : goal.returns-then-unit-end
returns-then-unit-end c = unit-past c.args.unit.now (omega arith) (omega (arith, c.word_at-end.ensures))

pub returns-then-spu : goal.returns-then-spu
returns-then-spu c =
    unit-narrow c.args.unit.now (omega arith) (omega (arith, c.word_at-from.ensures)) (omega (arith, c.word_at-end.ensures, c.word_at-from.ensures)) (omega (arith, c.word_at-end.ensures)) _ (sym (ap answered c.in_ok-spu.was) ∙ c.read_chain.ensures ∙ (λ j. chain_answer untold (blocks_at c.args.unit.now (c.word_at-end.ensures j) (some (c.word_at-from.ensures j))))) c.if-spu.true

pub returns-then-spu-2 : goal.returns-then-spu-2
returns-then-spu-2 c =
    unit-low c.args.unit.now (omega arith) (omega (arith, c.word_at-from.ensures)) (omega (arith, c.word_at-end.ensures, c.word_at-from.ensures)) (omega (arith, c.word_at-end.ensures)) _ (sym (ap answered c.in_ok-spu.was) ∙ c.read_chain.ensures ∙ (λ j. chain_answer untold (blocks_at c.args.unit.now (c.word_at-end.ensures j) (some (c.word_at-from.ensures j))))) c.if-spu.false c.if-spu-2.true

pub returns : goal.returns
returns c =
    unit_told c.args.unit.now (omega arith) (omega (arith, c.word_at-from.ensures)) (omega (arith, c.word_at-end.ensures, c.word_at-from.ensures)) (omega (arith, c.word_at-end.ensures)) _ (sym (ap answered c.in_ok-spu.was) ∙ c.read_chain.ensures ∙ (λ j. chain_answer untold (blocks_at c.args.unit.now (c.word_at-end.ensures j) (some (c.word_at-from.ensures j))))) c.if-spu.false c.if-spu-2.false

pub returns-in_err-spu : goal.returns-in_err-spu
returns-in_err-spu c =
    let p = err_from_is_err_and c.from_residual.result c.from_residual.ensures.1 in rw (p.1, p.2) (unit-refused c.args.unit.now (omega arith) (omega (arith, c.word_at-from.ensures)) (omega (arith, c.word_at-end.ensures, c.word_at-from.ensures)) (omega (arith, c.word_at-end.ensures)) _ (sym (ap answered c.in_err-spu.was) ∙ c.read_chain.ensures ∙ (λ j. chain_answer untold (blocks_at c.args.unit.now (c.word_at-end.ensures j) (some (c.word_at-from.ensures j))))))
