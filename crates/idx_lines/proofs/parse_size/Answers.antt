-- `idx_lines::parse_size` meets its contract: both sides of the `x`. Assumes nothing.
use borrow.Author.Rules.{rules}
use native.Mathlib.Omega.{arith}
use Rattle.idx_numbers_model.proofs.Steps.{value_le}
use Rattle.idx_lines_model.proofs.Sizes.{size-nothing, size-bad_width, size-bad_height, size-good}
use Rattle.idx_lines.proofs.parse_size.Goals as goal

pub returns-then-a-s : goal.returns-then-a-s
returns-then-a-s c = λ i at. size-nothing c.args.s.now c.until-a.result c.until-a.ensures i at c.if-a-s.true

pub returns-in_err-width : goal.returns-in_err-width
returns-in_err-width c = λ i at.
    let h = size-bad_width c.args.s.now c.until-a.result c.until-a.ensures i at c.if-a-s.false _ _ c.trim-left.ensures c.trim-right.ensures _ c.unsigned.ensures c.in_err-width.ensures.ok_part in
    rw (← h) (search rules)

pub returns-in_err-height : goal.returns-in_err-height
returns-in_err-height c = λ i at.
    let h = size-bad_height c.args.s.now c.until-a.result c.until-a.ensures i at c.if-a-s.false _ _ c.trim-left.ensures c.trim-right.ensures _ c.unsigned.ensures _ 0 c.in_ok-width.ensures.ok_part _ c.unsigned-2.ensures c.in_err-height.ensures.ok_part in
    rw (← h) (search rules)

pub returns : goal.returns
returns c = λ i at.
    size-good c.args.s.now c.until-a.result c.until-a.ensures i at c.if-a-s.false _ _ c.trim-left.ensures c.trim-right.ensures _ c.unsigned.ensures _ _ c.in_ok-width.ensures.ok_part _ c.unsigned-2.ensures c.in_ok-height.ensures.ok_part

pub overflow_cast-result : goal.overflow_cast-result
overflow_cast-result c = omega (arith, value_le 10 65535 c.trim-left.result.now _ _ c.unsigned.ensures c.in_ok-width.ensures.ok_part)

pub overflow_cast-result-2 : goal.overflow_cast-result-2
overflow_cast-result-2 c = omega (arith, value_le 10 65535 c.trim-right.result.now _ _ c.unsigned-2.ensures c.in_ok-height.ensures.ok_part)
