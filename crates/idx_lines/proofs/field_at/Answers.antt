-- `idx_lines::field_at` meets its contract: by its first byte. Assumes nothing.
use native.Mathlib.Omega.{arith}
use mathlib.Core.Path.{refl}
use Rattle.idx_lines_model.proofs.Fields.{field-empty, counted_in_lem, plain_bad, plain_good}
use Rattle.idx_lines.proofs.field_at.Goals as goal

pub returns-then-i-s-2 : goal.returns-then-i-s-2
returns-then-i-s-2 c = field-empty c.args.s.now c.args.i c.if-i-s-2.true

pub returns-in_err-counted : goal.returns-in_err-counted
returns-in_err-counted c =
    rw (c.from_residual.ensures)
    (plain_bad c.args.s.now c.args.i (omega arith) (λ e. omega (arith, c.if-s-i-lt48.false)) (λ e. omega (arith, c.if-s-i-lt48.false)) _ _ c.count_at.ensures refl c.in_err-counted.was)

pub returns : goal.returns
returns c =
    plain_good c.args.s.now c.args.i (omega arith) (λ e. omega (arith, c.if-s-i-lt48.false)) (λ e. omega (arith, c.if-s-i-lt48.false)) _ _ c.count_at.ensures refl _ _ c.in_ok-counted.was

pub overflow_add-result : goal.overflow_add-result
overflow_add-result c = omega (arith, counted_in_lem c.args.s.now _ _ _ c.count_at.ensures _ _ c.in_ok-counted.was (omega arith))
