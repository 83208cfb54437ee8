-- `idx_lines::signed_at` meets its contract: by the sign. Assumes nothing.
use native.Mathlib.Omega.{arith}
use mathlib.Core.Path.{refl}
use Rattle.idx_lines_model.proofs.Fields.{counted_in_lem, minus_bad, minus_good, plus-bad, plus-good, below_bad}
use Rattle.idx_lines.proofs.signed_at.Goals as goal

pub returns-in_err-counted-in-45 : goal.returns-in_err-counted-in-45
returns-in_err-counted-in-45 c =
    rw (c.from_residual.ensures)
    (minus_bad c.args.s.now c.args.i c.requires.inside _ _ c.count_at.ensures refl c.in-45.is c.in_err-counted-in-45.was)

pub returns-in_err-counted-in-43 : goal.returns-in_err-counted-in-43
returns-in_err-counted-in-43 c =
    rw (c.from_residual-in_err-counted-in-43.ensures)
    (plus-bad c.args.s.now c.args.i c.requires.inside _ _ c.count_at-in-43.ensures refl c.in-43.is c.in_err-counted-in-43.was)

pub returns-in_ok-counted-in-45 : goal.returns-in_ok-counted-in-45
returns-in_ok-counted-in-45 c =
    minus_good c.args.s.now c.args.i c.requires.inside _ _ c.count_at.ensures refl c.in-45.is _ _ c.in_ok-counted-in-45.was c.negated.result c.negated.ensures

pub returns-in_ok-counted-in-43 : goal.returns-in_ok-counted-in-43
returns-in_ok-counted-in-43 c =
    plus-good c.args.s.now c.args.i c.requires.inside _ _ c.count_at-in-43.ensures refl c.in-43.is _ _ c.in_ok-counted-in-43.was

pub returns-in_default : goal.returns-in_default
returns-in_default c = below_bad c.args.s.now c.args.i c.requires.inside c.requires.below (λ e. omega arith) (λ e. omega arith)

pub overflow_add-result : goal.overflow_add-result
overflow_add-result c =
    omega (arith, counted_in_lem c.args.s.now _ _ _ c.count_at.ensures _ _ c.in_ok-counted-in-45.was (omega (arith, c.requires.inside)))

pub overflow_add-result-in-43 : goal.overflow_add-result-in-43
overflow_add-result-in-43 c =
    omega (arith, counted_in_lem c.args.s.now _ _ _ c.count_at-in-43.ensures _ _ c.in_ok-counted-in-43.was (omega (arith, c.requires.inside)))
