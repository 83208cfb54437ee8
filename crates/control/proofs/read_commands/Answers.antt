-- `control::read_commands` meets its contract: each turn is one command more. Assumes nothing.
use native.Mathlib.Omega.{arith}
use mathlib.Core.Path.{sym, ◌∙◌, ap}
use Rattle.std.proofs.lemmas.Result.{err_from_is_err_and}
use Rattle.outcome.specs.Outcome.{answered}
use Rattle.control_model.proofs.Loops.{commanding_goes, commanding_ends, commanding_refuses}
use Rattle.control.proofs.read_commands.Goals as goal

pub returns-then-blocks-at : goal.returns-then-blocks-at
returns-then-blocks-at c = commanding_ends _ _ _ _ _ c.args.blocks.inside _ _ c.loop-at.invariant (λ l. c.if-blocks-at.true)

pub loop-at-preserved : goal.loop-at-preserved
loop-at-preserved c =
    commanding_goes _ _ _ _ _ c.args.blocks.inside _ _ c.loop-at.invariant _ _ (λ t e. sym (ap answered c.in_ok-after.was) ∙ c.read_command.ensures t e) c.requires.0 c.loop-at-test.true c.if-blocks-at.false

pub returns-in_err-after : goal.returns-in_err-after
returns-in_err-after c = let p = err_from_is_err_and c.from_residual.result c.from_residual.ensures.1 in rw (p.1, p.2) (commanding_refuses _ _ _ _ _ c.args.blocks.inside _ _ c.loop-at.invariant _ c.loop-at-test.true c.if-blocks-at.false (λ t e. sym (ap answered c.in_err-after.was) ∙ c.read_command.ensures t e))

pub returns : goal.returns
returns c = commanding_ends _ _ _ _ _ c.args.blocks.inside _ _ c.loop-at.invariant (λ l. absurd (omega arith))
