-- `vobsub::paint_unit` meets its contract: what the control blocks tell, or their refusal. Assumes nothing.
use mathlib.Core.Path.{sym, ◌∙◌, ap}
use Rattle.outcome.specs.Outcome.{answered}
use Rattle.outcome.proofs.Refusals.{handed_on}
use Rattle.spu_model.proofs.Loops.{told_by_lem, refused-by}
use Rattle.vobsub_model.proofs.Loops.{unit-refused, painted_as}
use Rattle.vobsub.proofs.paint_unit.Goals as goal

pub paint_told-requires : goal.paint_told-requires
paint_told-requires c =
    told_by_lem c.args.unit.now _ (sym (ap answered c.in_ok-spu.was) ∙ c.parse_control.ensures)

pub returns-in_err-spu : goal.returns-in_err-spu
returns-in_err-spu c =
    painted_as (sym (handed_on c.from_residual.result _ c.from_residual.ensures))
    (unit-refused _ _ _ _ _ (refused-by c.args.unit.now _ (sym (ap answered c.in_err-spu.was) ∙ c.parse_control.ensures)))
