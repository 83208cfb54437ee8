-- `spu::measure_spu` meets its contract: the control blocks, then the rest. Assumes nothing.
use mathlib.Core.Path.{sym, ◌∙◌, ap}
use Rattle.outcome.specs.Outcome.{answered}
use Rattle.outcome.proofs.Refusals.{handed_on}
use Rattle.spu_model.proofs.Claim.{measures_claimed}
use Rattle.spu_model.proofs.Loops.{refused-by, measured-refused}
use Rattle.spu.proofs.measure_spu.Goals as goal

pub returns : goal.returns
returns c = measures_claimed _ c.measure_told.ensures

pub returns-in_err-spu : goal.returns-in_err-spu
returns-in_err-spu c =
    measures_claimed _
    (handed_on c.from_residual.result _ c.from_residual.ensures ∙ measured-refused _ _ (refused-by _ _ (sym (ap answered c.in_err-spu.was) ∙ c.parse_control.ensures)))
