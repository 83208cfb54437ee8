-- `spu::parse_and_decode_spu` meets its contract: the control blocks, then the rest. Assumes nothing.
use mathlib.Core.Path.{sym, ◌∙◌, ap}
use Rattle.outcome.specs.Outcome.{answered}
use Rattle.outcome.proofs.Refusals.{handed_on}
use Rattle.spu_model.proofs.Claim.{claimed}
use Rattle.spu_model.proofs.Loops.{refused-by, decoded-refused}
use Rattle.spu.proofs.parse_and_decode_spu.Goals as goal

pub returns : goal.returns
returns c =
    claimed (λ i. (c.shared_slice_known-1.given i).fits) c.decode_told.ensures

pub returns-in_err-spu : goal.returns-in_err-spu
returns-in_err-spu c =
    claimed (λ i. (c.shared_slice_known-1.given i).fits)
    (decoded-refused _ _ _ _ (refused-by _ _ (sym (ap answered c.in_err-spu.was) ∙ c.parse_control.ensures)) (handed_on c.from_residual.result _ c.from_residual.ensures))
