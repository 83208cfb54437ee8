-- `fields::decode_over` meets its contract: the first field painted and then the one that was measured, or a refusal before any store. Assumes nothing.
use native.Mathlib.Omega.{arith}
use mathlib.Core.Path.{sym, ap, ◌∙◌}
use Rattle.outcome.specs.Outcome.{answered}
use Rattle.outcome.proofs.Refusals.{handed_on}
use Rattle.rle_model.proofs.Both.{sum_fits, upper-refused}
use Rattle.fields.proofs.decode_over.Goals as goal

pub plus_counts-requires : goal.plus_counts-requires
plus_counts-requires c =
    let p = c.requires in
    sum_fits _ _ _ _ _ _ _ _ (sym (ap answered c.in_ok-first.was) ∙ c.decode_sized.ensures.answer) p.measured.0 p.both_fit (omega arith)

pub returns-in_err-first : goal.returns-in_err-first
returns-in_err-first c =
    let d = c.decode_sized.ensures in
    rw (handed_on c.from_residual.result _ c.from_residual.ensures) (upper-refused _ _ _ _ _ _ _ (sym (ap answered c.in_err-first.was) ∙ d.answer) d.pixels)
