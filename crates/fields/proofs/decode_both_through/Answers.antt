-- `fields::decode_both_through` meets its contract: the second field is measured first, and a refusal of it leaves the map as found. Assumes nothing.
use mathlib.Core.Path.{sym, ap, ◌∙◌}
use Rattle.outcome.specs.Outcome.{answered}
use Rattle.outcome.proofs.Refusals.{handed_on}
use Rattle.rle_model.proofs.Kept.{ready}
use Rattle.rle_model.proofs.Both.{lower_refused}
use Rattle.fields.proofs.decode_both_through.Goals as goal

pub decode_over-requires : goal.decode_over-requires
decode_over-requires c =
    let m = c.measure_kept.ensures in
    let a = sym (ap answered c.in_ok-counts.was) ∙ m.answer in
    record { both_fit = c.requires; measured = (a, ready _ _ _ _ _ _ a m.keeps) }

pub returns-in_err-counts : goal.returns-in_err-counts
returns-in_err-counts c = rw (handed_on c.from_residual.result _ c.from_residual.ensures) (lower_refused _ _ _ _ _ _ _ (sym (ap answered c.in_err-counts.was) ∙ c.measure_kept.ensures.answer))
