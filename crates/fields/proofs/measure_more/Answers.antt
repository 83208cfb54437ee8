-- `fields::measure_more` meets its contract: the sum fits, since a field counts no more than its pixels.
-- Assumes nothing.
use native.Mathlib.Omega.{arith}
use mathlib.Core.Path.{sym, ap, ◌∙◌}
use Rattle.outcome.specs.Outcome.{answered}
use Rattle.rle_model.proofs.Loops.{at-most_le, at-most-plus}
use Rattle.rle_model.proofs.Both.{field-most}
use Rattle.fields.proofs.measure_more.Goals as goal

pub plus_counts-requires : goal.plus_counts-requires
plus_counts-requires c =
    let p = c.requires in
    let m = field-most _ _ _ _ _ _ (sym (ap answered c.in_ok-more.was) ∙ c.measure_field.ensures) in
    at-most_le _ _ _ (omega (arith, p.2)) (at-most-plus _ _ _ _ p.1 m)
