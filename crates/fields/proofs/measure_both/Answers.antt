-- `fields::measure_both` meets its contract: the counts of the one and then the other, or a refusal. Assumes nothing.
use mathlib.Core.Path.{sym, ap, ◌∙◌}
use Rattle.outcome.specs.Outcome.{answered}
use Rattle.rle_model.proofs.Both.{field-most}
use Rattle.fields.proofs.measure_both.Goals as goal

pub measure_more-requires : goal.measure_more-requires
measure_more-requires c =
    let m = field-most _ _ _ _ _ _ (sym (ap answered c.in_ok-counts.was) ∙ c.measure_field.ensures) in
    (_, m, c.requires)
