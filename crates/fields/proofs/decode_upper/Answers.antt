-- `fields::decode_upper` meets its contract: the field painted and then rows that stay 0, or a refusal before any store. Assumes nothing.
use mathlib.Core.Path.{sym, ap, ◌∙◌}
use Rattle.outcome.specs.Outcome.{answered}
use Rattle.outcome.proofs.Refusals.{handed_on}
use Rattle.rle_model.proofs.Both.{upper-refused, upper-painted}
use Rattle.fields.proofs.decode_upper.Goals as goal

pub returns : goal.returns
returns c =
    let d = c.decode_sized.ensures in
    upper-painted _ _ _ c.args.more _ _ _ _ (sym (ap answered c.in_ok-counts.was) ∙ d.answer) d.pixels c.fill_blank.ensures

pub returns-in_err-counts : goal.returns-in_err-counts
returns-in_err-counts c =
    let d = c.decode_sized.ensures in
    rw (handed_on c.from_residual.result _ c.from_residual.ensures) (upper-refused _ _ _ _ _ _ _ (sym (ap answered c.in_err-counts.was) ∙ d.answer) d.pixels)
