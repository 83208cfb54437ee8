-- `rle::decode_through` meets its contract: rows that were measured are painted, or a refusal before any store. Assumes nothing.
use mathlib.Core.Path.{sym, ap, ◌∙◌}
use Rattle.outcome.specs.Outcome.{answered}
use Rattle.outcome.proofs.Refusals.{handed_on}
use Rattle.rle_model.proofs.Loops.{unfielded, refused-kept}
use Rattle.rle_model.proofs.Kept.{ready}
use Rattle.rle.proofs.decode_through.Goals as goal

pub fill_measured-requires : goal.fill_measured-requires
fill_measured-requires c =
    let p = c.requires in
    let m = c.measure_kept.ensures in
    (p.0, p.1, ready _ _ _ _ _ _ (sym (ap answered c.in_ok-counts.was) ∙ m.answer) m.keeps)

pub returns-in_err-counts : goal.returns-in_err-counts
returns-in_err-counts c =
    let a = sym (ap answered c.in_err-counts.was) ∙ c.measure_kept.ensures.answer in
    record { answer = handed_on c.from_residual.result _ c.from_residual.ensures ∙ a; pixels = refused-kept _ _ _ _ _ (unfielded _ _ _ _ _ _ a) }
