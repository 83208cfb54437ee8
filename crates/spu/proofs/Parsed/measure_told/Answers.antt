-- `spu::Parsed::measure_told` meets its contract: the bands are few, then the rows. Assumes nothing.
use mathlib.Core.Path.{sym, ◌∙◌, ap}
use Rattle.outcome.specs.Outcome.{answered}
use Rattle.outcome.proofs.Refusals.{handed_on}
use Rattle.control_model.proofs.Few.{given-refused, given-few}
use Rattle.spu_model.proofs.Loops.{told_by_lem, bands-asked, measured-many, measured-shows, measured-stops}
use Rattle.spu.proofs.Parsed.measure_told.Goals as goal

pub unit_bands-requires : goal.unit_bands-requires
unit_bands-requires c = bands-asked _ _ (told_by_lem _ _ c.args.self.now.read)

pub returns-in_err-unit_bands : goal.returns-in_err-unit_bands
returns-in_err-unit_bands c = handed_on c.from_residual.result _ c.from_residual.ensures ∙ measured-many _ _ (given-refused _ _ c.unit_bands.ensures _ (ap answered c.in_err-unit_bands.was))

pub returns : goal.returns
returns c =
    let p = (told_by_lem _ _ c.args.self.now.read) in
    measured-shows _ p.0 (given-few _ _ c.unit_bands.ensures p.0 p.1 _ (ap answered c.in_ok-unit_bands.was)).0 _ _
    (sym (ap answered c.in_ok-counts.was) ∙ c.measure_rows.ensures p.0 p.1) (c.with_counts.ensures _ p.2)

pub returns-in_err-counts : goal.returns-in_err-counts
returns-in_err-counts c =
    let p = (told_by_lem _ _ c.args.self.now.read) in
    handed_on c.from_residual-in_err-counts.result _ c.from_residual-in_err-counts.ensures
    ∙ measured-stops _ p.0 (given-few _ _ c.unit_bands.ensures p.0 p.1 _ (ap answered c.in_ok-unit_bands.was)).0 _
    (sym (ap answered c.in_err-counts.was) ∙ c.measure_rows.ensures p.0 p.1)
