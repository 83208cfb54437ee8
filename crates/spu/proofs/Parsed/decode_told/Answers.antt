-- `spu::Parsed::decode_told` meets its contract: the bands are few, then the lent length, then the rows. Assumes nothing.
use mathlib.Core.Path.{refl, ap}
use Rattle.outcome.specs.Outcome.{answered}
use Rattle.outcome.proofs.Refusals.{handed_on}
use Rattle.grammar.specs.Record.{told}
use Rattle.control_model.proofs.Few.{given-refused, given-few}
use Rattle.spu_model.proofs.Loops.{told_by_lem, bands-asked, decoded-many, short-map, decoded-shows, decoded-stops, room-told, short-told}
use Rattle.spu.proofs.Parsed.decode_told.Goals as goal

pub unit_bands-requires : goal.unit_bands-requires
unit_bands-requires c = bands-asked _ _ (told_by_lem _ _ c.args.self.now.read)

pub returns-in_err-bands : goal.returns-in_err-bands
returns-in_err-bands c = decoded-many _ _ _ _ (given-refused _ _ c.unit_bands.ensures _ (ap answered c.in_err-bands.was)) (handed_on c.from_residual.result _ c.from_residual.ensures)

pub returns-then-pixels-l : goal.returns-then-pixels-l
returns-then-pixels-l c =
    let p = told_by_lem _ _ c.args.self.now.read in
    short-map _ p.0 (given-few _ _ c.unit_bands.ensures p.0 p.1 _ (ap answered c.in_ok-bands.was)).0 _ _
    (short-told _ (told p.0) _ (c.laid_out-l.ensures.2 p.0 p.1) _ c.if-pixels-l.true) refl

pub returns : goal.returns
returns c =
    let p = told_by_lem _ _ c.args.self.now.read in
    let g = given-few _ _ c.unit_bands.ensures p.0 p.1 _ (ap answered c.in_ok-bands.was) in
    decoded-shows _ p.0 g.0 _ (room-told _ (told p.0) _ (c.laid_out-l.ensures.2 p.0 p.1) _ c.if-pixels-l.false) _ _ _ _ _ (ap answered c.in_ok-counts.was) (c.decode_rows.ensures p.0 p.1) g.1
    (c.with_counts.ensures (told p.0) p.2)

pub returns-in_err-counts : goal.returns-in_err-counts
returns-in_err-counts c =
    let p = told_by_lem _ _ c.args.self.now.read in
    let g = given-few _ _ c.unit_bands.ensures p.0 p.1 _ (ap answered c.in_ok-bands.was) in
    decoded-stops _ p.0 g.0 _ (room-told _ (told p.0) _ (c.laid_out-l.ensures.2 p.0 p.1) _ c.if-pixels-l.false) _ _ _ _ (ap answered c.in_err-counts.was) (c.decode_rows.ensures p.0 p.1) (handed_on c.from_residual-in_err-counts.result _ c.from_residual-in_err-counts.ensures)
