-- `fields::measure_fields` meets its contract: the fields as slices of their own count what the unit's rows count. Assumes nothing.
use native.Mathlib.Omega.{arith}
use Rattle.rle_model.proofs.Both.{both_few, rows-upper, rows-lower, shown-measured, blank-measured}
use mathlib.Core.Path.{refl}
use Rattle.fields.proofs.measure_fields.Goals as goal

pub measure_both-requires : goal.measure_both-requires
measure_both-requires c =
    omega (arith, c.requires.2, both_few c.args.height c.args.width)

pub returns-in-Some : goal.returns-in-Some
returns-in-Some c =
    let h = c.args.height in
    rw c.in-Some.is
    (shown-measured _ _ _ _ _ c.requires.0 (rw c.in-Some.is at c.requires.1) _ _ _ _ _ _ c.field_bytes-upper.ensures (rows-upper h) (rows-lower h)
    refl _ c.field_bytes-lower.ensures _ c.measure_both.ensures)

pub returns-in-None : goal.returns-in-None
returns-in-None c =
    let h = c.args.height in
    rw c.in-None.is
    (blank-measured _ _ _ _ _ c.requires.0 (rw c.in-None.is at c.requires.1) _ _ _ _ _ _ c.field_bytes-upper.ensures (rows-upper h) (rows-lower h)
    refl _ c.measure_field.ensures)
