-- `fields::decode_rle_fields` meets its contract: the fields as slices of their own paint what the unit's rows paint. Assumes nothing.
use Rattle.rle_model.proofs.Both.{rows-upper, rows-lower, room_fits, fields-none, shown-decoded, blank-decoded}
use mathlib.Core.Path.{refl}
use Rattle.fields.proofs.decode_rle_fields.Goals as goal

pub returns-then-height-eq0 : goal.returns-then-height-eq0
returns-then-height-eq0 c = fields-none _ _ _ _ _ _ _ _ _ c.if-height-eq0.true

pub decode_both-requires : goal.decode_both-requires
decode_both-requires c =
    let p = c.requires.2 in
    room_fits _ _ _ c.if-height-eq0.false p

pub returns-in-Some : goal.returns-in-Some
returns-in-Some c =
    let h = c.args.height in
    let p = c.requires in
    rw c.in-Some.is
    (shown-decoded _ _ _ _ _ p.0 (rw c.in-Some.is at p.1) _ _ _ _ _ _ c.field_bytes-upper.ensures (rows-upper h) (rows-lower h)
    refl _ c.field_bytes-lower.ensures _ _ _ c.decode_both.ensures)

pub decode_upper-requires : goal.decode_upper-requires
decode_upper-requires c =
    let p = c.requires.2 in
    room_fits _ _ _ c.if-height-eq0.false p

pub returns-in-None : goal.returns-in-None
returns-in-None c =
    let h = c.args.height in
    let p = c.requires in
    rw c.in-None.is
    (blank-decoded _ _ _ _ _ p.0 (rw c.in-None.is at p.1) _ _ _ _ _ _ c.field_bytes-upper.ensures (rows-upper h) (rows-lower h)
    refl _ _ _ c.decode_upper.ensures)
