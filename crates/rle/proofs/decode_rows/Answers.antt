-- `rle::decode_rows` meets its contract: no row at all, or the rows from the first one's place on. Assumes nothing.
use Rattle.rle_model.proofs.Loops.{rows-some, width_fits, rows_fit, decoded-none, decoded-rows}
use Rattle.rle.proofs.decode_rows.Goals as goal

pub returns-then-height-start_row : goal.returns-then-height-start_row
returns-then-height-start_row c = decoded-none _ _ _ _ _ c.requires c.if-height-start_row.true

pub decode_sized-requires : goal.decode_sized-requires
decode_sized-requires c =
    let h = c.if-height-start_row.false in
    let p = c.requires in
    (width_fits _ _ _ _ h p, rw (rows-some _ _ h) (rows_fit _ _ _ _ h p))

pub returns : goal.returns
returns c = decoded-rows _ _ _ _ _ c.requires _ (rows-some _ _ c.if-height-start_row.false) _ _ c.decode_sized.ensures
