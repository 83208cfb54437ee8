-- `rle::fill_measured` meets its contract: rows painted from what was kept, or rows read again. Assumes nothing.
use Rattle.rle_model.proofs.Kept.{kept-room, kept-pixels}
use Rattle.rle.proofs.fill_measured.Goals as goal

pub fill_kept-requires : goal.fill_kept-requires
fill_kept-requires c =
    let p = c.requires in
    (p.0, kept-room _ _ _ _ _ c.if-rows-lt-WIDEST.true p.2 c.if-codes-kept.true _ _ p.1)

pub returns-then-rows-lt-WIDEST : goal.returns-then-rows-lt-WIDEST
returns-then-rows-lt-WIDEST c = kept-pixels _ _ _ _ _ c.if-rows-lt-WIDEST.true c.requires.2 c.if-codes-kept.true _ _ _ c.fill_kept.ensures
