-- `rle::fill_field` meets its contract: the rows left, painted from their place on, are all rows. Assumes nothing.
use Prim.Native.Nat.{◌+◌, ◌-◌, ◌*◌, ◌≤◌, ◌<◌}
use mathlib.Core.Path.{◌≡◌, ◌∙◌}
use native.Mathlib.Omega.{arith}
use lib.ListN.{length}
use Rattle.rle_model.proofs.Nibbles.{on_byte_lem}
use Rattle.rle_model.proofs.Loops.{mul_pred, row-there, row-goes_inside, field-there, field-paint, field-paint_end, blank-kept}
use Rattle.rle.proofs.fill_field.Goals as goal

pub returns-then-width-eq0 : goal.returns-then-width-eq0
returns-then-width-eq0 c = blank-kept _ _ _ _ _ _ c.if-width-eq0.true

pub fill_row-requires : goal.fill_row-requires
fill_row-requires c =
    let i = c.loop in
    let m = mul_pred (c.args.rows.count - i.counter) (2 * c.args.rows.width) (omega arith) in
    record {
      room = omega (arith, m, i.invariant.1.room, i.invariant.1.long);
      there = rw (i.invariant.0 ∙ c.new-reader.ensures.0) (row-there _ _ _ _ _ (omega (arith, c.loop-test.true)) i.invariant.1.there);
    }

pub loop-preserved : goal.loop-preserved
loop-preserved c =
    let i = c.loop in
    let f = rw (i.invariant.0 ∙ c.new-reader.ensures.0) at c.fill_row.ensures.row in
    let h : 0 < c.args.rows.count - i.counter = omega (arith, c.loop-test.true) in
    let z : c.args.rows.count - (i.counter + 1) ≡ c.args.rows.count - i.counter - 1 = omega arith in
    let e : c.fill_row.new.reader.pos ≤ 2 * length c.args.field.now = rw f.next (row-goes_inside _ _ _ _ _ h i.invariant.1.there i.invariant.1.wide) in
    let a = c.align.ensures.1 ∙ on_byte_lem c.args.field.now _ c.well_formed.0.1 e in (
      c.align.ensures.0 ∙ c.fill_row.ensures.field ∙ i.invariant.0,
      rw z (record {
        wide = i.invariant.1.wide;
        room = omega (arith, mul_pred (c.args.rows.count - i.counter) (2 * c.args.rows.width) h, i.invariant.1.room);
        long = c.fill_row.auto.pixels ∙ i.invariant.1.long;
        there = field-there _ _ _ _ _ h i.invariant.1.there _ _ f.next a;
        goes = field-paint _ _ _ _ _ h i.invariant.1.there _ _ f.next a _ _ _ f.pixels ∙ i.invariant.1.goes;
      }),
    )

pub returns : goal.returns
returns c = field-paint_end _ _ _ _ _ _ _ (omega arith) ∙ c.loop.invariant.1.goes
