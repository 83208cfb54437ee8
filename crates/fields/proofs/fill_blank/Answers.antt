-- `fields::fill_blank` meets its contract: the rows left, painted from their place on, are all rows. Assumes nothing.
use Prim.Native.Nat.{◌+◌, ◌-◌, ◌*◌, ◌<◌}
use native.Mathlib.Omega.{arith}
use mathlib.Core.Path.{◌≡◌, ◌∙◌}
use Rattle.rle_model.proofs.Loops.{mul_pred}
use Rattle.rle_model.proofs.Both.{blank-more, blank-end}
use Rattle.fields.proofs.fill_blank.Goals as goal

pub loop-preserved : goal.loop-preserved
loop-preserved c =
    let i = c.loop in
    let h : 0 < c.args.rows - i.counter = omega (arith, c.loop-test.true) in
    let z : c.args.rows - (i.counter + 1) ≡ c.args.rows - i.counter - 1 = omega arith in
    let f = c.fill_run in
    rw z (record {
      room = omega (arith, mul_pred (c.args.rows - i.counter) (2 * c.args.width) h, i.invariant.room);
      long = f.auto.pixels ∙ i.invariant.long;
      goes = blank-more _ _ _ _ _ h f.ensures ∙ i.invariant.goes;
    })

pub returns : goal.returns
returns c = let z : c.args.rows - c.loop.counter ≡ 0 = omega arith in blank-end _ _ _ _ z ∙ c.loop.invariant.goes
