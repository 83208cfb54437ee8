-- `idx_numbers::digits` meets its contract: each turn is one digit more. Assumes nothing.
use native.Mathlib.Omega.{arith}
use mathlib.Core.Path.{◌≡◌, sym, ◌∙◌}
use Prim.Native.Nat.{◌+◌, ◌*◌}
use lib.ListN.{length}
use Rattle.idx_numbers_model.proofs.Numbers.{run-stop, run-over, run_more, run_end, room-yes, room_no}
use Rattle.idx_numbers.proofs.digits.Goals as goal

pub returns-then-d : goal.returns-then-d
returns-then-d g c =
    run-stop g.row.BASE (c.args.most * g.row.BASE + c.args.last) c.requires.some_base c.args.s.now c.loop-i.acc c.loop-i.i _ _ c.loop-i.invariant.2 c.digit-d.ensures c.loop-i-test.true c.loop-i.invariant.1 c.if-d.true

pub returns-then-not-fits : goal.returns-then-not-fits
returns-then-not-fits g c =
    run-over g.row.BASE (c.args.most * g.row.BASE + c.args.last) c.requires.some_base c.args.s.now c.loop-i.acc c.loop-i.i _ _ c.loop-i.invariant.2 c.digit-d.ensures c.loop-i-test.true c.if-d.false
    (room_no g.row.BASE c.args.most c.args.last c.loop-i.acc _ c.if-d.false c.requires.less (sym c.fits.ensures ∙ c.if-not-fits.true))

pub loop-i-preserved : goal.loop-i-preserved
loop-i-preserved g c =
    let room = room-yes g.row.BASE c.args.most c.args.last c.loop-i.acc _ c.if-d.false c.requires.less (sym c.fits.ensures ∙ c.if-not-fits.false) in
    (omega arith, room, run_more g.row.BASE (c.args.most * g.row.BASE + c.args.last) c.requires.some_base c.args.s.now c.loop-i.acc c.loop-i.i _ _ c.loop-i.invariant.2 c.digit-d.ensures c.loop-i-test.true c.if-d.false)

pub returns : goal.returns
returns g c =
    let e : length c.args.s.now ≡ c.loop-i.i = omega arith in
    rw e (run_end g.row.BASE (c.args.most * g.row.BASE + c.args.last) c.requires.some_base c.args.s.now c.loop-i.acc c.loop-i.i _ c.loop-i.invariant.2 c.loop-i.invariant.1 (omega arith))
