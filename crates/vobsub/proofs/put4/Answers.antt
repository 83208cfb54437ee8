-- `vobsub::put4` meets its contract: a part of the canvas is written over. Assumes nothing.
use native.Mathlib.Omega.{arith}
use Prim.Native.Nat.{◌+◌, ◌-◌}
use mathlib.Core.Path.{◌≡◌, ap, ◌∙◌}
use lib.ListN.{length}
use lib.Seq.{sets}
use Rattle.outcome.proofs.Laws.{part_stored}
use Rattle.vobsub.proofs.put4.Goals as goal

pub returns : goal.returns
returns c =
    let z : c.args.at + 4 - c.args.at ≡ 4 = omega arith in
    let l : length c.args.p ≡ 4 = omega arith in
    let e : c.copy_from_slice.new.self ≡ c.args.p = c.copy_from_slice.ensures.after in
    rw z (part_stored c.args.at 4 c.args.canvas.now c.copy_from_slice.new.self (ap length e ∙ l) c.requires ∙ ap (sets c.args.canvas.now c.args.at) e)
