-- `clock::plus` meets its contract. Assumes nothing.
use lib.IntN.{◌+ℤ◌}
use mir.Syntax.{w64}
use mir.ValLaws.{to_z-of_z}
use Rattle.clock_model.proofs.Sums.{checked_is}
use Rattle.clock.proofs.plus.Goals as goal

pub returns : goal.returns
returns c =
    let ea = to_z-of_z w64 c.args.a c.ranges.a in
    let eb = to_z-of_z w64 c.args.b c.ranges.b in
    checked_is (c.args.a +ℤ c.args.b) c.checked_add.result (rw (ea, eb) at c.checked_add.ensures)
