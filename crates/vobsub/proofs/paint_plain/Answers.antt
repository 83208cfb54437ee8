-- `vobsub::paint_plain` meets its contract: what is left of the line gives the whole. Assumes nothing.
use Prim.Native.Nat.{◌*◌}
use native.Mathlib.Omega.{arith}
use lib.ListN.{get_or}
use Rattle.vobsub_model.proofs.Painting.{painting-starts, painting_goes, painting_ends, table-turn, table_is, table_done}
use Rattle.vobsub.proofs.paint_plain.Goals as goal

pub loop-i-preserved : goal.loop-i-preserved
loop-i-preserved c =
    painting_goes _ _ _ _ c.loop-i.i _ c.loop-i.invariant c.loop-i-test.true _ (table-turn c.args.colours (4 * c.at_most_3-k.result)) (table_is c.args.colours c.loop-i.i (get_or c.args.row.now c.loop-i.i 0) _ _ c.at_most_3-k.ensures) _ c.put4.ensures

pub returns : goal.returns
returns c = painting_ends _ _ _ _ c.loop-i.i _ c.loop-i.invariant (omega arith) (table_done c.args.colours c.loop-i.i)
