-- `vobsub::paint_plain` meets its contract: what is left of the line gives the whole. Assumes nothing.
use Prim.Native.Nat.{◌-◌}
use lib.ListN.{length}
use Rattle.vobsub_model.proofs.Painting.{Painting, table_from}
use Rattle.vobsub.proofs.paint_plain.Given as goal

abbrev pub invariant-loop-i : goal.invariant-loop-i
invariant-loop-i l = Painting (table_from l.colours) l.row l.initial.canvas l.at l.i l.canvas

abbrev pub decreases-loop-i : goal.decreases-loop-i
decreases-loop-i l = length l.row - l.i
