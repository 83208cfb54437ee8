-- `demo::Writer::emit_row` meets its contract: each turn is one run more, in the same output. Assumes nothing.
use Prim.Native.Nat.{◌-◌}
use mathlib.Core.Path.{◌≡◌}
use lib.ListN.{length}
use Rattle.demo_model.proofs.Ink.{Rowing}
use Rattle.demo.proofs.Writer.emit_row.Given as goal

abbrev pub invariant-loop-col : goal.invariant-loop-col
invariant-loop-col l = (l.self.out.ghost_name ≡ l.initial.self.out.ghost_name) × Rowing l.row l.initial.self.pen l.initial.self.out.now l.self.pen l.self.out.now l.col

abbrev pub decreases-loop-col : goal.decreases-loop-col
decreases-loop-col l = length l.row - l.col
