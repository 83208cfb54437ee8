-- `demo::Writer::emit_field` meets its contract: each turn is one row more, in the same output. Assumes nothing.
use Prim.Native.Nat.{◌-◌}
use mathlib.Core.Path.{◌≡◌}
use Rattle.demo_model.proofs.Picture.{Fielding}
use Rattle.demo.proofs.Writer.emit_field.Given as goal

abbrev pub invariant-loop-row : goal.invariant-loop-row
invariant-loop-row l = (l.self.out.ghost_name ≡ l.initial.self.out.ghost_name) × Fielding l.indices l.width l.height l.start l.initial.self.pen l.initial.self.out.now l.self.pen l.self.out.now l.row

abbrev pub decreases-loop-row : goal.decreases-loop-row
decreases-loop-row l = l.height - l.row
