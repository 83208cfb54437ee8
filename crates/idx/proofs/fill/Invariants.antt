-- `idx::fill` meets its contract: each turn is one line more. Assumes nothing.
use Prim.Native.Nat.{◌-◌, ◌+◌}
use lib.ListN.{length}
use Rattle.idx_model.proofs.Stores.{Filling}
use Rattle.idx.proofs.fill.Given as goal

abbrev pub invariant-loop-palette : goal.invariant-loop-palette
invariant-loop-palette l = Filling l.text l.initial.starts l.initial.positions l.starts l.positions l.n l.i

abbrev pub decreases-loop-palette : goal.decreases-loop-palette
decreases-loop-palette l = length l.text + 1 - l.i
