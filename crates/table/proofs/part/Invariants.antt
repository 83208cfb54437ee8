-- `table::part` meets its contract: each turn passes one mark. Assumes nothing.
use mathlib.Core.Path.{◌≡◌}
use Prim.Native.Nat.{◌≤◌, ◌-◌}
use lib.ListN.{length, drop}
use Rattle.table.specs.Table.{part_at}
use Rattle.table.proofs.part.Given as goal

abbrev pub invariant-loop : goal.invariant-loop
invariant-loop l = (l.from ≤ length l.s) × (part_at l.mark (l.k - l.counter) (drop l.from l.s) ≡ part_at l.mark l.k l.s)
