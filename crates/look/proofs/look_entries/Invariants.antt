-- `look::look_entries` meets its contract: the entries left, after what was found, are all entries. Assumes nothing.
use Prim.Native.Nat.{◌-◌, ◌*◌}
use mathlib.Core.Path.{◌≡◌}
use lib.ListN.{drop}
use Rattle.bands_model.specs.Look.{told, entries_look}
use Rattle.look.proofs.look_entries.Given as goal

abbrev pub invariant-loop-i : goal.invariant-loop-i
invariant-loop-i l = entries_look l.x (told l.look) (l.n - l.i) (drop (3 * l.i) l.words) ≡ entries_look l.x (told l.initial.look) l.n l.words
