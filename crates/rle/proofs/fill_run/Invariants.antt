-- `rle::fill_run` meets its contract: what is left of the run, stored from its place on, is the whole run. Assumes nothing.
use Prim.Native.Nat.{ℕ, ◌+◌, ◌-◌, ◌≤◌}
use mathlib.Core.Path.{◌≡◌}
use mathlib.Core.List.{List}
use lib.ListN.{length, replicate}
use lib.Seq.{sets}
use Rattle.rle.proofs.fill_run.Given as goal

pub record Inv (pixels₀ : List ℕ) (start count colour : ℕ) (pixels : List ℕ) (i : ℕ) : Type 0 where
  pub below : i ≤ count
  pub long : length pixels ≡ length pixels₀
  pub goes : sets pixels (start + i) (replicate (count - i) colour) ≡ sets pixels₀ start (replicate count colour)

abbrev pub invariant-loop-i : goal.invariant-loop-i
invariant-loop-i l = Inv l.initial.pixels l.start l.count l.colour l.pixels l.i
