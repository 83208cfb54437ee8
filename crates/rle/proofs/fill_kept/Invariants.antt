-- `rle::fill_kept` meets its contract: the codes left, painted from their place on, are all codes. Assumes nothing.
use Prim.Native.Nat.{ℕ}
use mathlib.Core.Path.{◌≡◌}
use mathlib.Core.List.{List}
use lib.ListN.{length, drop}
use Rattle.rle_model.specs.Kept.{paint_kept, KeptFits}
use Rattle.rle.proofs.fill_kept.Given as goal

pub record Inv (kept : List ℕ) (width start : ℕ) (pixels₀ pixels : List ℕ) (k left to : ℕ) : Type 0 where
  pub long : length pixels ≡ length pixels₀
  pub fits : KeptFits (length pixels₀) width left to (drop k kept)
  pub goes : paint_kept width left to (drop k kept) pixels ≡ paint_kept width width start kept pixels₀

abbrev pub invariant-loop-code : goal.invariant-loop-code
invariant-loop-code l = Inv l.kept l.width l.start l.initial.pixels l.pixels l.code-index l.left l.to
