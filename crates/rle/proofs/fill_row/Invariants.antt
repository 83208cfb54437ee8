-- `rle::fill_row` meets its contract: what is left of the row, painted from its place on, is the whole row. Assumes nothing.
use Prim.Native.Nat.{ℕ, ◌+◌}
use mathlib.Core.Path.{◌≡◌}
use mathlib.Core.List.{List}
use Rattle.outcome.specs.Outcome.{IsOk, listed}
use lib.ListN.{length}
use lib.Seq.{sets}
use Rattle.grammar.specs.Rows.{after_codes}
use Rattle.grammar.specs.Pixels.{row_pixels}
use Rattle.rle_model.specs.Codes.{row_at}
use Rattle.rle.proofs.fill_row.Given as goal

pub record Inv (field : List ℕ) (width start : ℕ) (pixels₀ : List ℕ) (pos₀ : ℕ) (pixels : List ℕ) (pos left to : ℕ) : Type 0 where
  pub fits : to + left ≡ start + width
  pub long : length pixels ≡ length pixels₀
  pub there : IsOk (row_at field (length field) left pos)
  pub ends : after_codes pos (listed (row_at field (length field) left pos)) ≡ after_codes pos₀ (listed (row_at field (length field) width pos₀))
  pub goes : sets pixels to (row_pixels left (listed (row_at field (length field) left pos)))
      ≡ sets pixels₀ start (row_pixels width (listed (row_at field (length field) width pos₀)))

abbrev pub invariant-loop-left : goal.invariant-loop-left
invariant-loop-left l =
    (l.reader.buf ≡ l.initial.reader.buf)
    × Inv l.initial.reader.buf.now l.width l.start l.initial.pixels l.initial.reader.pos l.pixels l.reader.pos l.left l.to

abbrev pub decreases-loop-left : goal.decreases-loop-left
decreases-loop-left l = l.left
