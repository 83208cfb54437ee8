-- `rle::measure_row` meets its contract: what is left of the row, counted and kept behind what was counted and kept, is the whole row.
-- Assumes nothing.
use Prim.Native.Nat.{ℕ, ◌+◌, ◌≤◌}
use mathlib.Core.Path.{◌≡◌}
use mathlib.Core.Bool.{Bool, true}
use mathlib.Core.List.{List}
use lib.ListN.{length}
use lib.Seq.{sets}
use Rattle.outcome.specs.Outcome.{IsOk, listed}
use Rattle.grammar.specs.Rows.{after_codes}
use Rattle.rle_model.specs.Codes.{row_at, row_read}
use Rattle.rle_model.specs.Kept.{kept_row}
use Rattle.rle_model.specs.Answers.{last_counts, row_answer}
use Rattle.rle_model.proofs.Loops.{plus_row}
use Rattle.rle.proofs.measure_row.Given as goal

pub record Inv (field : List ℕ) (width : ℕ) (kept₀ : List ℕ) (from pos₀ : ℕ)
    (kept : List ℕ) (pos left codes : ℕ) (clipped : Bool) : Type 0 where
  pub behind : from + codes ≤ pos
  pub over : clipped ≡ true → left ≡ 0
  pub long : length kept ≡ length kept₀
  pub goes : plus_row (last_counts codes clipped) (row_answer left (row_at field (length field) left pos))
      ≡ row_answer width (row_at field (length field) width pos₀)
  pub ends : IsOk (row_at field (length field) width pos₀)
      → IsOk (row_at field (length field) left pos)
      × (after_codes pos (listed (row_at field (length field) left pos)) ≡ after_codes pos₀ (listed (row_at field (length field) width pos₀)))
  pub keeps : sets kept (from + codes) (kept_row left (row_read field (length field) left pos))
      ≡ sets kept₀ from (kept_row width (row_read field (length field) width pos₀))

abbrev pub invariant-loop-left : goal.invariant-loop-left
invariant-loop-left l =
    (l.reader.buf ≡ l.initial.reader.buf)
    × Inv l.initial.reader.buf.now l.width l.initial.kept l.from l.initial.reader.pos l.kept l.reader.pos l.left l.codes l.clipped

abbrev pub decreases-loop-left : goal.decreases-loop-left
decreases-loop-left l = l.left
