-- `rle::measure_kept` meets its contract: the rows left, counted and kept behind what was counted and kept, are all rows. Assumes nothing.
use Prim.Native.Nat.{ℕ, ◌-◌, ◌<◌}
use mathlib.Core.Path.{◌≡◌}
use mathlib.Core.List.{List}
use lib.ListN.{length}
use lib.Seq.{sets}
use Rattle.rle_model.specs.Codes.{field_at, field_read}
use Rattle.rle_model.specs.Kept.{kept_all}
use Rattle.rle_model.specs.Answers.{AtMost, field_answer, plus_field, measured}
use Rattle.rle_model.specs.declared.Counts.{Counts}
use Rattle.rle.proofs.measure_kept.Given as goal

pub record Inv (field : List ℕ) (width rows : ℕ) (kept₀ kept : List ℕ) (counts : Counts) (pos left : ℕ) : Type 0 where
  pub wide : 0 < width
  pub few : AtMost pos counts
  pub long : length kept ≡ length kept₀
  pub goes : plus_field counts (field_answer width (field_at field (length field) width left pos)) ≡ measured field width rows
  pub keeps : sets kept counts.codes (kept_all width (field_read field (length field) width left pos)) ≡ sets kept₀ 0 (kept_all width (field_read field (length field) width rows 0))

abbrev pub invariant-loop : goal.invariant-loop
invariant-loop l = (l.reader.buf ≡ l.initial.reader.buf) × Inv l.field l.width l.rows l.initial.kept l.kept l.counts l.reader.pos (l.rows - l.counter)
