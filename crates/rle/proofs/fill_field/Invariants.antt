-- `rle::fill_field` meets its contract: the rows left, painted from their place on, are all rows. Assumes nothing.
use Prim.Native.Nat.{ℕ, ◌+◌, ◌-◌, ◌*◌, ◌≤◌, ◌<◌}
use mathlib.Core.Path.{◌≡◌}
use mathlib.Core.List.{List}
use lib.ListN.{length}
use Rattle.outcome.specs.Outcome.{IsOk, listed}
use Rattle.rle_model.specs.Codes.{field_at}
use Rattle.rle_model.specs.Field.{paint_field}
use Rattle.rle.proofs.fill_field.Given as goal

pub record Inv (field : List ℕ) (width rows start : ℕ) (pixels₀ pixels : List ℕ) (pos left to : ℕ) : Type 0 where
  pub wide : 0 < width
  pub room : to + left * (2 * width) ≤ length pixels₀ + width
  pub long : length pixels ≡ length pixels₀
  pub there : IsOk (field_at field (length field) width left pos)
  pub goes : paint_field width to (listed (field_at field (length field) width left pos)) pixels
      ≡ paint_field width start (listed (field_at field (length field) width rows 0)) pixels₀

abbrev pub invariant-loop : goal.invariant-loop
invariant-loop l =
    (l.reader.buf ≡ l.initial.reader.buf)
    × Inv l.field l.width l.fn.rows.count l.fn.rows.start l.initial.pixels l.pixels l.reader.pos (l.fn.rows.count - l.counter) l.to
