-- `fields::fill_blank` meets its contract: the rows left, painted from their place on, are all rows. Assumes nothing.
use Prim.Native.Nat.{ℕ, ◌+◌, ◌-◌, ◌*◌, ◌≤◌}
use mathlib.Core.Path.{◌≡◌}
use mathlib.Core.List.{List}
use lib.ListN.{length}
use Rattle.rle_model.specs.Field.{paint_field}
use Rattle.rle_model.specs.Fields.{blank_rows}
use Rattle.fields.proofs.fill_blank.Given as goal

pub record Inv (width rows start : ℕ) (pixels₀ pixels : List ℕ) (left to : ℕ) : Type 0 where
  pub room : to + left * (2 * width) ≤ length pixels₀ + width
  pub long : length pixels ≡ length pixels₀
  pub goes : paint_field width to (blank_rows left) pixels ≡ paint_field width start (blank_rows rows) pixels₀

abbrev pub invariant-loop : goal.invariant-loop
invariant-loop l = Inv l.width l.rows l.start l.initial.pixels l.pixels (l.rows - l.counter) l.to
