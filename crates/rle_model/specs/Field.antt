-- A field decoded into its rows of an index map. Assumes nothing: these are definitions.
use Rattle.std.specs.Prelude.{ℕ, ◌+◌, ◌-◌, ◌*◌, ◌/◌, List, [], ◌∷◌, length, leb}
use Rattle.std.proofs.lemmas.List.Edits.{sets}
use Rattle.outcome.specs.Outcome.{Res, check, short_pixels}
use Rattle.grammar.specs.Rows.{Code}
use Rattle.grammar.specs.Pixels.{row_pixels}
use Rattle.rle_model.specs.Codes.{field_at}

-- how many of the rows start, start + 2, .. lie below height (FORMAT 5.7)
unfoldable pub rows_from : ℕ → ℕ → ℕ
rows_from start height = (height + 1 - start) / 2

-- the map px with the rows of a field in it: the first from place o on, each next one two rows on (FORMAT 5.7, 5.8)
unfoldable pub paint_field : ℕ → ℕ → List (List Code) → List ℕ → List ℕ
paint_field w o [] px = px
paint_field w o (r ∷ rs) px = paint_field w (o + 2 * w) rs (sets px o (row_pixels w r))

-- the rows that the field s gives a map px of width w and height h, from row `start` on: 22 comes before 26 (FORMAT 5.7, 5.8)
unfoldable pub decoded : List ℕ → ℕ → ℕ → ℕ → List ℕ → Res (List (List Code))
decoded s w h start px = check (leb (w * h) (length px)) short_pixels (field_at s (length s) w (rows_from start h) 0)
