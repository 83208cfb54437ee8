-- What the layer claims, in the grammar's words; `proofs/Claim.antt` has it kept. Assumes nothing: these are definitions.
use Rattle.std.specs.Prelude.{ℕ, ◌*◌, ◌≤◌, ◌<◌, ◌≡◌, ◌⊎◌, List, length}
use Rattle.outcome.specs.Outcome.{Res, ok, refuse, short_pixels, field_ran_out}
use Rattle.grammar.specs.Rows.{Code, FieldRows}
use Rattle.grammar.specs.Pixels.{codes_in, clipped_in}
use Rattle.rle_model.specs.Field.{rows_from, paint_field}
use Rattle.rle_model.specs.declared.Counts.{Counts}

-- rs are the rows of the field s for the rows start, start + 2, .. below h
pub record Listing (s : List ℕ) (w h start : ℕ) (rs : List (List Code)) : Type 0 where
  pub all : length rs ≡ rows_from start h
  pub rows : FieldRows s (length s) w 0 rs

-- what an answer, and the map after it, say: counts are of rows that are listed, the map holds the picture, and it has these rows; a refusal
-- leaves the map as found, and says that it is too short, or that nothing is listed
abbrev pub Says : List ℕ → ℕ → ℕ → ℕ → List ℕ → List ℕ → Res Counts → Type 0
Says s w h start px px' (ok b) =
    (rs : List (List Code)) × Listing s w h start rs × (w * h ≤ length px) × (b.codes ≡ codes_in rs) × (b.clipped ≡ clipped_in w rs)
    × (px' ≡ paint_field w (start * w) rs px)
Says s w h start px px' (refuse n) =
    (px' ≡ px)
    × (((n ≡ short_pixels) × (length px < w * h)) ⊎ ((n ≡ field_ran_out) × ((rs : List (List Code)) → Listing s w h start rs → ⊥)))
