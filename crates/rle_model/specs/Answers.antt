-- What each answer of the code means: the listed codes, counted, or the number of the refusal; and what the functions that write leave.
-- Assumes nothing: these are definitions.
use Rattle.std.specs.Prelude.{ℕ, ◌+◌, ◌-◌, ◌*◌, ◌≤◌, ◌≡◌, Bool, cond, List, [], ◌∷◌, length, take}
use Rattle.std.proofs.lemmas.List.Edits.{sets}
use Rattle.outcome.specs.Outcome.{Res, ok, refuse, listed, IsOk}
use Rattle.grammar.specs.Rows.{Code, paints, overshoots, after_codes}
use Rattle.grammar.specs.Pixels.{row_pixels, codes_in, clipped_in}
use Rattle.rle_model.specs.Codes.{row_at, row_read, field_at, field_read}
use Rattle.rle_model.specs.Field.{decoded, paint_field}
use Rattle.rle_model.specs.Kept.{kept_row, kept_all}
use Rattle.rle_model.specs.declared.Counts.{Counts}

-- ---- What rows count (FORMAT 5.9, 5.11)

abbrev pub nothing : Counts
nothing = record { codes = 0; clipped = 0 }

abbrev pub plus : Counts → Counts → Counts
plus a b = record { codes = a.codes + b.codes; clipped = a.clipped + b.clipped }

-- what the code c adds, with `left` pixels of its row to go
abbrev pub counted : ℕ → Code → Counts
counted left c = record { codes = 1; clipped = cond (overshoots left c) 1 0 }

-- what n codes of a row count, by whether the last of them is clipped: no code follows one that is
abbrev pub last_counts : ℕ → Bool → Counts
last_counts n b = record { codes = n; clipped = cond b 1 0 }

-- each count is at most n
abbrev pub AtMost : ℕ → Counts → Type 0
AtMost n a = (a.codes ≤ n) × (a.clipped ≤ n)

unfoldable pub row_counts : ℕ → List Code → Counts
row_counts left [] = nothing
row_counts left (c ∷ cs) = plus (counted left c) (row_counts (left - paints left c) cs)

unfoldable pub field_counts : ℕ → List (List Code) → Counts
field_counts w [] = nothing
field_counts w (r ∷ rs) = plus (row_counts w r) (field_counts w rs)

-- the same of listed rows of width w, in the grammar's words
abbrev pub listed_counts : ℕ → List (List Code) → Counts
listed_counts w rs = record { codes = codes_in rs; clipped = clipped_in w rs }

-- ---- Answers

-- of a row of width w: what it counts
abbrev pub row_answer : ℕ → Res (List Code) → Res Counts
row_answer w (ok cs) = ok (row_counts w cs)
row_answer w (refuse n) = refuse n

abbrev pub field_answer : ℕ → Res (List (List Code)) → Res Counts
field_answer w (ok rs) = ok (field_counts w rs)
field_answer w (refuse n) = refuse n

-- the counts a, and then the field's
abbrev pub plus_field : Counts → Res Counts → Res Counts
plus_field a (ok b) = ok (plus a b)
plus_field a (refuse n) = refuse n

-- a field of n rows, measured
abbrev pub measured : List ℕ → ℕ → ℕ → Res Counts
measured s w n = field_answer w (field_at s (length s) w n 0)

-- what measuring a row whose codes start at p leaves: the codes that were read, all of them or those before the field ran out, are kept
-- from place i on; and the place p' of the reader is behind the row
pub record RowMeasured (s : List ℕ) (w p i : ℕ) (ks : List ℕ) (r : Res Counts) (ks' : List ℕ) (p' : ℕ) : Type 0 where
  pub answer : r ≡ row_answer w (row_at s (length s) w p)
  pub next : IsOk (row_at s (length s) w p) → p' ≡ after_codes p (listed (row_at s (length s) w p))
  pub keeps : ks' ≡ sets ks i (kept_row w (row_read s (length s) w p))

-- what measuring a field leaves, in the same way
pub record FieldMeasured (s : List ℕ) (w n : ℕ) (ks : List ℕ) (r : Res Counts) (ks' : List ℕ) : Type 0 where
  pub answer : r ≡ measured s w n
  pub keeps : ks' ≡ sets ks 0 (kept_all w (field_read s (length s) w n 0))

-- what filling a row of width w from place o on leaves, of the map and of the place
pub record RowFilled (s : List ℕ) (w p o : ℕ) (px px' : List ℕ) (p' : ℕ) : Type 0 where
  pub next : p' ≡ after_codes p (listed (row_at s (length s) w p))
  pub pixels : px' ≡ sets px o (row_pixels w (listed (row_at s (length s) w p)))

-- what decoding a field's n rows from place o on leaves
pub record RowsDecoded (s : List ℕ) (w n o : ℕ) (px : List ℕ) (r : Res Counts) (px' : List ℕ) : Type 0 where
  pub answer : r ≡ measured s w n
  pub pixels : px' ≡ paint_field w o (listed (field_at s (length s) w n 0)) px

-- what decoding a field leaves: on a refusal nothing is listed, so the map is as found
pub record Decoded (s : List ℕ) (w h start : ℕ) (px : List ℕ) (r : Res Counts) (px' : List ℕ) : Type 0 where
  pub answer : r ≡ field_answer w (decoded s w h start px)
  pub pixels : px' ≡ paint_field w (start * w) (listed (decoded s w h start px)) px

-- ---- A way of working inside the layers of the run codes: a field as a slice of its own

-- n rows of the field s
abbrev pub part_rows : List ℕ → ℕ → ℕ → Res (List (List Code))
part_rows s w n = field_at s (length s) w n 0

-- a field's n rows are there, and their codes are the first `codes` of ks where it has room for them
pub record Ready (s : List ℕ) (w n codes : ℕ) (ks : List ℕ) : Type 0 where
  pub there : IsOk (part_rows s w n)
  pub kept : codes ≤ length ks → take codes ks ≡ kept_all w (listed (part_rows s w n))

-- a field's n rows are there and count b
abbrev pub Counted : List ℕ → ℕ → ℕ → Counts → Type 0
Counted s w n b = ok b ≡ measured s w n
