-- Closed inputs on which each edit of this crate's definitions gives another value. Assumes nothing.
use Prim.Native.Nat.{ℕ, ◌-◌, ◌^◌}
use mathlib.Core.Path.{◌≡◌, refl}
use mathlib.Core.Bool.{true, false}
use mathlib.Core.List.{[], ◌∷◌}
use Rattle.outcome.specs.Outcome.{ok, refuse}
use Rattle.outcome.specs.Lists.{list_from, list_fuel}
use Rattle.grammar.specs.Bytes.{nibble, nibbles}
use Rattle.grammar.specs.Rows.{code, paints, overshoots, after_codes, align}
use Rattle.grammar.specs.Pixels.{row_pixels}
use Rattle.rle_model.specs.Nibbles.{past_nibble, on_byte}
use Rattle.rle_model.specs.CodeAnswers.{code_found, code_answer, code_end}
use Rattle.rle_model.specs.Codes.{code_from, code_at, row_at, field_at}
use Rattle.rle_model.specs.Field.{rows_from, paint_field}
use Rattle.rle_model.specs.Kept.{kept_row}
use Rattle.rle_model.specs.Fields.{weave, lower_at, fields_at, both_answer}
use Rattle.rle_model.specs.Answers.{row_counts, field_counts}

-- the count after a read of a field of one byte: the next inside it, and the same at its end
pub past_counts : past_nibble (0 ∷ []) 1 ∷ past_nibble (0 ∷ []) 2 ∷ [] ≡ 2 ∷ 2 ∷ []
past_counts = refl

-- a field's row of one pixel is painted in its colour
pub row-painted : paint_field 1 0 ((code 0 1 5 ∷ []) ∷ []) (0 ∷ []) ≡ 1 ∷ []
unfolding paint_field row_pixels paints
row-painted = refl

-- a kept code: two pixels of colour 1
pub code-kept : kept_row 2 (code 0 1 9 ∷ []) ≡ 9 ∷ []
unfolding kept_row paints
code-kept = refl

-- one code of two pixels counts 1
pub codes-counted : (field_counts 2 ((code 0 1 9 ∷ []) ∷ [])).codes ≡ 1
unfolding field_counts row_counts paints
codes-counted = refl

-- a code in each field counts 2
pub both-counted :
    both_answer 1 (ok ((code 0 1 5 ∷ []) ∷ [])) (ok ((code 2 1 5 ∷ []) ∷ [])) ≡ ok (record { codes = 2; clipped = 0 })
unfolding field_counts row_counts paints overshoots
both-counted = refl

-- `9`, a run of two pixels: clipped with one left, not with two
pub code-clipped : code_answer 1 (ok (code 0 1 9)) ∷ code_answer 2 (ok (code 0 1 9)) ∷ []
    ≡ ok (code_found 1 9 true) ∷ ok (code_found 1 9 false) ∷ []
unfolding overshoots paints
code-clipped = refl

-- behind a code of one nibble, and where a field of one byte ran out
pub places_after : code_end (0 ∷ []) 0 (ok (code 0 1 5)) ∷ code_end (0 ∷ []) 0 (refuse 26) ∷ code_end (0 ∷ []) 3 (refuse 26) ∷ [] ≡ 1 ∷ 2 ∷ 3 ∷ []
places_after = refl

-- `59` in rows of two pixels: the second code has one left
pub second-clipped : field_counts 2 ((code 0 1 5 ∷ code 1 1 9 ∷ []) ∷ []) ≡ record { codes = 2; clipped = 1 }
unfolding field_counts row_counts paints overshoots
second-clipped = refl

-- a clipped code in each field counts 2
pub both_clipped :
    both_answer 1 (ok ((code 0 1 9 ∷ []) ∷ [])) (ok ((code 2 1 9 ∷ []) ∷ [])) ≡ ok (record { codes = 2; clipped = 2 })
unfolding field_counts row_counts paints overshoots
both_clipped = refl

-- the top field's row comes first
pub rows-woven : weave {A = ℕ} (1 ∷ []) (2 ∷ []) ≡ 1 ∷ 2 ∷ []
unfolding weave
rows-woven = refl

-- a top field from byte 1 on, of one row of one pixel
pub field-started : fields_at (0 ∷ 80 ∷ []) 1 2 0 0 false 1 1 ≡ ok ((code 2 1 5 ∷ []) ∷ [])
unfolding fields_at lower_at field_at row_at code_at code_from rows_from weave list_from list_fuel nibble nibbles paints after_codes align
field-started = refl

-- a count at a byte stays, one inside it goes to the next, and the largest stays
pub counts_aligned : on_byte 0 ∷ on_byte 1 ∷ on_byte (2 ^ 64 - 1) ∷ [] ≡ 0 ∷ 2 ∷ 18446744073709551615 ∷ []
unfolding align
counts_aligned = refl

-- `56`: two codes of one nibble each, one after the other
pub codes-joined : row_at (0x56 ∷ []) 1 2 0 ≡ ok (code 0 1 5 ∷ code 1 1 6 ∷ [])
unfolding row_at code_at code_from list_from list_fuel nibble nibbles paints
codes-joined = refl

-- `0100`: a code of four nibbles
pub longest-code : code_at (0x01 ∷ 0x00 ∷ []) 2 0 ≡ ok (code 0 4 256)
unfolding code_at code_from nibble nibbles
longest-code = refl
