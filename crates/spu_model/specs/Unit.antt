-- The rows of a unit's picture, found, and so a whole unit: what is asked first refuses first (FORMAT 3.7, 3.8).
-- Assumes nothing: these are definitions.
use Rattle.std.specs.Prelude.{ℕ, ◌*◌, Bool, ◌&&◌, List, leb, ltb}
use Rattle.outcome.specs.Outcome.{Res, check, and_then, map_res, short_pixels, no_top_field}
use Rattle.grammar.specs.Rows.{Code}
use Rattle.grammar.specs.Control.{Block, length_word, control_word}
use Rattle.grammar.specs.Record.{Offsets, Told, told, width, height}
use Rattle.grammar.specs.Picture.{top_end, ListedUnit}
use Rattle.control_model.specs.Few.{few_at}
use Rattle.rle_model.specs.Fields.{fields_at}
use Rattle.rle_model.specs.declared.Counts.{Counts}
use Rattle.rle_model.specs.Answers.{listed_counts}

-- whether there is a bottom field, in a unit whose control blocks start at C (FORMAT 3.8)
abbrev pub has_bottom : ℕ → ℕ → Bool
has_bottom C b = ltb 0 b && ltb b C

abbrev pub offsets_of : ℕ → ℕ → Offsets
offsets_of t b = record { top = t; bottom = b }

-- the rows of a unit u whose commands told t (FORMAT 3.8)
unfoldable pub rows_at : List ℕ → Told → Res (List (List Code))
rows_at u t =
    check (ltb t.fields.top (length_word u)) no_top_field
    (fields_at u t.fields.top (top_end (control_word u) t.fields) t.fields.bottom (control_word u) (has_bottom (control_word u) t.fields.bottom) (width t) (height t))

abbrev pub listed_unit : List Block → List (List Code) → ListedUnit
listed_unit bs rs = record { blocks = bs; rows = rs }

-- what its rows count
abbrev pub counts_of : ListedUnit → Counts
counts_of l = listed_counts (width (told l.blocks)) l.rows

-- a unit with no map lent
unfoldable pub unit_at : List ℕ → Res ListedUnit
unit_at u = and_then (few_at u) (λ bs. map_res (listed_unit bs) (rows_at u (told bs)))

-- and with a map of n pixels (FORMAT 3.7)
unfoldable pub unit_in : List ℕ → ℕ → Res ListedUnit
unit_in u n =
    and_then (few_at u)
    (λ bs. check (leb (width (told bs) * height (told bs)) n) short_pixels (map_res (listed_unit bs) (rows_at u (told bs))))
