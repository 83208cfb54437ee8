-- Codes kept as one 16-bit number each, from measuring a field to filling its rows, so that no nibble is read twice.
-- The steps `measure_kept` and `fill_measured` speak of them, and no entry does. Assumes nothing: these are definitions.
use Rattle.std.specs.Prelude.{ℕ, zero, suc, ◌+◌, ◌-◌, ◌*◌, ◌/◌, ◌%◌, ◌≤◌, List, [], ◌∷◌, ◌++◌, replicate}
use Rattle.std.proofs.lemmas.List.Edits.{sets}
use Rattle.grammar.specs.Rows.{Code, colour, paints}

-- a row below this width has no run that a kept number could not hold
abbrev pub widest : ℕ
widest = 16384

-- n pixels of a colour
abbrev pub kept_run : ℕ → ℕ → ℕ
kept_run n colour = n % widest * 4 + colour

-- the codes of a row with `left` pixels to go: the pixels and the colour of each
unfoldable pub kept_row : ℕ → List Code → List ℕ
kept_row left [] = []
kept_row left (c ∷ cs) = kept_run (paints left c) (colour c) ∷ kept_row (left - paints left c) cs

-- the codes of all rows of width w, one row after the other
unfoldable pub kept_all : ℕ → List (List Code) → List ℕ
kept_all w [] = []
kept_all w (r ∷ rs) = kept_row w r ++ kept_all w rs

-- with l pixels left of a row of width w: those of the next row where none is; and the place t, past the row between
abbrev pub left_after : ℕ → ℕ → ℕ
left_after w zero = w
left_after w (suc l) = suc l

abbrev pub place_after : ℕ → ℕ → ℕ → ℕ
place_after w zero t = t + w
place_after w (suc l) t = t

-- the map with the kept runs vs painted from place `to` on, with `left` pixels of the row to go
unfoldable pub paint_kept : ℕ → ℕ → ℕ → List ℕ → List ℕ → List ℕ
paint_kept w left to [] px = px
paint_kept w left to (v ∷ vs) px =
    paint_kept w (left_after w (left - v / 4)) (place_after w (left - v / 4) (to + v / 4)) vs (sets px to (replicate (v / 4) (v % 4)))

-- each run ends within its row and within n places
unfoldable pub KeptFits : ℕ → ℕ → ℕ → ℕ → List ℕ → Type 0
KeptFits n w left to [] = Unit {0}
KeptFits n w left to (v ∷ vs) =
    (v / 4 ≤ left) × (to + v / 4 ≤ n) × KeptFits n w (left_after w (left - v / 4)) (place_after w (left - v / 4) (to + v / 4)) vs
