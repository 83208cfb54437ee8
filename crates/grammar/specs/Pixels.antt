-- What listed rows give: their pixels, the number of their codes and that of the clipped ones.
-- Assumes nothing: these are definitions.
use Rattle.std.specs.Prelude.{ℕ, ◌+◌, ◌-◌, cond, List, [], ◌∷◌, ◌++◌, length, replicate}
use Rattle.grammar.specs.Rows.{Code, colour, paints, overshoots}

-- the pixels of a row of which `left` are to go: each code's run in its colour, and 0 where no code is listed (FORMAT 5.3, 5.8)
unfoldable pub row_pixels : ℕ → List Code → List ℕ
row_pixels left [] = replicate left 0
row_pixels left (c ∷ cs) = replicate (paints left c) (colour c) ++ row_pixels (left - paints left c) cs

-- the number of codes (FORMAT 5.9)
unfoldable pub codes_in : List (List Code) → ℕ
codes_in [] = 0
codes_in (r ∷ rs) = length r + codes_in rs

-- the number of clipped codes of a row of which `left` pixels are to go, and of rows of width w (FORMAT 5.11)
unfoldable pub clipped_row : ℕ → List Code → ℕ
clipped_row left [] = 0
clipped_row left (c ∷ cs) = cond (overshoots left c) 1 0 + clipped_row (left - paints left c) cs

unfoldable pub clipped_in : ℕ → List (List Code) → ℕ
clipped_in w [] = 0
clipped_in w (r ∷ rs) = clipped_row w r + clipped_in w rs

-- the pixels of rows, one row after the other (FORMAT 5.8)
unfoldable pub index_map : ℕ → List (List Code) → List ℕ
index_map w [] = []
index_map w (r ∷ rs) = row_pixels w r ++ index_map w rs
