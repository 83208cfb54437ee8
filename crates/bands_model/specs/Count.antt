-- How many bands stored words hold, for any words: they are taken three at a time, and one or two at the end say
-- nothing (FORMAT 4.5). Assumes nothing: these are definitions.
use Rattle.std.specs.Prelude.{ℕ, zero, suc, List, [], ◌∷◌}

-- with `left` entries of a band to go
unfoldable pub counting : ℕ → List ℕ → ℕ
counting left [] = 0
counting left (a ∷ []) = 0
counting left (a ∷ b ∷ []) = 0
counting zero (a ∷ b ∷ c ∷ ws) = suc (counting c ws)
counting (suc n) (a ∷ b ∷ c ∷ ws) = counting n ws

abbrev pub bands_held : List ℕ → ℕ
bands_held ws = counting 0 ws
