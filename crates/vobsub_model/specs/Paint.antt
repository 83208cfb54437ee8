-- Painting from an index map and stored bands, line by line (FORMAT 6.1 to 6.3). Assumes nothing: these are definitions.
use Rattle.std.specs.Prelude.{ℕ, zero, suc, ◌+◌, ◌*◌, min, ◌≡◌, List, [], ◌∷◌, ◌++◌, get_or, take, drop}
use Rattle.grammar.specs.Look.{Look}
use Rattle.grammar.specs.Canvas.{pixel, or_own, line_bytes}
use Rattle.bands_model.specs.Look.{look_words}
use Rattle.bands_model.specs.declared.Four.{Four}

abbrev pub look_is : ℕ → ℕ → Look
look_is s a = record { selectors = s; alphas = a }

-- what stored bands give at column x of line y, or the unit's own
abbrev pub word_look : List ℕ → Look → ℕ → ℕ → Look
word_look ws own x y = or_own own (look_words x y ws)

abbrev pub SameLook : Four → Look → Type 0
SameLook f l = (f.selectors ≡ l.selectors) × (f.alphas ≡ l.alphas)

-- the pixels of the four colours, one after the other
unfoldable pub four_colours : List ℕ → Look → List ℕ
four_colours palette l = pixel palette l 0 ++ pixel palette l 1 ++ pixel palette l 2 ++ pixel palette l 3

-- a line from those
unfoldable pub table_line : List ℕ → List ℕ → List ℕ
table_line t [] = []
table_line t (c ∷ cs) =
    get_or t (4 * min c 3) 0 ∷ get_or t (4 * min c 3 + 1) 0 ∷ get_or t (4 * min c 3 + 2) 0 ∷ get_or t (4 * min c 3 + 3) 0 ∷ table_line t cs

-- h lines of width w, from line y on, whose pixels are in a map
unfoldable pub map_canvas : List ℕ → (ℕ → ℕ → Look) → ℕ → ℕ → ℕ → ℕ → List ℕ → List ℕ
map_canvas palette look x y w zero m = []
map_canvas palette look x y w (suc h) m = line_bytes palette look x y (take w m) ++ map_canvas palette look x (y + 1) w h (drop w m)
