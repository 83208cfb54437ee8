-- What a canvas shows, from the listed parts alone (FORMAT 6). Assumes nothing: these are definitions.
use Rattle.std.specs.Prelude.{ℕ, ◌+◌, ◌-◌, ◌*◌, ◌/◌, ◌%◌, ◌^◌, cond, List, [], ◌∷◌, ◌++◌, get_or, eqb}
use Rattle.std.specs.Prelude.{Option, Some as some, None as none}
use Rattle.grammar.specs.Look.{Look, look_at}
use Rattle.grammar.specs.Record.{Told}

-- the nibble of a word of four that is for colour c: colour 0 has the top one (FORMAT 6.2)
abbrev pub nibble_of : ℕ → ℕ → ℕ
nibble_of four c = four / 16 ^ (3 - c) % 16

-- red, green, blue and opacity: all 0 where alpha is 0, otherwise entry k of the palette and 17 times alpha (FORMAT 6.3)
unfoldable pub coloured : List ℕ → ℕ → ℕ → List ℕ
coloured palette k alpha =
    cond (eqb alpha 0) (0 ∷ 0 ∷ 0 ∷ 0 ∷ [])
    (get_or palette (3 * k) 0 ∷ get_or palette (3 * k + 1) 0 ∷ get_or palette (3 * k + 2) 0 ∷ alpha * 17 ∷ [])

-- a pixel of colour c
unfoldable pub pixel : List ℕ → Look → ℕ → List ℕ
pixel palette l c = coloured palette (nibble_of l.selectors c) (nibble_of l.alphas c)

-- what bands give, or the unit's own selectors and alphas (FORMAT 6.2)
abbrev pub or_own : Look → Option Look → Look
or_own own none = own
or_own own (some l) = l

abbrev pub own_look : Told → Look
own_look t = record { selectors = t.selected; alphas = t.alpha }

-- at column x of line y of the display
abbrev pub told_look : Told → ℕ → ℕ → Look
told_look t x y = or_own (own_look t) (look_at x y t.bands)

-- the pixels of line y from column x on, and lines from line y on (FORMAT 6.1)
unfoldable pub line_bytes : List ℕ → (ℕ → ℕ → Look) → ℕ → ℕ → List ℕ → List ℕ
line_bytes palette look x y [] = []
line_bytes palette look x y (c ∷ cs) = pixel palette (look x y) c ++ line_bytes palette look (x + 1) y cs

unfoldable pub canvas_bytes : List ℕ → (ℕ → ℕ → Look) → ℕ → ℕ → List (List ℕ) → List ℕ
canvas_bytes palette look x y [] = []
canvas_bytes palette look x y (l ∷ ls) = line_bytes palette look x y l ++ canvas_bytes palette look x (y + 1) ls
