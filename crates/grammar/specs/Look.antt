-- What listed bands give at a place of the display (FORMAT 4.6). Assumes nothing: these are definitions.
use Rattle.std.specs.Prelude.{ℕ, Bool, cond, ◌&&◌, List, [], ◌∷◌, leb}
use Rattle.std.specs.Prelude.{Option, Some as some, None as none}
use Rattle.grammar.specs.Bands.{Entry, Band}

-- the words of four selectors and of four alphas, colour 0 in the top nibble
pub record Look : Type 0 where
  pub selectors : ℕ
  pub alphas : ℕ

abbrev pub look_of : Entry → Look
look_of e = record { selectors = e.selectors; alphas = e.alphas }

-- columns rise, so the rightmost entry that starts at column x or left of it is the last such; `o` where there is none
unfoldable pub rightmost : ℕ → Option Look → List Entry → Option Look
rightmost x o [] = o
rightmost x o (e ∷ es) = rightmost x (cond (leb e.column x) (some (look_of e)) o) es

-- whether a band spans line y
abbrev pub spans : ℕ → Band → Bool
spans y b = leb b.first y && leb y b.last

-- of the bands on the line that have such an entry, the last; `o` where none has
unfoldable pub last_look : ℕ → ℕ → Option Look → List Band → Option Look
last_look x y o [] = o
last_look x y o (b ∷ bs) = last_look x y (cond (spans y b) (rightmost x o b.entries) o) bs

unfoldable pub look_at : ℕ → ℕ → List Band → Option Look
look_at x y bs = last_look x y none bs
