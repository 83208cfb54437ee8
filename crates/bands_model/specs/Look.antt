-- What stored words give at a place of the display (FORMAT 4.6), for any words: they are taken three at a time, and one or two at the end say nothing.
-- Assumes nothing: these are definitions.
use Rattle.std.specs.Prelude.{ℕ, zero, suc, ◌+◌, ◌-◌, ◌*◌, ◌/◌, ◌≤◌, ◌≡◌, min, get_or, drop, Bool, false, cond, ◌&&◌, ◌||◌, List, [], ◌∷◌, leb, length}
use Rattle.std.specs.Prelude.{Option, Some as some, None as none}
use Rattle.grammar.specs.Bands.{Band}
use Rattle.grammar.specs.Look.{Look}
use Rattle.bands_model.specs.declared.Four.{Four}

abbrev pub look : ℕ → ℕ → Look
look s a = record { selectors = s; alphas = a }

-- what an answer means
abbrev pub told : Option Four → Option Look
told none = none
told (some f) = some (look f.selectors f.alphas)

-- an entry of column c, or what was found before it
abbrev pub pick_entry : ℕ → ℕ → ℕ → ℕ → Option Look → Option Look
pick_entry x c s a o = cond (leb c x) (some (look s a)) o

-- with `left` entries of a band to go that spans the line or not
unfoldable pub looking : ℕ → ℕ → ℕ → Bool → Option Look → List ℕ → Option Look
looking x y left s o [] = o
looking x y left s o (a ∷ []) = o
looking x y left s o (a ∷ b ∷ []) = o
looking x y zero s o (a ∷ b ∷ c ∷ ws) = looking x y c (leb a y && leb y b) o ws
looking x y (suc n) s o (a ∷ b ∷ c ∷ ws) = looking x y n s (cond s (pick_entry x a b c o) o) ws

unfoldable pub look_words : ℕ → ℕ → List ℕ → Option Look
look_words x y ws = looking x y 0 false none ws

-- whether one of the bands spans line y, with `left` entries of the band before them to go
unfoldable pub spanning : ℕ → ℕ → List ℕ → Bool
spanning y left [] = false
spanning y left (a ∷ []) = false
spanning y left (a ∷ b ∷ []) = false
spanning y zero (a ∷ b ∷ c ∷ ws) = (leb a y && leb y b) || spanning y c ws
spanning y (suc n) (a ∷ b ∷ c ∷ ws) = spanning y n ws

unfoldable pub spans_line : ℕ → List ℕ → Bool
spans_line y ws = spanning y 0 ws

-- n entries at the front of ws
unfoldable pub entries_look : ℕ → Option Look → ℕ → List ℕ → Option Look
entries_look x o zero ws = o
entries_look x o (suc n) [] = o
entries_look x o (suc n) (a ∷ []) = o
entries_look x o (suc n) (a ∷ b ∷ []) = o
entries_look x o (suc n) (a ∷ b ∷ c ∷ ws) = entries_look x (pick_entry x a b c o) n ws

-- a band of lines a to b with n entries at the front of ws
abbrev pub band_look : ℕ → ℕ → ℕ → ℕ → ℕ → Option Look → List ℕ → Option Look
band_look x y a b n o ws = cond (leb a y && leb y b) (entries_look x o n ws) o

-- each band has as many entries as it counts, as the bands of a payload have, and of several payloads
unfoldable pub Counted : List Band → Type 0
Counted [] = Unit {0}
Counted (b ∷ bs) = (length b.entries ≡ b.count) × Counted bs

-- the band in front of words: its first and last line, how many entries there are, the words from these on, and those after them
pub record IsFront (ws : List ℕ) (a b n : ℕ) (es rest : List ℕ) : Type 0 where
  pub long : 3 ≤ length ws
  pub first : a ≡ get_or ws 0 0
  pub last : b ≡ get_or ws 1 0
  pub count : n ≡ min (get_or ws 2 0) ((length ws - 3) / 3)
  pub entries : es ≡ drop 3 ws
  pub after : rest ≡ drop (3 + 3 * n) ws
