-- The rows of a unit's picture, from its two fields: conditions on a finished list of rows (FORMAT 3.7, 3.8).
-- They find no row. Assumes nothing: these are definitions.
use Rattle.std.specs.Prelude.{ℕ, ◌*◌, ◌≤◌, ◌<◌, min, ◌≡◌, cond, ◌⊎◌, List, [], ◌∷◌, length, drop, ltb}
use Rattle.grammar.specs.Bands.{most_bands}
use Rattle.grammar.specs.Rows.{Code, FieldRows}
use Rattle.grammar.specs.Control.{Block, control_word, IsChain}
use Rattle.grammar.specs.Record.{Offsets, Told, told, width, height}

-- rows 0, 2, ..
unfoldable pub evens : {A : Type 0} → List A → List A
evens [] = []
evens (r ∷ []) = r ∷ []
evens (r ∷ q ∷ rs) = r ∷ evens rs

-- rows 1, 3, ..
abbrev pub odds : {A : Type 0} → List A → List A
odds rs = evens (drop 1 rs)

-- the byte before which the top field ends, in a unit whose control blocks start at C: where the bottom field starts, if that is later
-- than the top field, and otherwise C; never past C (FORMAT 3.8)
unfoldable pub top_end : ℕ → Offsets → ℕ
top_end C f = min C (cond (ltb f.top f.bottom) f.bottom C)

-- rows that stay 0: none of them has a code
unfoldable pub Stay0 : List (List Code) → Type 0
Stay0 [] = Unit {0}
Stay0 (r ∷ rs) = (r ≡ []) × Stay0 rs

-- the rows of the bottom field, which ends at C; where its offset is 0, or C or past it, they stay 0 (FORMAT 3.8)
abbrev pub Bottom : List ℕ → ℕ → ℕ → ℕ → List (List Code) → Type 0
Bottom u C offset w rs =
    ((0 < offset) × (offset < C) × FieldRows u C w (2 * offset) rs) ⊎ (((offset ≡ 0) ⊎ (C ≤ offset)) × Stay0 rs)

-- rs are the rows of a unit u whose commands told t
pub record IsPicture (u : List ℕ) (t : Told) (rs : List (List Code)) : Type 0 where
  pub wide : t.at.x1 ≤ t.at.x2
  pub high : t.at.y1 ≤ t.at.y2
  pub all : length rs ≡ height t
  pub top : FieldRows u (top_end (control_word u) t.fields) (width t) (2 * t.fields.top) (evens rs)
  pub bottom : Bottom u (control_word u) t.fields.bottom (width t) (odds rs)

-- what a reading lists of a unit: its blocks, and the rows of its picture
pub record ListedUnit : Type 0 where
  pub blocks : List Block
  pub rows : List (List Code)

-- the bands of all its colour changes are not too many (FORMAT 3.7)
pub record IsUnit (u : List ℕ) (l : ListedUnit) : Type 0 where
  pub chain : IsChain u l.blocks
  pub few : length (told l.blocks).bands ≤ most_bands
  pub picture : IsPicture u (told l.blocks) l.rows
