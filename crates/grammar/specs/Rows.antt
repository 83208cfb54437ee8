-- Run codes, and the rows of a field that they make: conditions on finished lists of codes (FORMAT 5).
-- They find no code: whether a list passes is all that they say. Assumes nothing: these are definitions.
use Rattle.std.specs.Prelude.{ℕ, ◌+◌, ◌-◌, ◌*◌, ◌/◌, ◌%◌, ◌^◌, ◌≤◌, ◌<◌, min, ◌≡◌, Bool, not, cond, ◌&&◌, List, [], ◌∷◌, eqb, ltb}
use Rattle.grammar.specs.Bytes.{nibbles}

-- a code: the half byte where it starts, how many nibbles it has, and the number that they make
pub record Code : Type 0 where
  pub place : ℕ
  pub size : ℕ
  pub value : ℕ

abbrev pub code : ℕ → ℕ → ℕ → Code
code p k v = record { place = p; size = k; value = v }

-- c stands in u, before byte e (FORMAT 5.2): 1 nibble makes 4-15, 2 make 16-63, 3 make 64-255, 4 make 0-1,023
pub record IsCode (u : List ℕ) (e : ℕ) (c : Code) : Type 0 where
  pub one : 1 ≤ c.size
  pub four : c.size ≤ 4
  pub inside : c.place + c.size ≤ 2 * e
  pub number : c.value ≡ nibbles u c.place c.size
  pub most : c.value < 4 * 4 ^ c.size
  pub least : c.size < 4 → 4 ^ c.size ≤ c.value

-- FORMAT 5.3: the run that a code names, and its colour
abbrev pub run : Code → ℕ
run c = c.value / 4

abbrev pub colour : Code → ℕ
colour c = c.value % 4

-- FORMAT 5.4: four nibbles below 256 fill what is left of the row
abbrev pub fills : Code → Bool
fills c = eqb c.size 4 && ltb c.value 256

-- how many of the `left` pixels of its row a code paints (FORMAT 5.3, 5.4): no run goes past the row's end
unfoldable pub paints : ℕ → Code → ℕ
paints left c = cond (fills c) left (min left (run c))

-- FORMAT 5.11: the run that a code names is longer than the `left` pixels of its row; a fill names none
unfoldable pub overshoots : ℕ → Code → Bool
overshoots left c = not (fills c) && ltb left (run c)

-- the codes from half byte p on, with `left` pixels to go: each follows the one before, and they reach the width first at the last (FORMAT 5.5)
unfoldable pub RowCodes : List ℕ → ℕ → ℕ → ℕ → List Code → Type 0
RowCodes u e left p [] = left ≡ 0
RowCodes u e left p (c ∷ cs) =
    (0 < left) × (c.place ≡ p) × IsCode u e c × RowCodes u e (left - paints left c) (p + c.size) cs

-- the half byte after codes that start at p
unfoldable pub after_codes : ℕ → List Code → ℕ
after_codes p [] = p
after_codes p (c ∷ cs) = after_codes (p + c.size) cs

-- the first half byte from p on that starts a byte (FORMAT 5.6)
unfoldable pub align : ℕ → ℕ
align p = p + p % 2

-- rows of width w from half byte p on, each next one on a byte (FORMAT 5.6, 5.7); how many there are is the picture's height to say
unfoldable pub FieldRows : List ℕ → ℕ → ℕ → ℕ → List (List Code) → Type 0
FieldRows u e w p [] = Unit {0}
FieldRows u e w p (r ∷ rs) = RowCodes u e w p r × FieldRows u e w (align (after_codes p r)) rs
