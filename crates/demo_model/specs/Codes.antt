-- The codes that are written for a row of pixels, and the nibbles that they make (FORMAT 7). Assumes nothing: these are definitions.
use Rattle.std.specs.Prelude.{ℕ, zero, suc, ◌+◌, ◌-◌, ◌*◌, ◌/◌, ◌%◌, ◌^◌, ◌≤◌, ◌<◌, cond, List, [], ◌∷◌, ◌++◌, length, take, drop, eqb, ltb}
use Rattle.grammar.specs.Rows.{Code, code, paints}

-- ---- Runs

-- pixels of one colour next to each other in a row
pub record Run : Type 0 where
  pub count : ℕ
  pub colour : ℕ

abbrev pub run : ℕ → ℕ → Run
run n c = record { count = n; colour = c }

-- a pixel in front of runs
abbrev pub grow : ℕ → List Run → List Run
grow x [] = run 1 x ∷ []
grow x (r ∷ rs) = cond (eqb x r.colour) (run (suc r.count) x ∷ rs) (run 1 x ∷ r ∷ rs)

-- the runs of a row, each as long as it can be (FORMAT 7.2)
unfoldable pub runs : List ℕ → List Run
runs [] = []
runs (x ∷ xs) = grow x (runs xs)

-- how many pixels at the front of a row have colour c
unfoldable pub lead : ℕ → List ℕ → ℕ
lead c [] = 0
lead c (x ∷ xs) = let n = suc (lead c xs) in cond (eqb x c) n 0

-- ---- Codes

-- a code to be written: how many nibbles it has, and the number that they make
pub record Mark : Type 0 where
  pub size : ℕ
  pub value : ℕ

abbrev pub mark : ℕ → ℕ → Mark
mark k v = record { size = k; value = v }

-- a mark as a code at half byte p
abbrev pub placed_code : ℕ → Mark → Code
placed_code p m = code p m.size m.value

-- the conditions on a code that do not name its place
pub record Proper (m : Mark) : Type 0 where
  pub one : 1 ≤ m.size
  pub four : m.size ≤ 4
  pub most : m.value < 4 * 4 ^ m.size
  pub least : m.size < 4 → 4 ^ m.size ≤ m.value
  pub within : m.value < 16 ^ m.size

-- how many of `left` pixels a mark paints
abbrev pub painted : ℕ → Mark → ℕ
painted left m = paints left (placed_code 0 m)

-- the fewest nibbles for a run of n, 255 at most (FORMAT 7.3)
abbrev pub run_size : ℕ → ℕ
run_size n = cond (ltb n 4) 1 (cond (ltb n 16) 2 (cond (ltb n 64) 3 4))

abbrev pub run_mark : ℕ → ℕ → Mark
run_mark n c = mark (run_size n) (4 * n + c)

abbrev pub fill_mark : ℕ → Mark
fill_mark c = mark 4 c

-- q codes of 255, and one for what remains of n
unfoldable pub cut : ℕ → ℕ → ℕ → List Mark
cut zero n c = run_mark n c ∷ []
cut (suc q) n c = run_mark 255 c ∷ cut q (n - 255) c

-- a run of n that does not reach the row's end (FORMAT 7.3)
abbrev pub run_marks : ℕ → ℕ → List Mark
run_marks n c = cut ((n - 1) / 255) n c

-- a run that does is a fill (FORMAT 7.4)
abbrev pub last_marks : ℕ → ℕ → List Mark
last_marks n c = fill_mark c ∷ []

-- the codes of a row; `last` has those of its last run
module _ (last : ℕ → ℕ → List Mark) where
  unfoldable pub marks_of : List Run → List Mark
  marks_of [] = []
  marks_of (r ∷ []) = last r.count r.colour
  marks_of (r ∷ q ∷ rs) = run_marks r.count r.colour ++ marks_of (q ∷ rs)

-- ---- Nibbles

-- the k nibbles that make v, the high one first
unfoldable pub digits : ℕ → ℕ → List ℕ
digits zero v = []
digits (suc k) v = digits k (v / 16) ++ (v % 16 ∷ [])

unfoldable pub nibbles_of : List Mark → List ℕ
nibbles_of [] = []
nibbles_of (m ∷ ms) = digits m.size m.value ++ nibbles_of ms

-- up to a whole byte (FORMAT 7.5)
abbrev pub evened : List ℕ → List ℕ
evened ns = ns ++ cond (eqb (length ns % 2) 0) [] (0 ∷ [])

-- two nibbles a byte
unfoldable pub packed : List ℕ → List ℕ
packed [] = []
packed (a ∷ []) = a * 16 ∷ []
packed (a ∷ b ∷ ns) = (a * 16 + b) ∷ packed ns

-- ---- Pictures

-- h rows of width w
unfoldable pub picture_rows : ℕ → ℕ → List ℕ → List (List ℕ)
picture_rows w zero px = []
picture_rows w (suc h) px = take w px ∷ picture_rows w h (drop w px)

module _ (last : ℕ → ℕ → List Mark) where
  abbrev pub row_marks : List ℕ → List Mark
  row_marks row = marks_of last (runs row)

  abbrev pub row_nibbles : List ℕ → List ℕ
  row_nibbles row = evened (nibbles_of (row_marks row))

  unfoldable pub field_nibbles : List (List ℕ) → List ℕ
  field_nibbles [] = []
  field_nibbles (r ∷ rs) = row_nibbles r ++ field_nibbles rs

  -- how many codes rows have
  unfoldable pub marks_in : List (List ℕ) → ℕ
  marks_in [] = 0
  marks_in (r ∷ rs) = length (row_marks r) + marks_in rs
