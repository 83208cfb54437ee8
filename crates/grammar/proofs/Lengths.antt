-- How many pixels and bytes listed parts give: a row as many as its width, a map width times height, a canvas four times that (FORMAT 5.8, 6.1).
-- Assumes nothing.
use Prim.Native.Nat.{ℕ, suc, ◌+◌, ◌-◌, ◌*◌, ◌/◌, ◌≤◌, min}
use native.Mathlib.Omega.{arith}
use mathlib.Core.Path.{◌≡◌, refl, ap, ◌∙◌}
use mathlib.Core.Bool.{Bool, true, false, cond, ◌&&◌}
use mathlib.Core.List.{List, [], ◌∷◌, ◌++◌, map}
use lib.Dec.{eqb, ltb}
use lib.ListN.{length, replicate, get_or, length-append, length-replicate}
use Rattle.grammar.specs.Rows.{Code, colour, paints}
use Rattle.grammar.specs.Pixels.{row_pixels, index_map}
use Rattle.grammar.specs.Look.{Look}
use Rattle.grammar.specs.Record.{width, height}
use Rattle.grammar.specs.Canvas.{nibble_of, coloured, pixel, line_bytes, canvas_bytes}
use Rattle.grammar.specs.Reading.{Wanted, Reading, IsReading, told_by, map_of, unit_canvas, canvas_of}

pub paints-le : (left : ℕ) (c : Code) → paints left c ≤ left
unfolding paints
paints-le left c = go (eqb c.size 4 && ltb c.value 256)
  where
    go : (t : Bool) → cond t left (min left (c.value / 4)) ≤ left
    go true = omega arith
    go false = omega arith

-- a row has as many pixels as are to go
pub row-length : (left : ℕ) (cs : List Code) → length (row_pixels left cs) ≡ left
unfolding row_pixels
row-length left [] = length-replicate left 0
row-length left (c ∷ cs) =
    omega (arith, length-append (replicate (paints left c) (colour c)) (row_pixels (left - paints left c) cs), length-replicate (paints left c) (colour c), row-length (left - paints left c) cs, paints-le left c)

more : {A : Type 0} (a b : List A) (m n : ℕ) → length a ≡ m → length b ≡ n * m → length (a ++ b) ≡ suc n * m
more a b m n e f = length-append a b ∙ omega (arith, e, f)

pub map-length : (w : ℕ) (rs : List (List Code)) → length (index_map w rs) ≡ length rs * w
unfolding index_map
map-length w [] = omega arith
map-length w (r ∷ rs) = more (row_pixels w r) (index_map w rs) w (length rs) (row-length w r) (map-length w rs)

pub pixel-length : (palette : List ℕ) (l : Look) (c : ℕ) → length (pixel palette l c) ≡ 4
unfolding pixel coloured
pixel-length palette l c = go (eqb (nibble_of l.alphas c) 0)
  where
    k : ℕ
    k = nibble_of l.selectors c

    go : (t : Bool) → length (cond t (0 ∷ 0 ∷ 0 ∷ 0 ∷ []) (get_or palette (3 * k) 0 ∷ get_or palette (3 * k + 1) 0 ∷ get_or palette (3 * k + 2) 0 ∷ nibble_of l.alphas c * 17 ∷ [])) ≡ 4
    go true = refl
    go false = refl

module _ (palette : List ℕ) (look : ℕ → ℕ → Look) where
  pub line-length : (x y : ℕ) (cs : List ℕ) → length (line_bytes palette look x y cs) ≡ 4 * length cs
  unfolding line_bytes
  line-length x y [] = refl
  line-length x y (c ∷ cs) =
      omega (arith, length-append (pixel palette (look x y) c) (line_bytes palette look (x + 1) y cs), pixel-length palette (look x y) c, line-length (x + 1) y cs)

  pub canvas-length : (x y w : ℕ) (rs : List (List Code)) → length (canvas_bytes palette look x y (map (row_pixels w) rs)) ≡ length rs * (4 * w)
  unfolding canvas_bytes
  canvas-length x y w [] = omega arith
  canvas-length x y w (r ∷ rs) =
      more (line_bytes palette look x y (row_pixels w r)) (canvas_bytes palette look x (y + 1) (map (row_pixels w) rs)) (4 * w) (length rs)
      (line-length x y (row_pixels w r) ∙ ap (λ (n : ℕ). 4 * n) (row-length w r)) (canvas-length x (y + 1) w rs)

-- of a reading
module _ (text file : List ℕ) (q : Wanted) (r : Reading) (h : IsReading text file q r) where
  pub reading-map : length (map_of r) ≡ width (told_by r) * height (told_by r)
  unfolding map_of
  reading-map = let n = h.unit_is.picture.all in map-length (width (told_by r)) r.unit.rows ∙ ap (λ (k : ℕ). k * width (told_by r)) n ∙ omega arith

  pub reading-canvas : length (canvas_of r) ≡ 4 * (width (told_by r) * height (told_by r))
  unfolding canvas_of unit_canvas
  reading-canvas = let n = h.unit_is.picture.all in canvas-length _ _ _ _ (width (told_by r)) r.unit.rows ∙ ap (λ (k : ℕ). k * (4 * width (told_by r))) n ∙ omega arith
