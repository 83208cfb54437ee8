-- The canvas painted from the index map and the stored words is the one of the listed rows and bands. Assumes nothing.
use Prim.Native.Nat.{ℕ, ◌+◌, ◌*◌, ◌≤◌}
use native.Mathlib.Omega.{arith}
use mathlib.Core.Path.{◌≡◌, refl, sym, ap, ◌∙◌}
use mathlib.Core.List.{List, [], ◌∷◌, ◌++◌, map, append_assoc}
use lib.ListN.{length, take, drop}
use lib.Seq.{sets, sets-eq, take_at, drop_at}
use Rattle.grammar.specs.Rows.{Code}
use Rattle.grammar.specs.Bands.{band_words}
use Rattle.grammar.specs.Look.{Look}
use Rattle.grammar.specs.Record.{Told}
use Rattle.grammar.specs.Pixels.{row_pixels, index_map}
use Rattle.grammar.specs.Canvas.{or_own, own_look, told_look, line_bytes, canvas_bytes}
use Rattle.bands_model.specs.Look.{Counted}
use Rattle.bands_model.proofs.Look.{look-listed}
use Rattle.grammar.proofs.Lengths.{row-length, map-length}
use Rattle.vobsub_model.specs.Paint.{word_look, map_canvas}

-- ---- Stored words give what the bands give

pub told_look_lem : (t : Told) → Counted t.bands → word_look (band_words t.bands) (own_look t) ≡ told_look t
told_look_lem t h = λ i x y. or_own (own_look t) (look-listed x y t.bands h i)

-- ---- The lines of a map are its rows

pub map_canvas_lem : (palette : List ℕ) (look : ℕ → ℕ → Look) (x y w : ℕ) (rs : List (List Code)) (rest : List ℕ)
    → map_canvas palette look x y w (length rs) (index_map w rs ++ rest) ≡ canvas_bytes palette look x y (map (row_pixels w) rs)
unfolding map_canvas index_map canvas_bytes
map_canvas_lem palette look x y w [] rest = refl
map_canvas_lem palette look x y w (r ∷ rs) rest =
    let n = row-length w r in
    let l : (row_pixels w r ++ index_map w rs) ++ rest ≡ row_pixels w r ++ (index_map w rs ++ rest) = append_assoc (row_pixels w r) (index_map w rs) rest in
    ap (λ (m : List ℕ). line_bytes palette look x y (take w m) ++ map_canvas palette look x (y + 1) w (length rs) (drop w m)) l
    ∙ ap (λ (m : List ℕ). line_bytes palette look x y m ++ map_canvas palette look x (y + 1) w (length rs) (drop w (row_pixels w r ++ (index_map w rs ++ rest)))) (take_at (row_pixels w r) (index_map w rs ++ rest) w n)
    ∙ ap (λ (m : List ℕ). line_bytes palette look x y (row_pixels w r) ++ map_canvas palette look x (y + 1) w (length rs) m) (drop_at (row_pixels w r) (index_map w rs ++ rest) w n)
    ∙ ap (λ (m : List ℕ). line_bytes palette look x y (row_pixels w r) ++ m) (map_canvas_lem palette look x (y + 1) w rs rest)

-- a map in the front of a buffer, painted
pub stored-canvas : (palette : List ℕ) (look : ℕ → ℕ → Look) (x y w h : ℕ) (rs : List (List Code)) (px : List ℕ) → length rs ≡ h → w * h ≤ length px
    → map_canvas palette look x y w h (sets px 0 (index_map w rs)) ≡ canvas_bytes palette look x y (map (row_pixels w) rs)
stored-canvas palette look x y w h rs px q k =
    let n = map-length w rs in
    let l : 0 + length (index_map w rs) ≤ length px = rw n (rw q (omega (arith, k))) in
    ap (map_canvas palette look x y w h) (sets-eq (index_map w rs) px 0 l)
    ∙ ap (λ (m : ℕ). map_canvas palette look x y w m (index_map w rs ++ drop (0 + length (index_map w rs)) px)) (sym q)
    ∙ map_canvas_lem palette look x y w rs (drop (0 + length (index_map w rs)) px)
