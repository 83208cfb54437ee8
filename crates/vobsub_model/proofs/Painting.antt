-- Painting pixel by pixel, from four colours, and line by line. Assumes nothing.
use Prim.Native.Nat.{ℕ, zero, suc, ◌+◌, ◌-◌, ◌*◌, ◌%◌, ◌≤◌, ◌<◌, min}
use native.Mathlib.Nat.{mul-le-mul_right}
use native.Mathlib.Omega.{arith}
use mathlib.Core.Path.{◌≡◌, refl, sym, ap, ◌∙◌, subst}
use mathlib.Core.Bool.{Bool, true, false, cond}
use Rattle.std.specs.Prelude.{Option, Some as some, None as none}
use mathlib.Core.List.{List, [], ◌∷◌, ◌++◌}
use lib.ListN.{length, get_or, take, drop, length-drop}
use lib.Dec.{eqb}
use lib.Seq.{sets, slice, drop-cons, drop-drop, length-sets, length-take-le}
use borrow.Author.Tests.{ne_eqb}
use Rattle.grammar.proofs.Lengths.{line-length}
use Rattle.outcome.proofs.Laws.{sets-append, part_slice}
use Rattle.grammar.specs.Look.{Look}
use Rattle.grammar.specs.Canvas.{nibble_of, coloured, pixel, or_own, line_bytes}
use Rattle.bands_model.specs.Look.{told, look_words, spans_line}
use Rattle.bands_model.specs.declared.Four.{Four}
use Rattle.bands_model.proofs.Look.{look-unspanned}
use Rattle.vobsub_model.specs.Paint.{look_is, word_look, SameLook, four_colours, table_line, map_canvas}

-- ---- A pixel

pub nibble-last : (w c : ℕ) → 3 ≤ c → w % 16 ≡ nibble_of w c
nibble-last w c h = let z : 3 - c ≡ 0 = omega arith in rw z (omega arith)

module _ (palette : List ℕ) (s a c alpha : ℕ) (q : alpha ≡ nibble_of a c) where
  pub pixel-clear : alpha ≡ 0 → 0 ∷ 0 ∷ 0 ∷ 0 ∷ [] ≡ pixel palette (look_is s a) c
  unfolding pixel coloured
  pixel-clear z = let e : nibble_of a c ≡ 0 = sym q ∙ z in rw e

  pub pixel-seen : (alpha ≡ 0 → ⊥) → (k : ℕ) → k ≡ nibble_of s c → get_or palette (3 * k) 0 ∷ get_or palette (3 * k + 1) 0 ∷ get_or palette (3 * k + 2) 0 ∷ alpha * 17 ∷ [] ≡ pixel palette (look_is s a) c
  unfolding pixel coloured
  pixel-seen z k e = rw (e, ← q, ne_eqb alpha 0 z)

-- it is four bytes
pub record Quad (l : List ℕ) : Type 0 where
  pub a : ℕ
  pub b : ℕ
  pub d : ℕ
  pub e : ℕ
  pub is : l ≡ a ∷ b ∷ d ∷ e ∷ []

pub quad : (palette : List ℕ) (l : Look) (c : ℕ) → Quad (pixel palette l c)
unfolding pixel coloured
quad palette l c = go (eqb (nibble_of l.alphas c) 0)
  where
    k : ℕ
    k = nibble_of l.selectors c

    go : (t : Bool) → Quad (cond t (0 ∷ 0 ∷ 0 ∷ 0 ∷ []) (get_or palette (3 * k) 0 ∷ get_or palette (3 * k + 1) 0 ∷ get_or palette (3 * k + 2) 0 ∷ nibble_of l.alphas c * 17 ∷ []))
    go true = record { a = 0; b = 0; d = 0; e = 0; is = refl }
    go false = record { a = get_or palette (3 * k) 0; b = get_or palette (3 * k + 1) 0; d = get_or palette (3 * k + 2) 0; e = nibble_of l.alphas c * 17; is = refl }

-- ---- Four colours

pub four_are : (palette : List ℕ) (l : Look) (p q r s : List ℕ) → p ≡ pixel palette l 0 → q ≡ pixel palette l 1 → r ≡ pixel palette l 2 → s ≡ pixel palette l 3
    → get_or p 0 0 ∷ get_or p 1 0 ∷ get_or p 2 0 ∷ get_or p 3 0 ∷ get_or q 0 0 ∷ get_or q 1 0 ∷ get_or q 2 0 ∷ get_or q 3 0 ∷ get_or r 0 0 ∷ get_or r 1 0 ∷ get_or r 2 0 ∷ get_or r 3 0 ∷ get_or s 0 0 ∷ get_or s 1 0 ∷ get_or s 2 0 ∷ get_or s 3 0 ∷ []
    ≡ four_colours palette l
unfolding four_colours
four_are palette l p q r s e f g h =
    let p' = quad palette l 0 in
    let q' = quad palette l 1 in
    let r' = quad palette l 2 in
    let s' = quad palette l 3 in
    rw (e, f, g, h, p'.is, q'.is, r'.is, s'.is)

-- the four bytes from place k on
abbrev pub from_table : List ℕ → ℕ → List ℕ
from_table t k = get_or t k 0 ∷ get_or t (k + 1) 0 ∷ get_or t (k + 2) 0 ∷ get_or t (k + 3) 0 ∷ []

-- a colour above 3 is taken for 3
pixel-last : (palette : List ℕ) (l : Look) (n : ℕ) → pixel palette l 3 ≡ pixel palette l (suc (suc (suc n)))
unfolding pixel
pixel-last palette l n = let z : 3 - suc (suc (suc n)) ≡ 0 = omega arith in rw z

-- four bytes of sixteen
table_at : (k : ℕ) (p q r s : List ℕ) → Quad p → Quad q → Quad r → Quad s → k < 4
    → from_table (p ++ q ++ r ++ s) (4 * k) ≡ cond (eqb k 0) p (cond (eqb k 1) q (cond (eqb k 2) r s))
table_at zero p q r s a b d e h = rw a.is
table_at (suc zero) p q r s a b d e h = rw (a.is, b.is)
table_at (suc (suc zero)) p q r s a b d e h = rw (a.is, b.is, d.is)
table_at (suc (suc (suc zero))) p q r s a b d e h = rw (a.is, b.is, d.is, e.is)
table_at (suc (suc (suc (suc k)))) p q r s a b d e h = absurd (omega arith)

table-pixel : (palette : List ℕ) (l : Look) (c : ℕ) → from_table (four_colours palette l) (4 * min c 3) ≡ pixel palette l c
unfolding four_colours
table-pixel palette l c = go c
  where
    at : (k : ℕ) → k < 4 → from_table (pixel palette l 0 ++ pixel palette l 1 ++ pixel palette l 2 ++ pixel palette l 3) (4 * k)
        ≡ cond (eqb k 0) (pixel palette l 0) (cond (eqb k 1) (pixel palette l 1) (cond (eqb k 2) (pixel palette l 2) (pixel palette l 3)))
    at k h = table_at k (pixel palette l 0) (pixel palette l 1) (pixel palette l 2) (pixel palette l 3) (quad palette l 0) (quad palette l 1) (quad palette l 2) (quad palette l 3) h

    go : (n : ℕ) → from_table (pixel palette l 0 ++ pixel palette l 1 ++ pixel palette l 2 ++ pixel palette l 3) (4 * min n 3) ≡ pixel palette l n
    go zero = at 0 (omega arith)
    go (suc zero) = at 1 (omega arith)
    go (suc (suc zero)) = at 2 (omega arith)
    go (suc (suc (suc n))) =
        let z : min (suc (suc (suc n))) 3 ≡ 3 = omega arith in
        rw z (at 3 (omega arith) ∙ pixel-last palette l n)

pub table_line_lem : (palette : List ℕ) (l : Look) (look : ℕ → ℕ → Look) (x y : ℕ) (cs : List ℕ) → ((z : ℕ) → look z y ≡ l) → table_line (four_colours palette l) cs ≡ line_bytes palette look x y cs
unfolding table_line line_bytes
table_line_lem palette l look x y [] h = refl
table_line_lem palette l look x y (c ∷ cs) h =
    rw (h x)
    (ap (λ (p : List ℕ). p ++ table_line (four_colours palette l) cs) (table-pixel palette l c)
    ∙ ap (λ (r : List ℕ). pixel palette l c ++ r) (table_line_lem palette l look (x + 1) y cs h))

-- on a line that no band spans the unit's own selectors and alphas count
pub line-own : (ws : List ℕ) (own : Look) (y : ℕ) → spans_line y ws ≡ false → (z : ℕ) → word_look ws own z y ≡ own
line-own ws own y h z = rw (look-unspanned z y ws h)

-- what an answer of the lookup says
module _ (ws : List ℕ) (own : Look) (x y : ℕ) (r : Option Four) (q : told r ≡ look_words x y ws) where
  pub look-found : (f : Four) → r ≡ some f → SameLook f (word_look ws own x y)
  look-found f e =
      let g : look_words x y ws ≡ some (look_is f.selectors f.alphas) = sym q ∙ ap told e in
      (ap (λ (o : Option Look). (or_own own o).selectors) (sym g), ap (λ (o : Option Look). (or_own own o).alphas) (sym g))

  pub look_none : r ≡ none → (own.selectors ≡ (word_look ws own x y).selectors) × (own.alphas ≡ (word_look ws own x y).alphas)
  look_none e =
      let f : look_words x y ws ≡ none = sym q ∙ ap told e in
      (ap (λ (o : Option Look). (or_own own o).selectors) (sym f), ap (λ (o : Option Look). (or_own own o).alphas) (sym f))

-- ---- A line, four bytes at a time

sets-four : (s : List ℕ) (i a b d e : ℕ) (l : List ℕ) → sets s i (a ∷ b ∷ d ∷ e ∷ l) ≡ sets (sets s i (a ∷ b ∷ d ∷ e ∷ [])) (i + 4) l
sets-four s i a b d e l = sets-append s i (a ∷ b ∷ d ∷ e ∷ []) l

module _ (line : ℕ → List ℕ → List ℕ) (row s₀ : List ℕ) (at : ℕ) where
  -- with i pixels painted: what is left gives the whole
  pub record Painting (i : ℕ) (s : List ℕ) : Type 0 where
    pub inside : i ≤ length row
    pub long : length s ≡ length s₀
    pub goes : sets s (at + 4 * i) (line i (drop i row)) ≡ sets s₀ at (line 0 row)

  pub painting-starts : Painting 0 s₀
  painting-starts =
      let z : at + 4 * 0 ≡ at = omega arith in
      record { inside = omega arith; long = refl; goes = ap (λ (t : ℕ). sets s₀ t (line 0 row)) z }

  pub painting_goes : (i : ℕ) (s : List ℕ) → Painting i s → i < length row → (p : List ℕ) → Quad p
      → line i (get_or row i 0 ∷ drop (suc i) row) ≡ p ++ line (i + 1) (drop (suc i) row)
      → (s' : List ℕ) → s' ≡ sets s (at + 4 * i) p → Painting (i + 1) s'
  painting_goes i s h k p q e s' f =
      let z : suc i ≡ i + 1 = omega arith in
      let v : at + 4 * (i + 1) ≡ at + 4 * i + 4 = omega arith in
      let n : i < length row = k in
      record {
        inside = omega arith;
        long = ap length f ∙ length-sets s (at + 4 * i) p ∙ h.long;
        goes =
            ap (λ (t : ℕ). sets s' t (line (i + 1) (drop (i + 1) row))) v
            ∙ ap (λ (l : List ℕ). sets l (at + 4 * i + 4) (line (i + 1) (drop (i + 1) row))) (f ∙ ap (sets s (at + 4 * i)) q.is)
            ∙ sym (sets-four s (at + 4 * i) q.a q.b q.d q.e (line (i + 1) (drop (i + 1) row)))
            ∙ ap (λ (l : List ℕ). sets s (at + 4 * i) (l ++ line (i + 1) (drop (i + 1) row))) (sym q.is)
            ∙ ap (λ (j : ℕ). sets s (at + 4 * i) (p ++ line (i + 1) (drop j row))) (sym z)
            ∙ ap (sets s (at + 4 * i)) (sym e)
            ∙ ap (λ (l : List ℕ). sets s (at + 4 * i) (line i l)) (sym (drop-cons row i 0 k))
            ∙ h.goes;
      }

  pub painting_ends : (i : ℕ) (s : List ℕ) → Painting i s → length row ≤ i → line i [] ≡ [] → s ≡ sets s₀ at (line 0 row)
  painting_ends i s h k e = go (drop i row) (length-drop i row) h.goes
    where
      go : (l : List ℕ) → length l ≡ length row - i → sets s (at + 4 * i) (line i l) ≡ sets s₀ at (line 0 row) → s ≡ sets s₀ at (line 0 row)
      go [] n f = ap (sets s (at + 4 * i)) (sym e) ∙ f
      go (x ∷ l) n f = absurd (omega (arith, n))

-- from four colours
abbrev pub table_from : List ℕ → ℕ → List ℕ → List ℕ
table_from t i cs = table_line t cs

pub table-turn : (t : List ℕ) (k : ℕ) → Quad (from_table t k)
table-turn t k = record { a = get_or t k 0; b = get_or t (k + 1) 0; d = get_or t (k + 2) 0; e = get_or t (k + 3) 0; is = refl }

pub table_is : (t : List ℕ) (i c : ℕ) (cs : List ℕ) (m : ℕ) → m ≡ min c 3 → table_from t i (c ∷ cs) ≡ from_table t (4 * m) ++ table_from t (i + 1) cs
unfolding table_line
table_is t i c cs m q = rw q

pub table_done : (t : List ℕ) (i : ℕ) → table_from t i [] ≡ []
unfolding table_line
table_done t i = refl

-- place by place
module _ (palette : List ℕ) (look : ℕ → ℕ → Look) (x y : ℕ) where
  abbrev pub line_from : ℕ → List ℕ → List ℕ
  line_from i cs = line_bytes palette look (x + i) y cs

  pub line-is : (i c : ℕ) (cs : List ℕ) (s a : ℕ) (p : List ℕ) → (s ≡ (look (x + i) y).selectors) × (a ≡ (look (x + i) y).alphas) → p ≡ pixel palette (look_is s a) c
      → line_from i (c ∷ cs) ≡ p ++ line_from (i + 1) cs
  unfolding line_bytes
  line-is i c cs s a p h e =
      let v : x + i + 1 ≡ x + (i + 1) = omega arith in
      let l : look_is s a ≡ look (x + i) y = λ t. record { selectors = h.0 t; alphas = h.1 t } in
      let f : p ≡ pixel palette (look (x + i) y) c = e ∙ ap (λ (k : Look). pixel palette k c) l in
      ap (λ (w : ℕ). pixel palette (look (x + i) y) c ++ line_bytes palette look w y cs) v
      ∙ ap (λ (w : List ℕ). w ++ line_from (i + 1) cs) (sym f)

  pub line-done : (i : ℕ) → line_from i [] ≡ []
  unfolding line_bytes
  line-done i = refl

  -- from the first pixel on
  pub line-whole : (cs : List ℕ) → line_from 0 cs ≡ line_bytes palette look x y cs
  line-whole cs = let z : x + 0 ≡ x = omega arith in rw z

-- the bytes of a pixel are four
pub quad_of : (palette : List ℕ) (s a c : ℕ) (p : List ℕ) → p ≡ pixel palette (look_is s a) c → Quad p
quad_of palette s a c p e = subst Quad (sym e) (quad palette (look_is s a) c)

-- ---- Lines

-- room for r lines and one more, of h
pub line-room : (w h r : ℕ) → r < h → r * w + w ≤ w * h
line-room w h r k = let m : suc r * w ≤ h * w = mul-le-mul_right w k in omega (arith, m)

module _ (palette : List ℕ) (look : ℕ → ℕ → Look) (x y w h : ℕ) (m s₀ : List ℕ) where
  -- with r lines painted: the lines left give the whole
  pub record Lines (r : ℕ) (s : List ℕ) : Type 0 where
    pub inside : r ≤ h
    pub long : length s ≡ length s₀
    pub goes : sets s (4 * (r * w)) (map_canvas palette look x (y + r) w (h - r) (drop (r * w) m)) ≡ sets s₀ 0 (map_canvas palette look x y w h m)

  pub lines_start : Lines 0 s₀
  lines_start =
      let z : y + 0 ≡ y = omega arith in
      let n : h - 0 ≡ h = omega arith in
      let o : 0 * w ≡ 0 = omega arith in
      record { inside = omega arith; long = refl; goes = rw (z, n, o) }

  pub lines-go : (r : ℕ) (s : List ℕ) → Lines r s → r < h → r * w + w ≤ length m
      → (c : List ℕ) → c ≡ slice (r * w) (r * w + w) m
      → (s' : List ℕ) → s' ≡ sets s (4 * (r * w)) (line_bytes palette look x (y + r) c) → Lines (r + 1) s'
  unfolding map_canvas
  lines-go r s k l i c o s' f =
      let n : h - r ≡ suc (h - (r + 1)) = omega arith in
      let j : r * w + w - r * w ≡ w = omega arith in
      let row : c ≡ take w (drop (r * w) m) = o ∙ sym (part_slice (r * w) (r * w + w) m) ∙ ap (λ (t : ℕ). take t (drop (r * w) m)) j in
      let line : List ℕ = line_bytes palette look x (y + r) (take w (drop (r * w) m)) in
      let left : List ℕ = map_canvas palette look x (y + (r + 1)) w (h - (r + 1)) (drop (r * w + w) m) in
      let g : s' ≡ sets s (4 * (r * w)) line = f ∙ ap (λ (t : List ℕ). sets s (4 * (r * w)) (line_bytes palette look x (y + r) t)) row in
      let q : 4 * (r * w) + length line ≡ 4 * (r * w + w) =
      ap (λ (t : ℕ). 4 * (r * w) + t) (line-length palette look x (y + r) (take w (drop (r * w) m)) ∙ ap (λ (t : ℕ). 4 * t) (length-take-le w (drop (r * w) m) (rw (length-drop (r * w) m) (omega arith)))) ∙ omega arith in
      let v : y + r + 1 ≡ y + (r + 1) = omega arith in
      let e : (r + 1) * w ≡ r * w + w = omega arith in
      record {
        inside = omega arith;
        long = ap length g ∙ length-sets s (4 * (r * w)) line ∙ k.long;
        goes =
            ap (λ (t : ℕ). sets s' (4 * t) (map_canvas palette look x (y + (r + 1)) w (h - (r + 1)) (drop t m))) e
            ∙ ap (λ (t : List ℕ). sets t (4 * (r * w + w)) left) g
            ∙ ap (λ (t : ℕ). sets (sets s (4 * (r * w)) line) t left) (sym q)
            ∙ sym (sets-append s (4 * (r * w)) line left)
            ∙ ap (λ (t : ℕ). sets s (4 * (r * w)) (line ++ map_canvas palette look x t w (h - (r + 1)) (drop (r * w + w) m))) (sym v)
            ∙ ap (λ (t : List ℕ). sets s (4 * (r * w)) (line ++ map_canvas palette look x (y + r + 1) w (h - (r + 1)) t)) (sym (drop-drop w (r * w) m))
            ∙ ap (λ (t : ℕ). sets s (4 * (r * w)) (map_canvas palette look x (y + r) w t (drop (r * w) m))) (sym n)
            ∙ k.goes;
      }

  pub lines_end : (r : ℕ) (s : List ℕ) → Lines r s → h ≤ r → s ≡ sets s₀ 0 (map_canvas palette look x y w h m)
  unfolding map_canvas
  lines_end r s k l = let n : h - r ≡ 0 = omega arith in ap (λ (t : ℕ). sets s (4 * (r * w)) (map_canvas palette look x (y + r) w t (drop (r * w) m))) (sym n) ∙ k.goes
