-- The marks of a row paint its pixels, none of them clipped, and no code of fewer nibbles paints a run.
-- Assumes nothing.
use Prim.Native.Nat.{ℕ, zero, suc, ◌+◌, ◌-◌, ◌*◌, ◌/◌, ◌%◌, ◌^◌, ◌≤◌, ◌<◌, min}
use native.Mathlib.Omega.{arith}
use mathlib.Core.Path.{◌≡◌, refl, sym, ap, ◌∙◌, subst}
use mathlib.Core.Bool.{Bool, true, false, not, cond, ◌&&◌}
use mathlib.Core.Logic.{◌⊎◌, inl, inr, ⊎_elim}
use mathlib.Core.List.{List, [], ◌∷◌, ◌++◌, append_assoc, append-nil}
use lib.ListN.{length, replicate, length-append, length-replicate}
use lib.Dec.{eqb, ltb}
use borrow.Author.Tests.{eq-eqb, ne_eqb, lt-ltb, le-ltb, eqb-true, eqb-false}
use Rattle.outcome.proofs.Laws.{either, le_or_lt}
use Rattle.grammar.specs.Rows.{fills, paints, overshoots}
use Rattle.demo_model.specs.Codes.{Run, grow, runs, Mark, placed_code, Proper, painted, run_size, run_mark, fill_mark, cut, run_marks, last_marks, marks_of, row_marks}
use Rattle.demo_model.specs.Unit.{Four}
use Rattle.demo_model.proofs.Read.{Draws}

-- ---- A code of a run

-- the nibbles of a run of n: few enough, and no fewer
pub record Sized (n : ℕ) : Type 0 where
  pub size : ℕ
  pub is : run_size n ≡ size
  pub one : 1 ≤ size
  pub four : size ≤ 4
  pub most : n < 4 ^ size
  pub least : size < 4 → 4 ^ size ≤ 4 * n
  pub long : size ≡ 4 → 64 ≤ n
  pub spare : 4 * 4 ^ size ≤ 16 ^ size

pub sized : (n : ℕ) → 1 ≤ n → n ≤ 255 → Sized n
sized n a b =
    ⊎_elim (λ (h : 4 ≤ n). ⊎_elim (λ (k : 16 ≤ n). ⊎_elim (λ (l : 64 ≤ n). four l) (λ (l : n < 64). three k l) (le_or_lt 64 n)) (λ (k : n < 16). two h k) (le_or_lt 16 n))
    (λ (h : n < 4). one h) (le_or_lt 4 n)
  where
    one : n < 4 → Sized n
    one h = record { size = 1; is = rw (lt-ltb n 4 h); one = omega arith; four = omega arith; most = omega arith; least = λ z. omega arith; long = λ z. omega arith; spare = omega arith }

    two : 4 ≤ n → n < 16 → Sized n
    two h k =
        record { size = 2; is = rw (le-ltb n 4 h, lt-ltb n 16 k); one = omega arith; four = omega arith; most = omega arith; least = λ z. omega arith; long = λ z. omega arith; spare = omega arith }

    three : 16 ≤ n → n < 64 → Sized n
    three h k =
        let g : 4 ≤ n = omega arith in
        record { size = 3; is = rw (le-ltb n 4 g, le-ltb n 16 h, lt-ltb n 64 k); one = omega arith; four = omega arith; most = omega arith; least = λ z. omega arith; long = λ z. omega arith; spare = omega arith }

    four : 64 ≤ n → Sized n
    four h =
        let g : 4 ≤ n = omega arith in
        let k : 16 ≤ n = omega arith in
        record { size = 4; is = rw (le-ltb n 4 g, le-ltb n 16 k, le-ltb n 64 h); one = omega arith; four = omega arith; most = omega arith; least = λ z. absurd (omega arith); long = λ z. h; spare = omega arith }

module _ (n c : ℕ) (a : 1 ≤ n) (b : n ≤ 255) (k : c < 4) where
  run-proper : Proper (run_mark n c)
  run-proper =
      let s = sized n a b in
      let m = s.most in
      let l = s.least in
      let w = s.spare in
      rw s.is (record { one = s.one; four = s.four; most = omega arith; least = λ z. omega (arith, s.least z); within = omega arith })

  run-painted : (left : ℕ) → n ≤ left → painted left (run_mark n c) ≡ n
  unfolding paints
  run-painted left h =
      let s = sized n a b in
      let v : min left ((4 * n + c) / 4) ≡ n = omega arith in
      rw s.is
      (⊎_elim
      (λ (z : s.size ≡ 4). let l = s.long z in let y : 256 ≤ 4 * n + c = omega arith in rw (eq-eqb s.size 4 z, le-ltb (4 * n + c) 256 y) v)
      (λ (z : s.size ≡ 4 → ⊥). rw (ne_eqb s.size 4 z) v) (decide s.size))
    where
      decide : (j : ℕ) → (j ≡ 4) ⊎ (j ≡ 4 → ⊥)
      decide j = ⊎_elim (λ t. inl (eqb-true j 4 t)) (λ t. inr (eqb-false j 4 t)) (either (eqb j 4))

  -- it is clipped nowhere that it fits
  run_fits : (left : ℕ) → n ≤ left → overshoots left (placed_code 0 (run_mark n c)) ≡ false
  unfolding overshoots
  run_fits left h = go (not (fills (placed_code 0 (run_mark n c))))
    where
      go : (b : Bool) → (b && ltb left ((4 * n + c) / 4)) ≡ false
      go true = le-ltb left ((4 * n + c) / 4) (omega arith)
      go false = refl

-- ---- Shortest

size-most : (k n : ℕ) → 1 ≤ k → n < 4 ^ k → 1 ≤ n → n ≤ 255 → run_size n ≤ k
size-most zero n a h b c = absurd (omega arith)
size-most (suc zero) n a h b c = let g : n < 4 = omega arith in rw (lt-ltb n 4 g) (omega arith)
size-most (suc (suc zero)) n a h b c =
    let g : n < 16 = omega arith in
    ⊎_elim (λ (l : 4 ≤ n). rw (le-ltb n 4 l, lt-ltb n 16 g) (omega arith)) (λ (l : n < 4). rw (lt-ltb n 4 l) (omega arith)) (le_or_lt 4 n)
size-most (suc (suc (suc zero))) n a h b c =
    let s = sized n b c in
    let g : n < 64 = omega arith in
    let i = s.is in
    let f = s.four in
    ⊎_elim (λ (l : 4 ≤ s.size). let z : s.size ≡ 4 = omega arith in let y = s.long z in absurd (omega arith)) (λ (l : s.size < 4). omega arith) (le_or_lt 4 s.size)
size-most (suc (suc (suc (suc k)))) n a h b c = let s = sized n b c in let i = s.is in let f = s.four in omega arith

-- no code of fewer nibbles paints just n of more pixels (FORMAT 7.3)
pub shortest : (left n : ℕ) (m : Mark) → 1 ≤ n → n ≤ 255 → n < left → Proper m → painted left m ≡ n → run_size n ≤ m.size
unfolding paints
shortest left n m a b h k e = go (fills (record { place = 0; size = m.size; value = m.value })) e
  where
    go : (t : Bool) → cond t left (min left (m.value / 4)) ≡ n → run_size n ≤ m.size
    go true q = absurd (omega arith)
    go false q =
        let v : m.value / 4 ≡ n = omega arith in
        let l = k.most in
        size-most m.size n k.one (omega arith) a b

-- ---- Runs cut at 255

replicate-add : (n m c : ℕ) → replicate (n + m) c ≡ replicate n c ++ replicate m c
replicate-add zero m c = let z : 0 + m ≡ m = omega arith in rw z
replicate-add (suc n) m c = let z : suc n + m ≡ suc (n + m) = omega arith in rw z (ap (λ (l : List ℕ). c ∷ l) (replicate-add n m c))

one-draws : (left n c : ℕ) (ms : List Mark) (px : List ℕ) → 1 ≤ n → n ≤ 255 → c < 4 → n ≤ left → Draws (left - n) ms px → Draws left (run_mark n c ∷ ms) (replicate n c ++ px)
unfolding Draws
one-draws left n c ms px a b k h d =
    let p : painted left (run_mark n c) ≡ n = run-painted n c a b k left h in
    let w : (4 * n + c) % 4 ≡ c = omega arith in
    (omega arith, run-proper n c a b k, run_fits n c a b k left h, (px, rw (p, w), rw p d))

cut-draws : (q left n c : ℕ) (ms : List Mark) (px : List ℕ) → 255 * q < n → n ≤ 255 * q + 255 → c < 4 → n ≤ left → Draws (left - n) ms px → Draws left (cut q n c ++ ms) (replicate n c ++ px)
unfolding cut
cut-draws zero left n c ms px a b k h d = one-draws left n c ms px (omega arith) (omega arith) k h d
cut-draws (suc q) left n c ms px a b k h d =
    let y : left - 255 - (n - 255) ≡ left - n = omega arith in
    let r = cut-draws q (left - 255) (n - 255) c ms px (omega arith) (omega arith) k (omega arith) (rw y d) in
    let z : 255 + (n - 255) ≡ n = omega arith in
    let x : replicate 255 c ++ (replicate (n - 255) c ++ px) ≡ replicate n c ++ px =
    sym (append_assoc (replicate 255 c) (replicate (n - 255) c) px) ∙ ap (λ (l : List ℕ). l ++ px) (sym (replicate-add 255 (n - 255) c) ∙ ap (λ (m : ℕ). replicate m c) z) in
    subst (Draws left (run_mark 255 c ∷ (cut q (n - 255) c ++ ms))) x (one-draws left 255 c (cut q (n - 255) c ++ ms) (replicate (n - 255) c ++ px) (omega arith) (omega arith) k (omega arith) r)

run-draws : (left n c : ℕ) (ms : List Mark) (px : List ℕ) → 1 ≤ n → c < 4 → n ≤ left → Draws (left - n) ms px → Draws left (run_marks n c ++ ms) (replicate n c ++ px)
run-draws left n c ms px a k h d = cut-draws ((n - 1) / 255) left n c ms px (omega arith) (omega arith) k h d

-- ---- Rows

-- the pixels of runs
unfoldable pub spread : List Run → List ℕ
spread [] = []
spread (r ∷ rs) = replicate r.count r.colour ++ spread rs

-- each run has a pixel and one of four colours
unfoldable pub Fine : List Run → Type 0
Fine [] = Unit {0}
Fine (r ∷ rs) = (1 ≤ r.count) × (r.colour < 4) × Fine rs

-- marks of a last run that paint what is left
pub record Closes (last : ℕ → ℕ → List Mark) : Type 0 where
  pub draws : (n c : ℕ) → 1 ≤ n → c < 4 → Draws n (last n c) (replicate n c)

module _ (last : ℕ → ℕ → List Mark) (closes : Closes last) where
  marks_draw : (rs : List Run) → Fine rs → Draws (length (spread rs)) (marks_of last rs) (spread rs)
  unfolding marks_of spread Fine Draws
  marks_draw [] h = (refl, refl)
  marks_draw (r ∷ []) h =
      let z : replicate r.count r.colour ++ [] ≡ replicate r.count r.colour = append-nil (replicate r.count r.colour) in
      rw (z, length-replicate r.count r.colour) (closes.draws r.count r.colour h.0 h.1)
  marks_draw (r ∷ q ∷ rs) h =
      let s : List ℕ = spread (q ∷ rs) in
      let n : length (replicate r.count r.colour ++ spread (q ∷ rs)) ≡ r.count + length (spread (q ∷ rs)) = length-append (replicate r.count r.colour) (spread (q ∷ rs)) ∙ rw (length-replicate r.count r.colour) in
      let y : length (replicate r.count r.colour ++ spread (q ∷ rs)) - r.count ≡ length (spread (q ∷ rs)) = omega arith in
      run-draws (length (replicate r.count r.colour ++ spread (q ∷ rs))) r.count r.colour (marks_of last (q ∷ rs)) (spread (q ∷ rs)) h.0 h.1 (omega arith) (rw y (marks_draw (q ∷ rs) h.2))

pub runs-spread : (row : List ℕ) → spread (runs row) ≡ row
unfolding runs spread
runs-spread [] = refl
runs-spread (x ∷ xs) = go (runs xs) (runs-spread xs)
  where
    go : (rs : List Run) → spread rs ≡ xs → spread (grow x rs) ≡ x ∷ xs
    go [] e = ap (λ (l : List ℕ). x ∷ l) e
    go (r ∷ rs) e = ⊎_elim same other (either (eqb x r.colour))
      where
        same : eqb x r.colour ≡ true → spread (grow x (r ∷ rs)) ≡ x ∷ xs
        same t = let q = eqb-true x r.colour t in rw t (ap (λ (l : List ℕ). x ∷ l) (ap (λ (y : ℕ). replicate r.count y ++ spread rs) q ∙ e))

        other : eqb x r.colour ≡ false → spread (grow x (r ∷ rs)) ≡ x ∷ xs
        other t = rw t (ap (λ (l : List ℕ). x ∷ l) e)

runs-fine : (row : List ℕ) → Four row → Fine (runs row)
unfolding runs Fine Four
runs-fine [] h = tt
runs-fine (x ∷ xs) h = go (runs xs) (runs-fine xs h.1)
  where
    go : (rs : List Run) → Fine rs → Fine (grow x rs)
    go [] f = (omega arith, h.0, tt)
    go (r ∷ rs) f = ⊎_elim same other (either (eqb x r.colour))
      where
        same : eqb x r.colour ≡ true → Fine (grow x (r ∷ rs))
        same t = rw t (omega arith, h.0, f.2)

        other : eqb x r.colour ≡ false → Fine (grow x (r ∷ rs))
        other t = rw t (omega arith, h.0, f)

pub row-draws : (last : ℕ → ℕ → List Mark) → Closes last → (row : List ℕ) → Four row → Draws (length row) (row_marks last row) row
row-draws last closes row h = subst (λ (l : List ℕ). Draws (length l) (row_marks last row) l) (runs-spread row) (marks_draw last closes (runs row) (runs-fine row h))

-- a fill paints what is left
pub fill_closes : Closes last_marks
unfolding Draws paints overshoots
fill_closes =
    record {
      draws = λ n c a k.
          let z : n - n ≡ 0 = omega arith in
          let w : c % 4 ≡ c = omega arith in
          let l : c < 256 = omega arith in
          let p : painted n (fill_mark c) ≡ n = rw (lt-ltb c 256 l) in (
            omega arith,
            record { one = omega arith; four = omega arith; most = omega arith; least = λ y. absurd (omega arith); within = omega arith },
            rw (lt-ltb c 256 l),
            ([], rw (p, w) (sym (append-nil (replicate n c))), (rw p z, refl)),
          );
    }
