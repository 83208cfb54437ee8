-- A field as a slice of its own has the codes that it has in its unit, at lower places. Assumes nothing.
use Prim.Native.Nat.{ℕ, zero, suc, ◌+◌, ◌-◌, ◌*◌, ◌/◌, ◌%◌, ◌^◌, ◌≤◌, ◌<◌, min}
use native.Mathlib.Omega.{arith}
use mathlib.Core.Path.{◌≡◌, refl, sym, ap, ◌∙◌}
use mathlib.Core.Bool.{Bool, true, false, cond}
use mathlib.Core.Logic.{⊎_elim}
use mathlib.Core.List.{List, [], ◌∷◌}
use lib.ListN.{length, take, drop, drop_of_length-le}
use lib.Seq.{slice, sets, get_or-take, get_or-drop, length-take-le, length-slice}
use lib.Dec.{leb}
use borrow.Author.Tests.{le-leb, lt-leb}
use Rattle.outcome.specs.Outcome.{Res, ok, refuse, and_then, cons_res, map_res}
use Rattle.outcome.proofs.Laws.{le_or_lt, part_slice}
use Rattle.grammar.specs.Bytes.{nibble, nibbles}
use Rattle.grammar.specs.Rows.{Code, code, paints, overshoots, after_codes, align}
use Rattle.grammar.specs.Pixels.{row_pixels}
use Rattle.rle_model.specs.Codes.{made, code_from, code_at, row_at, field_at}
use Rattle.rle_model.specs.Field.{paint_field}
use Rattle.rle_model.specs.Answers.{plus, counted, row_counts, field_counts}
use Rattle.rle_model.proofs.Grammar.{code-sound, paints-pos, row_step, row-none}

-- the same code, k half bytes on
abbrev pub moved : ℕ → Code → Code
moved k c = code (k + c.place) c.size c.value

abbrev pub moved_row : ℕ → List Code → List Code
moved_row k [] = []
moved_row k (c ∷ cs) = moved k c ∷ moved_row k cs

abbrev pub moved_rows : ℕ → List (List Code) → List (List Code)
moved_rows k [] = []
moved_rows k (r ∷ rs) = moved_row k r ∷ moved_rows k rs

-- ---- What does not look at places

pub moved-counts : (k left : ℕ) (cs : List Code) → row_counts left (moved_row k cs) ≡ row_counts left cs
unfolding row_counts paints overshoots
moved-counts k left [] = refl
moved-counts k left (c ∷ cs) = ap (plus (counted left c)) (moved-counts k (left - paints left c) cs)

pub moved-pixels : (k left : ℕ) (cs : List Code) → row_pixels left (moved_row k cs) ≡ row_pixels left cs
unfolding row_pixels paints
moved-pixels k left [] = refl
moved-pixels k left (c ∷ cs) = rw (moved-pixels k (left - paints left c) cs)

pub moved-field_counts : (k w : ℕ) (rs : List (List Code)) → field_counts w (moved_rows k rs) ≡ field_counts w rs
unfolding field_counts
moved-field_counts k w [] = refl
moved-field_counts k w (r ∷ rs) = rw (moved-counts k w r, moved-field_counts k w rs)

pub moved-paint : (k w o : ℕ) (rs : List (List Code)) (px : List ℕ) → paint_field w o (moved_rows k rs) px ≡ paint_field w o rs px
unfolding paint_field
moved-paint k w o [] px = refl
moved-paint k w o (r ∷ rs) px =
    ap (λ (vs : List ℕ). paint_field w (o + 2 * w) (moved_rows k rs) (sets px o vs)) (moved-pixels k w r)
    ∙ moved-paint k w (o + 2 * w) rs (sets px o (row_pixels w r))

moved-after : (k p : ℕ) (cs : List Code) → after_codes (k + p) (moved_row k cs) ≡ k + after_codes p cs
unfolding after_codes
moved-after k p [] = refl
moved-after k p (c ∷ cs) = let z : k + p + c.size ≡ k + (p + c.size) = omega arith in ap (λ (n : ℕ). after_codes n (moved_row k cs)) z ∙ moved-after k (p + c.size) cs

moved-align : (a p : ℕ) → align (2 * a + p) ≡ 2 * a + align p
unfolding align
moved-align a p = omega arith

-- ---- A part taken from its lesser end

pub part-taken : (u : List ℕ) (a e start : ℕ) → e ≤ length u → start ≡ min a e → take (e - start) (drop start u) ≡ slice a e u
part-taken u a e start b q =
    ⊎_elim
    (λ (h : a ≤ e).
    let z : start ≡ a = omega arith in
    rw z (part_slice a e u))
    (λ (h : e < a).
    let z : e - start ≡ 0 = omega arith in
    let m : length (take e u) ≤ a = omega (arith, length-take-le e u b) in
    rw z (sym (drop_of_length-le (take e u) m)))
    (le_or_lt a e)

-- ---- The codes of a part

module _ (u : List ℕ) (a e : ℕ) (b : e ≤ length u) where
  part-nibble : (p : ℕ) → p < 2 * (e - a) → nibble (slice a e u) p ≡ nibble u (2 * a + p)
  unfolding nibble
  part-nibble p h =
      let z : (2 * a + p) / 2 ≡ a + p / 2 = omega arith in
      let y : (2 * a + p) % 2 ≡ p % 2 = omega arith in
      let i : a + p / 2 < e = omega arith in
      rw (z, y, get_or-drop, get_or-take e u (a + p / 2) 0 i)

  part-nibbles : (p k : ℕ) → p + k ≤ 2 * (e - a) → nibbles (slice a e u) p k ≡ nibbles u (2 * a + p) k
  unfolding nibbles
  part-nibbles p zero h = refl
  part-nibbles p (suc k) h =
      let z : 2 * a + p + k ≡ 2 * a + (p + k) = omega arith in
      rw (z, part-nibbles p k (omega arith), part-nibble (p + k) (omega arith))

  part-made : (p k : ℕ) → p + k ≤ 2 * (e - a) → made u (2 * a + p) k ≡ moved (2 * a) (made (slice a e u) p k)
  part-made p k h = let z = part-nibbles p k h in λ i. code (2 * a + p) k (sym z i)

  -- where k nibbles are inside, and where they are not
  inside : (p k : ℕ) → 1 ≤ k → p + k ≤ 2 * (e - a) → (leb (2 * a + p + k) (2 * e) ≡ true) × (leb (p + k) (2 * length (slice a e u)) ≡ true)
  inside p k o h =
      let l = length-slice a e u b in
      (le-leb (2 * a + p + k) (2 * e) (omega arith), le-leb (p + k) (2 * length (slice a e u)) (omega arith))

  outside : (p k : ℕ) → 1 ≤ k → 2 * (e - a) < p + k → (leb (2 * a + p + k) (2 * e) ≡ false) × (leb (p + k) (2 * length (slice a e u)) ≡ false)
  outside p k o h =
      let l = length-slice a e u b in
      (lt-leb (2 * a + p + k) (2 * e) (omega arith), lt-leb (p + k) (2 * length (slice a e u)) (omega arith))

  part-from : (p j k : ℕ) → 1 ≤ k → code_from u e (2 * a + p) j k ≡ map_res (moved (2 * a)) (code_from (slice a e u) (length (slice a e u)) p j k)
  unfolding code_from
  part-from p zero k o =
      ⊎_elim (λ (h : p + k ≤ 2 * (e - a)). rw ((inside p k o h).0, (inside p k o h).1) (ap ok (part-made p k h)))
      (λ (h : 2 * (e - a) < p + k). rw ((outside p k o h).0, (outside p k o h).1))
      (le_or_lt (p + k) (2 * (e - a)))
  part-from p (suc j) k o =
      let r = part-from p j (suc k) (omega arith) in
      ⊎_elim
      (λ (h : p + k ≤ 2 * (e - a)).
      rw ((inside p k o h).0, (inside p k o h).1, part-nibbles p k h)
      (go (leb (4 ^ k) (nibbles u (2 * a + p) k)) (code p k (nibbles u (2 * a + p) k)) _ _ r))
      (λ (h : 2 * (e - a) < p + k). rw ((outside p k o h).0, (outside p k o h).1))
      (le_or_lt (p + k) (2 * (e - a)))
    where
      go : (t : Bool) (y : Code) (f g : Res Code) → f ≡ map_res (moved (2 * a)) g
          → cond t (ok (moved (2 * a) y)) f ≡ map_res (moved (2 * a)) (cond t (ok y) g)
      go true y f g r = refl
      go false y f g r = r

  part-code : (p : ℕ) → code_at u e (2 * a + p) ≡ map_res (moved (2 * a)) (code_at (slice a e u) (length (slice a e u)) p)
  unfolding code_at
  part-code p = part-from p 3 1 (omega arith)

  part_none : (left p : ℕ) → left ≤ 0 → row_at u e left (2 * a + p) ≡ map_res (moved_row (2 * a)) (row_at (slice a e u) (length (slice a e u)) left p)
  part_none left p h = let z : left ≡ 0 = omega arith in rw (z, row-none u e (2 * a + p), row-none (slice a e u) (length (slice a e u)) p)

  part_step : (left p : ℕ) → 0 < left
      → ((c : Code) → left - paints left c < left
      → row_at u e (left - paints left c) (2 * a + (p + c.size))
      ≡ map_res (moved_row (2 * a)) (row_at (slice a e u) (length (slice a e u)) (left - paints left c) (p + c.size)))
      → row_at u e left (2 * a + p) ≡ map_res (moved_row (2 * a)) (row_at (slice a e u) (length (slice a e u)) left p)
  unfolding paints
  part_step left p h i =
      rw (row_step u e left (2 * a + p) h, row_step (slice a e u) (length (slice a e u)) left p h, part-code p)
      (go (code_at (slice a e u) (length (slice a e u)) p) refl)
    where
      cons : (c : Code) (x : Res (List Code)) → cons_res (moved (2 * a) c) (map_res (moved_row (2 * a)) x) ≡ map_res (moved_row (2 * a)) (cons_res c x)
      cons c (refuse n) = refl
      cons c (ok cs) = refl

      go : (o : Res Code) → code_at (slice a e u) (length (slice a e u)) p ≡ o
          → and_then (map_res (moved (2 * a)) o) (λ c. cons_res c (row_at u e (left - paints left c) (2 * a + p + c.size)))
          ≡ map_res (moved_row (2 * a)) (and_then o (λ c. cons_res c (row_at (slice a e u) (length (slice a e u)) (left - paints left c) (p + c.size))))
      go (refuse n) q = refl
      go (ok c) q =
          let z : 2 * a + p + c.size ≡ 2 * a + (p + c.size) = omega arith in
          let g = paints-pos (slice a e u) (length (slice a e u)) left c (code-sound (slice a e u) (length (slice a e u)) p c q).1 h in
          ap (λ (n : ℕ). cons_res (moved (2 * a) c) (row_at u e (left - paints left c) n)) z
          ∙ ap (cons_res (moved (2 * a) c)) (i c (omega arith))
          ∙ cons c (row_at (slice a e u) (length (slice a e u)) (left - paints left c) (p + c.size))

  part-row : (t left p : ℕ) → left ≤ t → row_at u e left (2 * a + p) ≡ map_res (moved_row (2 * a)) (row_at (slice a e u) (length (slice a e u)) left p)
  part-row zero left p h = part_none left p h
  part-row (suc t) left p h =
      ⊎_elim (λ z. part_none left p z) (λ l. part_step left p l (λ c f. part-row t (left - paints left c) (p + c.size) (omega arith)))
      (le_or_lt left 0)

  part_rows_lem : (w n p : ℕ) → field_at u e w n (2 * a + p) ≡ map_res (moved_rows (2 * a)) (field_at (slice a e u) (length (slice a e u)) w n p)
  unfolding field_at
  part_rows_lem w zero p = refl
  part_rows_lem w (suc n) p = rw (part-row w w p (omega arith)) (go (λ q. part_rows_lem w n q) (row_at (slice a e u) (length (slice a e u)) w p))
    where
      cons : (r : List Code) (x : Res (List (List Code))) → cons_res (moved_row (2 * a) r) (map_res (moved_rows (2 * a)) x) ≡ map_res (moved_rows (2 * a)) (cons_res r x)
      cons r (refuse k) = refl
      cons r (ok rs) = refl

      go : ((q : ℕ) → field_at u e w n (2 * a + q) ≡ map_res (moved_rows (2 * a)) (field_at (slice a e u) (length (slice a e u)) w n q)) → (o : Res (List Code))
          → and_then (map_res (moved_row (2 * a)) o) (λ r. cons_res r (field_at u e w n (align (after_codes (2 * a + p) r))))
          ≡ map_res (moved_rows (2 * a)) (and_then o (λ r. cons_res r (field_at (slice a e u) (length (slice a e u)) w n (align (after_codes p r)))))
      go i (refuse k) = refl
      go i (ok r) =
          let z : align (after_codes (2 * a + p) (moved_row (2 * a) r)) ≡ 2 * a + align (after_codes p r) =
          ap align (moved-after (2 * a) p r) ∙ moved-align a (after_codes p r) in
          ap (λ (m : ℕ). cons_res (moved_row (2 * a) r) (field_at u e w n m)) z
          ∙ ap (cons_res (moved_row (2 * a) r)) (i (align (after_codes p r)))
          ∙ cons r (field_at (slice a e u) (length (slice a e u)) w n (align (after_codes p r)))

  -- a field in its unit is the slice's, moved
  pub part_field : (w n : ℕ) → field_at u e w n (2 * a) ≡ map_res (moved_rows (2 * a)) (field_at (slice a e u) (length (slice a e u)) w n 0)
  part_field w n = let z : 2 * a ≡ 2 * a + 0 = omega arith in ap (field_at u e w n) z ∙ part_rows_lem w n 0
