-- One turn over the parts between separators, and words at the front, over plain variables. Assumes nothing.
use Prim.Native.Nat.{ℕ, suc, ◌+◌, ◌-◌, ◌≤◌, ◌<◌, zero, ◌*◌}
use mathlib.Core.Path.{◌≡◌, refl, sym, ap, ◌∙◌, ap₂}
use mathlib.Core.Bool.{Bool, true, false, not, ◌&&◌}
use mathlib.Core.Logic.{inl, inr, ◌⊎◌, ⊎_elim}
use Rattle.std.specs.Prelude.{Option, Some as some, None as none}
use mathlib.Core.List.{List, [], ◌∷◌, ◌++◌, append-nil}
use native.Mathlib.Omega.{arith}
use native.Mathlib.Numerals.{add-one}
use lib.ListN.{length, get_or, take, drop, drop_of_length-le, length-drop, length-append, get_or-eq_default}
use lib.Seq.{drop-cons, take_all, drop-drop, drop-append_seam, get_or-take, length-take-le, take-append_seam}
use lib.Dec.{eqb, ltb, leb}
use borrow.Author.Tests.{eqb-true, ltb-true, leb-true, leb-false}
use Rattle.grammar.specs.IndexNumbers.{Unsigned}
use Rattle.grammar.specs.IndexParts.{unlike, Span, Parted}
use Rattle.grammar.specs.Parts.{Part}
use Rattle.idx_numbers_model.specs.Answers.{lowest}
use Rattle.idx_numbers_model.specs.Numbers.{unsigned}
use Rattle.idx_numbers_model.specs.Parts.{part, front, rest, split, strip, found, starts, all}
use Rattle.idx_numbers_model.proofs.Grammar.{never, span-is, split-is, split_one, strip-is, unsigned_is, strip-on, none-strip}
use Rattle.idx_numbers_model.proofs.Loops.{drop-front, front-le, take-front}

pub other-false : (sep b : ℕ) → unlike sep b ≡ false → b ≡ sep
other-false sep b e = go (eqb b sep) refl e
  where
    go : (t : Bool) → eqb b sep ≡ t → not t ≡ false → b ≡ sep
    go true q e = eqb-true b sep q
    go false q e = never (cc)

-- ---- one step of a split: up to the next sep, and then the rest
module _ (sep at : ℕ) (s : List ℕ) where
  pub split-last : rest (unlike sep) s ≡ [] → split sep at s ≡ part at (front (unlike sep) s) ∷ []
  split-last e =
      let h = span-is (unlike sep) s in
      let w : front (unlike sep) s ≡ s = sym (h.whole ∙ rw (e, append-nil)) in
      split_one sep at s (part at (front (unlike sep) s) ∷ []) (refl, w, h.front)

  pub split-next : (b : ℕ) (r : List ℕ) → rest (unlike sep) s ≡ b ∷ r
      → split sep at s ≡ part at (front (unlike sep) s) ∷ split sep (at + suc (length (front (unlike sep) s))) r
  split-next b r e = go (split sep (at + suc (length (front (unlike sep) s))) r) (split-is sep (at + suc (length (front (unlike sep) s))) r)
    where
      h : Span (unlike sep) s (front (unlike sep) s) (b ∷ r)
      h = rw e at (span-is (unlike sep) s)

      go : (ps : List Part) → Parted sep (at + suc (length (front (unlike sep) s))) r ps → split sep at s ≡ part at (front (unlike sep) s) ∷ ps
      go [] k = absurd k
      go (q ∷ ps) k =
          split_one sep at s (part at (front (unlike sep) s) ∷ q ∷ ps)
          (refl, r, h.whole ∙ ap (λ (x : ℕ). front (unlike sep) s ++ x ∷ r) (other-false sep b h.stops), h.front, k)

-- ---- one turn over the parts of s: the part at i is n bytes long
module _ (sep : ℕ) (s : List ℕ) (i n : ℕ) (inside : i ≤ length s) (lead : n ≡ length (front (unlike sep) (take (length s - i) (drop i s)))) where
  left : take (length s - i) (drop i s) ≡ drop i s
  left = take_all (length s - i) (drop i s) (rw (length-drop i s) (omega arith))

  long : n ≡ length (front (unlike sep) (drop i s))
  long = rw left at lead

  pub part_in : i + n ≤ length s
  part_in = omega (arith, long, front-le (unlike sep) (drop i s), length-drop i s)

  pub part-is : take (i + n - i) (drop i s) ≡ front (unlike sep) (drop i s)
  part-is =
      let e : i + n - i ≡ length (front (unlike sep) (drop i s)) = omega (arith, long) in
      rw e (take-front (unlike sep) (drop i s))

  rest-is : drop (i + n) s ≡ rest (unlike sep) (drop i s)
  rest-is = sym (drop-drop n i s) ∙ ap (λ (k : ℕ). drop k (drop i s)) long ∙ drop-front (unlike sep) (drop i s)

  pub last-part : (at : ℕ) → length s ≤ i + n → split sep at (drop i s) ≡ part at (take (i + n - i) (drop i s)) ∷ []
  last-part at h = rw part-is (split-last sep at (drop i s) (sym rest-is ∙ drop_of_length-le s h))

  pub next-part : (at : ℕ) → i + n < length s
      → split sep (at + i) (drop i s) ≡ part (at + i) (take (i + n - i) (drop i s)) ∷ split sep (at + (i + n + 1)) (drop (i + n + 1) s)
  next-part at h =
      let q : (at + i) + suc (length (front (unlike sep) (drop i s))) ≡ at + (i + n + 1) = omega (arith, long) in
      rw part-is
      (split-next sep (at + i) (drop i s) (get_or s (i + n) 0) (drop (i + n + 1) s) (sym rest-is ∙ drop-cons s (i + n) 0 h ∙ rw (add-one (i + n)))
      ∙ rw q)

-- ---- a word that was found, and what follows it
pub found-is : (w s : List ℕ) → found (strip w s) ≡ true → (strip w s ≡ some (drop (length w) s)) × (length w ≤ length s)
found-is w s e = go (strip w s) refl e
  where
    go : (o : Option (List ℕ)) → strip w s ≡ o → found o ≡ true → (o ≡ some (drop (length w) s)) × (length w ≤ length s)
    go none q e = never (cc)
    go (some r) q e =
        let f : s ≡ w ++ r = strip-is w s r q in
        (ap some (sym (ap (drop (length w)) f ∙ drop-append_seam w r)), omega (arith, ap length f, length-append w r))

-- a number is at most its bound
pub value_le : (base top : ℕ) (s : List ℕ) (n : Option ℕ) (v : ℕ) → n ≡ unsigned base top s → n ≡ some v → v ≤ top
value_le base top s n v e f = go (unsigned_is base top s v (sym e ∙ f))
  where
    go : Unsigned base top s v → v ≤ top
    go (inl h) = h.within
    go (inr h) = h.2.within

-- ---- a word by its number
le_or_lt : (a b : ℕ) → (a ≤ b) ⊎ (b < a)
le_or_lt a b = go (leb a b) refl
  where
    go : (t : Bool) → leb a b ≡ t → (a ≤ b) ⊎ (b < a)
    go true e = inl (leb-true a b e)
    go false e = inr (leb-false a b e)

peel : (x y k m : ℕ) → x < 256 → k < 256 → x + 256 * y ≡ k + 256 * m → (x ≡ k) × (y ≡ m)
peel x y k m h l e = (omega arith, omega arith)

pub lowest-one : (s t : List ℕ) → length s ≡ length t → ((i : ℕ) → get_or s i 0 < 256) → ((i : ℕ) → get_or t i 0 < 256) → lowest s ≡ lowest t → s ≡ t
unfolding lowest
lowest-one [] [] n h l e = refl
lowest-one [] (b ∷ t) n h l e = absurd (omega arith)
lowest-one (a ∷ s) [] n h l e = absurd (omega arith)
lowest-one (a ∷ s) (b ∷ t) n h l e =
    let p = peel a (lowest s) b (lowest t) (h 0) (l 0) e in
    ap₂ (λ (x : ℕ) (y : List ℕ). x ∷ y) p.0 (lowest-one s t (omega arith) (λ i. h (suc i)) (λ i. l (suc i)) p.1)

pub starts-yes : (w l r : List ℕ) → l ≡ w ++ r → starts w l ≡ true
starts-yes w l r e = ap found (ap (strip w) e ∙ strip-on w r)

pub starts-no : (w l : List ℕ) → ((r : List ℕ) → l ≡ w ++ r → ⊥) → starts w l ≡ false
starts-no w l h = ap found (none-strip w l (λ s. h s.0 s.1))

pub word-short : (w l : List ℕ) → length l < length w → false ≡ starts w l
word-short w l h = sym (starts-no w l (λ r e. omega (arith, ap length e, length-append w r)))

-- bytes that are written out
pub small_bytes : (w : List ℕ) → all (λ b. ltb b 256) w ≡ true → (i : ℕ) → get_or w i 0 < 256
unfolding all
small_bytes [] e i = omega arith
small_bytes (b ∷ w) e i = go (small_bytes w) (ltb b 256) refl e i
  where
    go : (all (λ x. ltb x 256) w ≡ true → (k : ℕ) → get_or w k 0 < 256) → (t : Bool) → ltb b 256 ≡ t → t && all (λ x. ltb x 256) w ≡ true → (k : ℕ) → get_or (b ∷ w) k 0 < 256
    go ih true q f zero = ltb-true b 256 q
    go ih true q f (suc k) = ih f k
    go ih false q f k = never (cc)

-- the front of l is w where its number is that of w, and only there
module _ (w l : List ℕ) (fits : length w ≤ length l) (low : (i : ℕ) → get_or l i 0 < 256) (low_w : (i : ℕ) → get_or w i 0 < 256) (n : ℕ) (is : n ≡ lowest (take (length w) l)) where
  low-front : (i : ℕ) → get_or (take (length w) l) i 0 < 256
  low-front i = ⊎_elim past inside (le_or_lt (length (take (length w) l)) i)
    where
      past : length (take (length w) l) ≤ i → get_or (take (length w) l) i 0 < 256
      past h = let e : get_or (take (length w) l) i 0 ≡ 0 = get_or-eq_default (take (length w) l) 0 h in rw e (omega arith)

      inside : i < length (take (length w) l) → get_or (take (length w) l) i 0 < 256
      inside h =
          let k : i < length w = omega (arith, length-take-le (length w) l fits) in
          let e : get_or (take (length w) l) i 0 ≡ get_or l i 0 = get_or-take (length w) l i 0 k in
          rw e (low i)

  pub word-front : n ≡ lowest w → take (length w) l ≡ w
  word-front e = lowest-one (take (length w) l) w (length-take-le (length w) l fits) low-front low_w (sym is ∙ e)

  pub word-other : (n ≡ lowest w → ⊥) → (r : List ℕ) → l ≡ w ++ r → ⊥
  word-other h r e = h (is ∙ ap lowest (ap (take (length w)) e ∙ take-append_seam w r))

-- ---- eight bytes in turn
module _ (s : List ℕ) (i : ℕ) where
  low_step : (k n : ℕ) → i + k < length s → lowest (take (suc n) (drop (i + k) s)) ≡ get_or s (i + k) 0 + 256 * lowest (take n (drop (i + (k + 1)) s))
  unfolding lowest
  low_step k n h =
      let z : suc (i + k) ≡ i + (k + 1) = omega arith in
      rw (drop-cons s (i + k) 0 h) (ap (λ (m : ℕ). get_or s (i + k) 0 + 256 * lowest (take n (drop m s))) z)

  pub eight_is : i + 8 ≤ length s → (r : ℕ)
      → r ≡ get_or s i 0 + 256 * (get_or s (i + 1) 0 + 256 * (get_or s (i + 2) 0 + 256 * (get_or s (i + 3) 0 + 256 * (get_or s (i + 4) 0 + 256 * (get_or s (i + 5) 0 + 256 * (get_or s (i + 6) 0 + 256 * get_or s (i + 7) 0))))))
      → r ≡ lowest (take 8 (drop i s))
  unfolding lowest
  eight_is h r e =
      let z : i + 0 ≡ i = omega arith in
      let a₀ : lowest (take 8 (drop i s)) ≡ get_or s i 0 + 256 * lowest (take 7 (drop (i + 1) s)) = rw z at (low_step 0 7 (omega arith)) in
      let a₁ = low_step 1 6 (omega arith) in
      let a₂ = low_step 2 5 (omega arith) in
      let a₃ = low_step 3 4 (omega arith) in
      let a₄ = low_step 4 3 (omega arith) in
      let a₅ = low_step 5 2 (omega arith) in
      let a₆ = low_step 6 1 (omega arith) in
      let a₇ = low_step 7 0 (omega arith) in
      omega (arith, a₀, a₁, a₂, a₃, a₄, a₅, a₆, a₇)
