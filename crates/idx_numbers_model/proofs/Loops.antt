-- One law for each turn of a loop, over plain variables. Assumes nothing.
use Prim.Native.Nat.{ℕ, zero, suc, ◌+◌, ◌-◌, ◌≤◌, ◌<◌}
use mathlib.Core.Path.{◌≡◌, refl, sym, ap, ◌∙◌}
use mathlib.Core.Bool.{Bool, true, false, not, cond, ◌&&◌}
use lib.Dec.{eqb}
use borrow.Author.Tests.{eq-eqb, ne_eqb, eqb-true, eqb-false}
use Rattle.std.specs.Prelude.{Option, None as none}
use Rattle.std.specs.Option.{MatchOption, unwrap_or}
use Rattle.std.specs.List.{AllWithin, HoldsAt, starts_with}
use Rattle.std.proofs.Common.{get_or-drop}
use Rattle.std.proofs.lemmas.Iterator.{index_from_first}
use Rattle.grammar.specs.IndexParts.{All, Ends, blank, unlike}
use Rattle.idx_numbers_model.specs.Parts.{front, rest, all, shorn, trimmed, strip, found, starts}
use Rattle.idx_numbers_model.proofs.Grammar.{never, span-is, shorn-is, shorn-one}
use mathlib.Core.List.{List, [], ◌∷◌, ◌++◌}
use native.Mathlib.Omega.{arith}
use native.Mathlib.Numerals.{add-one}
use lib.ListN.{length, get_or, take, drop, length-drop, length-append, take-append-drop}
use lib.Seq.{take_all, drop-drop, take-suc, take-append_seam, drop-append_seam, length-take-le}

module _ (p : ℕ → Bool) (s : List ℕ) where
  pub drop-front : drop (length (front p s)) s ≡ rest p s
  drop-front = ap (drop (length (front p s))) (span-is p s).whole ∙ drop-append_seam (front p s) (rest p s)

  pub front-le : length (front p s) ≤ length s
  front-le = omega (arith, ap length (span-is p s).whole, length-append (front p s) (rest p s))

  pub take-shorn : take (length (shorn p s)) s ≡ shorn p s
  take-shorn = ap (take (length (shorn p s))) (shorn-is p s).1 ∙ take-append_seam (shorn p s) (shorn-is p s).0

-- the first byte that does not pass, as std finds it
pub first_front : (p : ℕ → Bool) (s : List ℕ) (r : Option ℕ)
    → MatchOption r (AllWithin (λ b. p b ≡ true) s 0 (length s)) (λ i. (i < length s) × HoldsAt (λ b. p b ≡ false) s i × AllWithin (λ b. p b ≡ true) s 0 i)
    → length (front p s) ≡ unwrap_or r (length s)
unfolding front
first_front p s r = index_from_first (λ l. length (front p l)) (λ b. p b ≡ false) (λ b. p b ≡ true) refl (λ b l h. rw h) (λ b l h. rw (h, add-one (length (front p l)))) s r

-- the last byte that does not pass, as std finds it
ends_snoc : (p : ℕ → Bool) (l : List ℕ) (x : ℕ) → p x ≡ false → Ends p (l ++ x ∷ [])
ends_snoc p [] x h = h
ends_snoc p (b ∷ []) x h = h
ends_snoc p (b ∷ c ∷ l) x h = ends_snoc p (c ∷ l) x h

all_reads : (p : ℕ → Bool) (s : List ℕ) → ((k : ℕ) → k < length s → p (get_or s k 0) ≡ true) → All p s
all_reads p [] h = tt
all_reads p (b ∷ s) h = (h 0 (omega arith), all_reads p s (λ k l. h (suc k) (omega arith)))

pub kept_last : (p : ℕ → Bool) (s : List ℕ) (i : ℕ) → i < length s → p (get_or s i 0) ≡ false → ((k : ℕ) → i + 1 ≤ k → k < length s → p (get_or s k 0) ≡ true)
    → i + 1 ≡ length (shorn p s)
kept_last p s i l here after =
    let rest : All p (drop (i + 1) s) = all_reads p (drop (i + 1) s) (λ k h. rw (get_or-drop (i + 1) s k 0) (after (i + 1 + k) (omega arith) (omega (arith, length-drop (i + 1) s)))) in
    let front : take (i + 1) s ≡ take i s ++ get_or s i 0 ∷ [] = rw (add-one i) (take-suc s i 0 l) in
    let ends : Ends p (take (i + 1) s) = rw front (ends_snoc p (take i s) (get_or s i 0) here) in
    let kept : shorn p s ≡ take (i + 1) s = rw take-append-drop at (shorn-one p (take (i + 1) s) (drop (i + 1) s) rest ends) in
    rw kept (sym (length-take-le (i + 1) s (omega arith)))

pub kept_none : (p : ℕ → Bool) (s : List ℕ) → ((k : ℕ) → k < length s → p (get_or s k 0) ≡ true) → 0 ≡ length (shorn p s)
kept_none p s h = rw (shorn-one p [] s (all_reads p s h) tt)

pub take-front : (p : ℕ → Bool) (s : List ℕ) → take (length (front p s)) s ≡ front p s
take-front p s = ap (take (length (front p s))) (span-is p s).whole ∙ take-append_seam (front p s) (rest p s)

-- ---- trim
module _ (s : List ℕ) (a : ℕ) (lead : a ≡ length (front blank s)) where
  pub lead-le : a ≤ length s
  lead-le = rw lead (front-le blank s)

  left_is : take (length s - a) (drop a s) ≡ rest blank s
  left_is =
      let l : length (drop a s) ≤ length s - a = rw (length-drop a s) (omega arith) in
      take_all (length s - a) (drop a s) l ∙ ap (λ (n : ℕ). drop n s) lead ∙ drop-front blank s

  pub trim-ends : (n : ℕ) → n ≡ length (shorn blank (take (length s - a) (drop a s))) → take n (take (length s - a) (drop a s)) ≡ trimmed s
  trim-ends n h = rw (h, left_is) (take-shorn blank (rest blank s))

  pub trim-long : (n : ℕ) → n ≡ length (shorn blank (take (length s - a) (drop a s))) → n ≡ length (take n (take (length s - a) (drop a s)))
  trim-long n h = h ∙ rw (trim-ends n h, left_is)

-- ---- the eight bytes of a block
module _ (sep : ℕ) (l : List ℕ) (hit : Bool) (j : ℕ) (inv : hit ≡ not (all (unlike sep) (take j l))) (inside : j < length l) where
  all_snoc : (p : ℕ → Bool) (m : List ℕ) (b : ℕ) → all p (m ++ b ∷ []) ≡ all p m && p b
  unfolding all
  all_snoc p [] b = go (p b)
    where
      go : (t : Bool) → t && true ≡ t
      go true = refl
      go false = refl
  all_snoc p (x ∷ m) b = ap (λ (t : Bool). p x && t) (all_snoc p m b) ∙ go (p x) (all p m)
    where
      go : (t u : Bool) → t && (u && p b) ≡ (t && u) && p b
      go true u = refl
      go false u = refl

  grown : all (unlike sep) (take (j + 1) l) ≡ all (unlike sep) (take j l) && unlike sep (get_or l j 0)
  grown = rw (add-one j, take-suc l j 0 inside) (all_snoc (unlike sep) (take j l) (get_or l j 0))

  pub block-hit : get_or l j 0 ≡ sep → true ≡ not (all (unlike sep) (take (j + 1) l))
  block-hit e = rw (grown, eq-eqb (get_or l j 0) sep e) (go (all (unlike sep) (take j l)))
    where
      go : (t : Bool) → true ≡ not (t && false)
      go true = refl
      go false = refl

  pub block-pass : (get_or l j 0 ≡ sep → ⊥) → hit ≡ not (all (unlike sep) (take (j + 1) l))
  block-pass n = inv ∙ rw (grown, ne_eqb (get_or l j 0) sep n) (go (all (unlike sep) (take j l)))
    where
      go : (t : Bool) → not t ≡ not (t && true)
      go true = refl
      go false = refl

pub block-starts : (sep : ℕ) (l : List ℕ) → false ≡ not (all (unlike sep) (take 0 l))
unfolding all
block-starts sep l = refl

-- a block that is passed over
front-skip : (p : ℕ → Bool) (n : ℕ) (s : List ℕ) → n ≤ length s → all p (take n s) ≡ true → length (front p s) ≡ n + length (front p (drop n s))
unfolding all front
front-skip p zero s h e = omega arith
front-skip p (suc n) [] h e = absurd (omega arith)
front-skip p (suc n) (b ∷ s) h e = go (front-skip p n s (omega arith)) (p b) e
  where
    go : (all p (take n s) ≡ true → length (front p s) ≡ n + length (front p (drop n s))) → (t : Bool) → (t && all p (take n s)) ≡ true
        → length (cond t (b ∷ front p s) []) ≡ suc n + length (front p (drop n s))
    go ih true e = omega (arith, ih e)
    go ih false e = never (cc)

module _ (sep : ℕ) (s : List ℕ) (i : ℕ) (inside : i ≤ length s) (inv : length (front (unlike sep) s) ≡ i + length (front (unlike sep) (drop i s))) where
  pub skip_block : (r : Bool) → r ≡ not (all (unlike sep) (take 8 (drop i s))) → r ≡ false → i + 8 ≤ length s
      → length (front (unlike sep) s) ≡ (i + 8) + length (front (unlike sep) (drop (i + 8) s))
  skip_block r e f h =
      let q : all (unlike sep) (take 8 (drop i s)) ≡ true = go (all (unlike sep) (take 8 (drop i s))) (sym e ∙ f) in
      let k : length (front (unlike sep) (drop i s)) ≡ 8 + length (front (unlike sep) (drop 8 (drop i s))) = front-skip (unlike sep) 8 (drop i s) (omega (arith, length-drop i s)) q in
      let d : length (front (unlike sep) (drop 8 (drop i s))) ≡ length (front (unlike sep) (drop (i + 8) s)) = ap (λ (l : List ℕ). length (front (unlike sep) l)) (drop-drop 8 i s) in
      omega (arith, k, d)
    where
      go : (t : Bool) → not t ≡ false → t ≡ true
      go true g = refl
      go false g = never (cc)

  pub near-end : (n : ℕ) → n ≡ length (front (unlike sep) (take (length s - i) (drop i s))) → i + n ≡ length (front (unlike sep) s)
  near-end n e =
      let l : take (length s - i) (drop i s) ≡ drop i s = take_all (length s - i) (drop i s) (rw (length-drop i s) (omega arith)) in
      let q : n ≡ length (front (unlike sep) (drop i s)) = rw l at e in
      omega (arith, q)

-- ---- a word at the front, as std tests it
eqb-turned : (a b : ℕ) → eqb a b ≡ eqb b a
eqb-turned a b = go (eqb b a) refl
  where
    go : (t : Bool) → eqb b a ≡ t → eqb a b ≡ t
    go true e = eq-eqb a b (sym (eqb-true b a e))
    go false e = ne_eqb a b (λ q. eqb-false b a e (sym q))

pub starts-is : (w s : List ℕ) → starts_with eqb s w ≡ starts w s
unfolding strip
starts-is [] s = refl
starts-is (a ∷ w) [] = refl
starts-is (a ∷ w) (b ∷ s) = rw (eqb-turned a b) (go (starts-is w s) (eqb b a))
  where
    go : starts_with eqb s w ≡ starts w s → (t : Bool) → t && starts_with eqb s w ≡ found (cond t (strip w s) none)
    go ih true = ih
    go ih false = refl

-- another first byte, where there is one to look for
pub starts-unlike : (w s : List ℕ) → 0 < length w → (get_or s 0 0 ≡ get_or w 0 0 → ⊥) → false ≡ starts w s
unfolding strip
starts-unlike [] s l d = absurd (omega arith)
starts-unlike (a ∷ w) [] l d = refl
starts-unlike (a ∷ w) (b ∷ s) l d = rw (ne_eqb b a d)
