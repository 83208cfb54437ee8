-- Nibbles written one after the other. Assumes nothing.
use Prim.Native.Nat.{ℕ, zero, suc, ◌+◌, ◌-◌, ◌*◌, ◌/◌, ◌%◌, ◌≤◌, ◌<◌}
use native.Mathlib.Omega.{arith}
use native.Mathlib.Nat.{add-zero}
use mathlib.Core.Path.{◌≡◌, refl, sym, ap, ◌∙◌, subst}
use mathlib.Core.Bool.{true, false, cond}
use mathlib.Core.Logic.{⊎_elim}
use mathlib.Core.List.{List, [], ◌∷◌, ◌++◌, append_assoc, append-nil}
use lib.ListN.{length, take, drop, set, length-append, length-drop}
use lib.Seq.{sets, set-set, get_or-drop, drop-drop, take_all}
use lib.Dec.{eqb}
use borrow.Author.Tests.{eq-eqb, ne_eqb, eqb-true, eqb-false}
use Rattle.outcome.proofs.Laws.{either}
use Rattle.grammar.specs.Bytes.{byte}
use Rattle.std.specs.List.{prefix_len}
use Rattle.demo_model.specs.Codes.{Run, run, grow, runs, lead, Mark, run_size, cut, run_marks, last_marks, marks_of, digits, nibbles_of, packed, row_marks}
use Rattle.demo_model.specs.Unit.{Four}
use Rattle.demo_model.specs.Answers.{half, Inked}
use Rattle.demo_model.specs.declared.NibbleWriter.{NibbleWriter}

-- ---- One nibble

-- the byte that holds nibble number n, once v is there
abbrev inked_byte : List ℕ → ℕ → ℕ
inked_byte ns v = cond (eqb (length ns % 2) 0) (v * 16) (half ns * 16 + v)

ink-bytes : (ns : List ℕ) (v : ℕ) (o : List ℕ) (i : ℕ) → set (sets o i (packed ns)) (i + length ns / 2) (inked_byte ns v) ≡ sets o i (packed (ns ++ (v ∷ [])))
unfolding packed half
ink-bytes [] v o i = rw (add-zero)
ink-bytes (a ∷ []) v o i = rw (add-zero) (set-set o i (a * 16) (a * 16 + v))
ink-bytes (a ∷ b ∷ ns) v o i =
    let x : suc (suc (length ns)) % 2 ≡ length ns % 2 = omega arith in
    let y : i + suc (suc (length ns)) / 2 ≡ suc i + length ns / 2 = omega arith in
    rw (x, y) (ink-bytes ns v (set o i (a * 16 + b)) (suc i))

ink-half : (ns : List ℕ) (v : ℕ) → half (ns ++ (v ∷ [])) ≡ cond (eqb (length ns % 2) 0) v 0
unfolding half
ink-half [] v = refl
ink-half (a ∷ []) v = refl
ink-half (a ∷ b ∷ ns) v = let x : suc (suc (length ns)) % 2 ≡ length ns % 2 = omega arith in rw x (ink-half ns v)

module _ (ns o : List ℕ) (w : NibbleWriter) (out : List ℕ) (h : Inked ns o w out) (v : ℕ) (r : NibbleWriter) (p : r.pos ≡ w.pos + 1) where
  next-count : r.pos ≡ length (ns ++ (v ∷ []))
  next-count = let c = h.count in let l = length-append ns (v ∷ []) in omega arith

  place : 4 + w.pos / 2 ≡ 4 + length ns / 2
  place = let c = h.count in omega arith

  pub ink_even : w.pos % 2 ≡ 0 → r.high ≡ v → (out' : List ℕ) → out' ≡ set out (4 + w.pos / 2) (v * 16) → Inked (ns ++ (v ∷ [])) o r out'
  ink_even e q out' g =
      let c = h.count in
      let t : eqb (length ns % 2) 0 ≡ true = eq-eqb (length ns % 2) 0 (omega arith) in
      record {
        count = next-count;
        last = q ∙ sym (ink-half ns v ∙ rw t);
        bytes = g ∙ ap (λ (l : List ℕ). set l (4 + w.pos / 2) (v * 16)) h.bytes ∙ rw place (rw t at (ink-bytes ns v o 4));
      }

  pub ink_odd : (w.pos % 2 ≡ 0 → ⊥) → r.high ≡ 0 → (out' : List ℕ) → out' ≡ set out (4 + w.pos / 2) (w.high * 16 + v) → Inked (ns ++ (v ∷ [])) o r out'
  ink_odd e q out' g =
      let c = h.count in
      let t : eqb (length ns % 2) 0 ≡ false = ne_eqb (length ns % 2) 0 (λ z. e (omega arith)) in
      record {
        count = next-count;
        last = q ∙ sym (ink-half ns v ∙ rw t);
        bytes = g ∙ ap (λ (l : List ℕ). set l (4 + w.pos / 2) (w.high * 16 + v)) h.bytes ∙ rw (place, h.last) (rw t at (ink-bytes ns v o 4));
      }

-- the same nibbles by another name
pub inked_as : (ns ms o : List ℕ) (w : NibbleWriter) (out : List ℕ) → ns ≡ ms → Inked ns o w out → Inked ms o w out
inked_as ns ms o w out e h = subst (λ (l : List ℕ). Inked l o w out) e h

-- ---- Codes of a run

pub cut_short : (n c : ℕ) → n ≤ 255 → nibbles_of (run_marks n c) ≡ digits (run_size n) (4 * n + c)
unfolding cut nibbles_of
cut_short n c h = let z : (n - 1) / 255 ≡ 0 = omega arith in rw z (append-nil (digits (run_size n) (4 * n + c)))

pub cut-long : (n c : ℕ) → 255 < n → nibbles_of (run_marks n c) ≡ digits 4 (1020 + c) ++ nibbles_of (run_marks (n - 255) c)
unfolding cut nibbles_of
cut-long n c h =
    let z : (n - 1) / 255 ≡ suc ((n - 255 - 1) / 255) = omega arith in
    rw z

-- ---- The front run of a row

pub lead-le : (c : ℕ) (s : List ℕ) → lead c s ≤ length s
unfolding lead
lead-le c [] = omega arith
lead-le c (x ∷ s) = ⊎_elim (λ t. rw t (omega (arith, lead-le c s))) (λ t. rw t (omega arith)) (either (eqb x c))

lead-yes : (c x : ℕ) (s : List ℕ) → x ≡ c → lead c (x ∷ s) ≡ suc (lead c s)
unfolding lead
lead-yes c x s e = rw (eq-eqb x c e)

lead-no : (c x : ℕ) (s : List ℕ) → (x ≡ c → ⊥) → lead c (x ∷ s) ≡ 0
unfolding lead
lead-no c x s e = rw (ne_eqb x c e)

drop-step : (s : List ℕ) (n : ℕ) → n < length s → drop n s ≡ byte s n ∷ drop (n + 1) s
drop-step [] n h = absurd (omega arith)
drop-step (x ∷ s) zero h = refl
drop-step (x ∷ s) (suc n) h = let z : suc n + 1 ≡ suc (n + 1) = omega arith in rw z (drop-step s n (omega arith))

-- they are how many pass the test before one that does not
pub lead-prefix : (c : ℕ) (s : List ℕ) → prefix_len (λ x. eqb x c) s ≡ lead c s
unfolding lead
lead-prefix c [] = refl
lead-prefix c (x ∷ s) =
    let z : 1 + prefix_len (λ y. eqb y c) s ≡ suc (lead c s) = omega (arith, lead-prefix c s) in
    ap (λ (n : ℕ). cond (eqb x c) n 0) z

-- and in a row that is not empty one at least
pub lead-some : (s : List ℕ) → 0 < length s → 1 ≤ lead (byte s 0) s
lead-some [] h = absurd (omega arith)
lead-some (x ∷ s) h = omega (arith, lead-yes x x s refl)

-- the runs of a row are its front run, and those of the rest
runs-front : (x : ℕ) (s : List ℕ) → runs (x ∷ s) ≡ run (suc (lead x s)) x ∷ runs (drop (lead x s) s)
unfolding runs lead
runs-front x [] = refl
runs-front x (y ∷ s) = ⊎_elim (same (runs-front y s)) (other (runs-front y s)) (either (eqb y x))
  where
    same : runs (y ∷ s) ≡ run (suc (lead y s)) y ∷ runs (drop (lead y s) s) → eqb y x ≡ true → runs (x ∷ y ∷ s) ≡ run (suc (lead x (y ∷ s))) x ∷ runs (drop (lead x (y ∷ s)) (y ∷ s))
    same i t =
        let e = eqb-true y x t in
        let u : eqb x y ≡ true = eq-eqb x y (sym e) in
        rw t (ap (grow x) i ∙ rw u (ap (λ (z : ℕ). run (suc (suc (lead z s))) x ∷ runs (drop (lead z s) s)) e))

    other : runs (y ∷ s) ≡ run (suc (lead y s)) y ∷ runs (drop (lead y s) s) → eqb y x ≡ false → runs (x ∷ y ∷ s) ≡ run (suc (lead x (y ∷ s))) x ∷ runs (drop (lead x (y ∷ s)) (y ∷ s))
    other i t =
        let u : eqb x y ≡ false = ne_eqb x y (λ e. eqb-false y x t (sym e)) in
        rw t (ap (grow x) i ∙ rw u (ap (λ (l : List Run). run 1 x ∷ l) (sym i)))

-- ---- What functions write

module _ (ns o : List ℕ) (w : NibbleWriter) (out : List ℕ) where
  pub digits-none : (k v : ℕ) → k ≡ 0 → Inked ns o w out → Inked (ns ++ digits k v) o w out
  unfolding digits
  digits-none k v e h = let z : ns ++ digits k v ≡ ns = ap (λ (n : ℕ). ns ++ digits n v) e ∙ append-nil ns in inked_as ns (ns ++ digits k v) o w out (sym z) h

  pub digits_more : (k v : ℕ) → (k ≡ 0 → ⊥) → Inked (ns ++ digits (k - 1) (v / 16) ++ (v % 16 ∷ [])) o w out → Inked (ns ++ digits k v) o w out
  unfolding digits
  digits_more zero v e h = absurd (e refl)
  digits_more (suc k) v e h =
      let z : suc k - 1 ≡ k = omega arith in
      inked_as _ (ns ++ digits (suc k) v) o w out (ap (λ (n : ℕ). ns ++ digits n (v / 16) ++ (v % 16 ∷ [])) z ∙ append_assoc ns (digits k (v / 16)) (v % 16 ∷ []) ∙ ap (λ (l : List ℕ). ns ++ l) (sym (step k v))) h
    where
      step : (k v : ℕ) → digits (suc k) v ≡ digits k (v / 16) ++ (v % 16 ∷ [])
      step k v = refl

-- ---- The codes of a row, run by run

nibbles-append : (a b : List Mark) → nibbles_of (a ++ b) ≡ nibbles_of a ++ nibbles_of b
unfolding nibbles_of
nibbles-append [] b = refl
nibbles-append (m ∷ a) b = ap (λ (l : List ℕ). digits m.size m.value ++ l) (nibbles-append a b) ∙ sym (append_assoc (digits m.size m.value) (nibbles_of a) (nibbles_of b))

lead-front : (x : ℕ) (s : List ℕ) → lead x (x ∷ s) ≡ suc (lead x s)
lead-front x s = lead-yes x x s refl

drop_all : (s : List ℕ) (n : ℕ) → length s ≤ n → drop n s ≡ []
drop_all [] zero h = refl
drop_all [] (suc n) h = refl
drop_all (x ∷ s) zero h = absurd (omega arith)
drop_all (x ∷ s) (suc n) h = drop_all s n (omega arith)

-- a run that reaches the row's end
pub row_last : (s : List ℕ) (n : ℕ) → 0 < length s → n ≡ lead (byte s 0) s → n ≡ length s → nibbles_of (row_marks last_marks s) ≡ digits 4 (byte s 0)
unfolding marks_of nibbles_of runs
row_last [] n h e l = absurd (omega arith)
row_last (x ∷ s) n h e l =
    let y = lead-front x s in
    let d : drop (lead x s) s ≡ [] = drop_all s (lead x s) (omega arith) in
    let r : runs (x ∷ s) ≡ run (suc (lead x s)) x ∷ [] = runs-front x s ∙ ap (λ (t : List ℕ). run (suc (lead x s)) x ∷ runs t) d in
    ap (λ (t : List Run). nibbles_of (marks_of last_marks t)) r ∙ append-nil (digits 4 x)

-- a run that does not
pub row_more : (s : List ℕ) (n : ℕ) → 0 < length s → n ≡ lead (byte s 0) s → n < length s → nibbles_of (row_marks last_marks s) ≡ nibbles_of (run_marks n (byte s 0)) ++ nibbles_of (row_marks last_marks (drop n s))
unfolding marks_of
row_more [] n h e l = absurd (omega arith)
row_more (x ∷ s) n h e l =
    let y = lead-front x s in
    let z : n ≡ suc (lead x s) = e ∙ y in
    go (drop (lead x s) s) refl z
  where
    go : (t : List ℕ) → drop (lead x s) s ≡ t → n ≡ suc (lead x s) → nibbles_of (row_marks last_marks (x ∷ s)) ≡ nibbles_of (run_marks n x) ++ nibbles_of (row_marks last_marks (drop n (x ∷ s)))
    go [] q z = let d = ap length q in let w = length-drop (lead x s) s in let y = lead-front x s in absurd (omega arith)
    go (v ∷ t) q z =
        let r = runs-front v t in
        let f : runs (x ∷ s) ≡ run (suc (lead x s)) x ∷ runs (v ∷ t) = runs-front x s ∙ ap (λ (u : List ℕ). run (suc (lead x s)) x ∷ runs u) q in
        let g : drop n (x ∷ s) ≡ v ∷ t = ap (λ (k : ℕ). drop k (x ∷ s)) z ∙ q in
        ap (λ (u : List Run). nibbles_of (marks_of last_marks u)) (f ∙ ap (λ (u : List Run). run (suc (lead x s)) x ∷ u) r)
        ∙ nibbles-append (run_marks (suc (lead x s)) x) (marks_of last_marks (run (suc (lead v t)) v ∷ runs (drop (lead v t) t)))
        ∙ ap (λ (k : ℕ). nibbles_of (run_marks k x) ++ nibbles_of (marks_of last_marks (run (suc (lead v t)) v ∷ runs (drop (lead v t) t)))) (sym z)
        ∙ ap (λ (u : List Run). nibbles_of (run_marks n x) ++ nibbles_of (marks_of last_marks u)) (sym r)
        ∙ ap (λ (u : List ℕ). nibbles_of (run_marks n x) ++ nibbles_of (row_marks last_marks u)) (sym g)

-- the rest of a row, as the code takes it
pub rest-is : (row : List ℕ) (col : ℕ) → take (length row - col) (drop col row) ≡ drop col row
rest-is row col = take_all (length row - col) (drop col row) (rw (length-drop col row) (omega arith))

pub rest-length : (row : List ℕ) (col : ℕ) → col ≤ length row → length (take (length row - col) (drop col row)) ≡ length row - col
rest-length row col h = ap length (rest-is row col) ∙ length-drop col row

-- a colour of the picture
pub four-byte : (px : List ℕ) (i : ℕ) → Four px → byte px i < 4
unfolding Four
four-byte [] i h = omega arith
four-byte (x ∷ px) zero h = h.0
four-byte (x ∷ px) (suc i) h = four-byte px i h.1

-- where writing a row stands: what is written, and what the rest of the row will add to it
pub record Rowing (row : List ℕ) (w₀ : NibbleWriter) (out₀ : List ℕ) (w : NibbleWriter) (out : List ℕ) (col : ℕ) : Type 0 where
  pub upto : col ≤ length row
  pub bound : w.pos + 4 * (length row - col) ≤ w₀.pos + 4 * length row
  pub goes : (ns o : List ℕ) → Inked ns o w₀ out₀ → (done : List ℕ) × Inked done o w out × (done ++ nibbles_of (row_marks last_marks (drop col row)) ≡ ns ++ nibbles_of (row_marks last_marks row))

module _ (row : List ℕ) (w₀ : NibbleWriter) (out₀ : List ℕ) (w : NibbleWriter) (out : List ℕ) (col : ℕ) (j : Rowing row w₀ out₀ w out col) where
  pub rowing-none : length row ≤ col → (ns o : List ℕ) → Inked ns o w₀ out₀ → Inked (ns ++ nibbles_of (row_marks last_marks row)) o w out
  unfolding marks_of nibbles_of runs
  rowing-none h ns o i =
      let g = j.goes ns o i in
      let d = drop_all row col h in
      inked_as g.0 (ns ++ nibbles_of (row_marks last_marks row)) o w out (sym (append-nil g.0) ∙ ap (λ (s : List ℕ). g.0 ++ nibbles_of (row_marks last_marks s)) (sym d) ∙ g.2) g.1

  module _ (h : col < length row) (n : ℕ) (e : n ≡ lead (byte (drop col row) 0) (drop col row)) where
    first : byte (drop col row) 0 ≡ byte row col
    first = let z : col + 0 ≡ col = omega arith in get_or-drop col row 0 0 ∙ ap (byte row) z

    rest_some : 0 < length (drop col row)
    rest_some = rw (length-drop col row) (omega arith)

    pub rowing_ends : n ≡ length row - col → (r : NibbleWriter) (out' : List ℕ)
        → ((ns o : List ℕ) → Inked ns o w out → Inked (ns ++ digits 4 (byte row col)) o r out')
        → (ns o : List ℕ) → Inked ns o w₀ out₀ → Inked (ns ++ nibbles_of (row_marks last_marks row)) o r out'
    rowing_ends q r out' f ns o i =
        let g = j.goes ns o i in
        let l : n ≡ length (drop col row) = q ∙ sym (length-drop col row) in
        let k = row_last (drop col row) n rest_some e l ∙ ap (digits 4) first in
        inked_as (g.0 ++ digits 4 (byte row col)) (ns ++ nibbles_of (row_marks last_marks row)) o r out' (ap (λ (s : List ℕ). g.0 ++ s) (sym k) ∙ g.2) (f g.0 o g.1)

    pub rowing_goes : n < length row - col → (r : NibbleWriter) (out' : List ℕ) → r.pos ≤ w.pos + 4 * n
        → ((ns o : List ℕ) → Inked ns o w out → Inked (ns ++ nibbles_of (run_marks n (byte row col))) o r out')
        → Rowing row w₀ out₀ r out' (col + n)
    rowing_goes q r out' p f =
        let b = j.bound in
        let l : n < length (drop col row) = rw (length-drop col row) q in
        let k = row_more (drop col row) n rest_some e l in
        let d : drop n (drop col row) ≡ drop (col + n) row = drop-drop n col row in
        record {
          upto = omega arith;
          bound = omega arith;
          goes = λ ns o i.
              let g = j.goes ns o i in (
                g.0 ++ nibbles_of (run_marks n (byte row col)),
                f g.0 o g.1,
                append_assoc g.0 (nibbles_of (run_marks n (byte row col))) (nibbles_of (row_marks last_marks (drop (col + n) row)))
                    ∙ ap (λ (t : List ℕ). g.0 ++ t) (ap (λ (x : ℕ). nibbles_of (run_marks n x) ++ nibbles_of (row_marks last_marks (drop (col + n) row))) (sym first) ∙ ap (λ (t : List ℕ). nibbles_of (run_marks n (byte (drop col row) 0)) ++ nibbles_of (row_marks last_marks t)) (sym d) ∙ sym k)
                    ∙ g.2,
              );
        }
