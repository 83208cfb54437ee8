-- The arms of `count_at`, `signed_at` and `field_at`, over plain variables. Assumes nothing.
use Prim.Native.Nat.{ℕ, zero, suc, ◌+◌, ◌-◌, ◌^◌, ◌≤◌, ◌<◌}
use mathlib.Core.Path.{◌≡◌, refl, sym, ap, ◌∙◌, subst}
use mathlib.Core.Bool.{Bool, true, false, not, cond}
use mathlib.Core.Logic.{⊎_elim}
use Rattle.std.specs.Prelude.{Option, Some as some, None as none}
use mathlib.Core.List.{List, [], ◌∷◌}
use native.Mathlib.Omega.{arith}
use native.Mathlib.Numerals.{add-one}
use lib.ListN.{length, get_or, take, drop, drop_of_length-le, length-drop}
use lib.Seq.{drop-cons, take_all, get_or-drop}
use lib.Dec.{eqb}
use lib.IntN.{ℤ, pos, neg_ℤ}
use mir.Syntax.{w64}
use mir.Val.{SFits, to_z, of_z}
use mir.Facts.{to_z-of_z, to_z_pos}
use borrow.Author.Tests.{eqb-true, ne_eqb, le-leb, lt-leb, le-ltb}
use Rattle.grammar.specs.IndexNumbers.{is_digit, numeral, digit}
use Rattle.grammar.specs.IndexParts.{unlike, colon}
use Rattle.idx_numbers_model.specs.Answers.{run, run_of}
use Rattle.idx_numbers_model.specs.Numbers.{digits, unsigned, sign, signed}
use Rattle.idx_numbers_model.specs.Parts.{front, part, split, all}
use Rattle.idx_lines_model.specs.Answers.{fields_from, head_field, later, FieldAt, field_is, counted, counted_in, EndOf, CountedAt}
use Rattle.outcome.proofs.Laws.{le_or_lt}
use Rattle.idx_numbers_model.proofs.Grammar.{never, digits-is}
use Rattle.idx_numbers_model.proofs.Numbers.{RunSays, run-says, run-past-top, digits-over, digits-none, digits-short, digits-whole, ten_low}
use Rattle.idx_numbers_model.proofs.Steps.{last-part, next-part, part-is, other-false}
use Rattle.idx_numbers_model.proofs.Loops.{front-le}
use Rattle.idx_numbers_model.specs.declared.Digits.{Digits}
use Rattle.idx_lines_model.specs.declared.Counted.{Counted}

-- ---- the front of a front
front-front : (p q : ℕ → Bool) → ((b : ℕ) → p b ≡ true → q b ≡ true) → (s : List ℕ) → front p (front q s) ≡ front p s
unfolding front
front-front p q h [] = refl
front-front p q h (b ∷ s) = go (front-front p q h s) (p b) refl (q b) refl
  where
    go : front p (front q s) ≡ front p s → (t : Bool) → p b ≡ t → (u : Bool) → q b ≡ u → front p (cond u (b ∷ front q s) []) ≡ cond t (b ∷ front p s) []
    go ih true e true f = rw e (ap (λ (l : List ℕ). b ∷ l) ih)
    go ih true e false f = let z : true ≡ false = sym (h b e) ∙ f in never (cc)
    go ih false e true f = rw e
    go ih false e false f = refl

front-in : (p : ℕ → Bool) (s : List ℕ) (k : ℕ) → k < length (front p s) → p (get_or s k 0) ≡ true
unfolding front
front-in p [] k h = absurd (omega arith)
front-in p (b ∷ s) k h = go (front-in p s) (p b) refl k h
  where
    go : ((m : ℕ) → m < length (front p s) → p (get_or s m 0) ≡ true) → (t : Bool) → p b ≡ t → (m : ℕ) → m < length (cond t (b ∷ front p s) []) → p (get_or (b ∷ s) m 0) ≡ true
    go ih true e zero l = e
    go ih true e (suc m) l = ih m (omega arith)
    go ih false e m l = absurd (omega arith)

front-end : (p : ℕ → Bool) (s : List ℕ) → length (front p s) < length s → p (get_or s (length (front p s)) 0) ≡ false
unfolding front
front-end p [] h = absurd (omega arith)
front-end p (b ∷ s) h = go (front-end p s) (p b) refl h
  where
    go : (length (front p s) < length s → p (get_or s (length (front p s)) 0) ≡ false) → (t : Bool) → p b ≡ t
        → length (cond t (b ∷ front p s) []) < suc (length s) → p (get_or (b ∷ s) (length (cond t (b ∷ front p s) [])) 0) ≡ false
    go ih true e l = ih (omega arith)
    go ih false e l = e

digit-apart : (b : ℕ) → is_digit 10 b ≡ true → unlike colon b ≡ true
digit-apart b e = go (eqb b colon) refl
  where
    go : (t : Bool) → eqb b colon ≡ t → not t ≡ true
    go true q = let z : is_digit 10 colon ≡ true = rw (eqb-true b colon q) at e in never (cc)
    go false q = refl

-- ---- digits up to a colon
module _ (s : List ℕ) (i top : ℕ) (inside : i ≤ length s) (r : Option Digits) (read : r ≡ run_of 10 top (take (length s - i) (drop i s))) where
  field : List ℕ
  field = front (unlike colon) (drop i s)

  read' : r ≡ run_of 10 top (drop i s)
  read' = rw (take_all (length s - i) (drop i s) (rw (length-drop i s) (omega arith))) at read

  same-run : front (is_digit 10) field ≡ front (is_digit 10) (drop i s)
  unfolding field
  same-run = front-front (is_digit 10) (unlike colon) digit-apart (drop i s)

  pub count_over : r ≡ none → CountedAt s i top none
  unfolding field
  count_over e = record { says = digits-over 10 top (omega arith) field (rw same-run (run-past-top 10 top (drop i s) r read' e)); end = tt }

  module _ (n v : ℕ) (e : r ≡ some (run n v)) where
    says : RunSays 10 top (drop i s) n v
    says = run-says 10 top (drop i s) r read' n v e

    count : n ≡ length (front (is_digit 10) field)
    count = says.count ∙ ap length (sym same-run)

    shorter : n ≤ length field
    shorter = omega (arith, count, front-le (is_digit 10) field)

    pub run_inside : i + n ≤ length s
    run_inside = omega (arith, says.count, front-le (is_digit 10) (drop i s), length-drop i s)

    pub count_none : n ≡ 0 → CountedAt s i top none
    unfolding field
    count_none z = record { says = digits-none 10 top (omega arith) field (sym count ∙ z); end = tt }

    whole : length field ≤ n → (n ≡ 0 → ⊥) → CountedAt s i top (some (counted v (i + n)))
    unfolding field
    whole l z =
        let w : RunSays 10 top field n v = record { count = count; number = says.number ∙ ap (numeral 10 0) (sym same-run); within = says.within } in
        let q : n ≡ length field = omega (arith, shorter) in
        record { says = digits-whole 10 top (omega arith) field n v w z l; end = ap (λ (k : ℕ). i + k) q }

    pub count_end : (n ≡ 0 → ⊥) → length s ≤ i + n → CountedAt s i top (some (counted v (i + n)))
    unfolding field
    count_end z l = whole (omega (arith, front-le (unlike colon) (drop i s), length-drop i s)) z

    pub count-colon : (n ≡ 0 → ⊥) → get_or s (i + n) 0 ≡ colon → CountedAt s i top (some (counted v (i + n)))
    unfolding field
    count-colon z c = ⊎_elim (λ l. whole l z) (λ l. absurd (wrong l)) (le_or_lt (length field) n)
      where
        wrong : n < length field → ⊥
        wrong l =
            let a : unlike colon (get_or (drop i s) n 0) ≡ true = front-in (unlike colon) (drop i s) n l in
            let b : get_or (drop i s) n 0 ≡ colon = get_or-drop i s n 0 ∙ c in
            let d : unlike colon colon ≡ true = rw b at a in
            never (cc)

    pub count_other : i + n < length s → (get_or s (i + n) 0 ≡ colon → ⊥) → CountedAt s i top none
    unfolding field
    count_other h c = record { says = digits-short 10 top (omega arith) field (⊎_elim (λ l. absurd (wrong l)) (λ l. omega (arith, count)) (le_or_lt (length field) n)); end = tt }
      where
        wrong : length field ≤ n → ⊥
        wrong l =
            let q : length field ≡ n = omega (arith, shorter) in
            let k : length (front (unlike colon) (drop i s)) < length (drop i s) = omega (arith, q, length-drop i s) in
            let a : unlike colon (get_or (drop i s) n 0) ≡ false = rw q at (front-end (unlike colon) (drop i s) k) in
            c (sym (get_or-drop i s n 0) ∙ other-false colon (get_or (drop i s) n 0) a)

-- what fits is read back from its bits as it is
neg_fits : (v : ℕ) → v ≤ 2 ^ 63 → SFits w64 (neg_ℤ (pos v))
neg_fits zero h = record { sfits = omega arith }
neg_fits (suc v) h = record { sfits = omega arith }

-- ---- a field
module _ (s : List ℕ) (i : ℕ) where
  module _ (inside : i ≤ length s) where
    n : ℕ
    n = length (front (unlike colon) (take (length s - i) (drop i s)))

    left : take (length s - i) (drop i s) ≡ drop i s
    left = take_all (length s - i) (drop i s) (rw (length-drop i s) (omega arith))

    long : n ≡ length (front (unlike colon) (drop i s))
    unfolding n
    long = ap (λ (l : List ℕ). length (front (unlike colon) l)) left

    step : (p : ℕ) → fields_from p i s ≡ part (p + i) (front (unlike colon) (drop i s)) ∷ fields_from p (i + n + 1) s
    unfolding n
    step p =
        ⊎_elim
        (λ h. rw (le-leb i (length s) inside, lt-leb (i + n + 1) (length s) (omega arith)) (last-part colon s i n inside refl (p + i) h ∙ ap (λ (l : List ℕ). part (p + i) l ∷ []) (part-is colon s i n inside refl)))
        (λ h. rw (le-leb i (length s) inside, le-leb (i + n + 1) (length s) (omega arith)) (next-part colon s i n inside refl p h ∙ ap (λ (l : List ℕ). part (p + i) l ∷ split colon (p + (i + n + 1)) (drop (i + n + 1) s)) (part-is colon s i n inside refl)))
        (le_or_lt (length s) (i + n))

    pub field-bad : none ≡ signed (front (unlike colon) (drop i s)) → FieldAt s i none
    field-bad e = record { says = λ p. e ∙ sym (ap head_field (step p)); next = tt }

    pub field-good : (z : ℤ) (e : ℕ) → some z ≡ signed (front (unlike colon) (drop i s)) → e ≡ i + length (front (unlike colon) (drop i s)) → FieldAt s i (some (field_is z (e + 1)))
    field-good z e f g = record {
      says = λ p. f ∙ sym (ap head_field (step p));
      next = λ p. let q : e + 1 ≡ i + n + 1 = omega (arith, g, long) in rw q (sym (ap later (step p)));
    }

  pub field-empty : i ≡ length s → FieldAt s i none
  unfolding front signed
  field-empty e = let h : length s ≤ i = omega arith in field-bad (omega arith) (rw (drop_of_length-le s h))

-- what a count says
module _ (s : List ℕ) (j top : ℕ) (r : Option Counted) (told : CountedAt s j top r) where
  counted_none : r ≡ none → none ≡ digits 10 top (front (unlike colon) (drop j s))
  counted_none e = sym (ap counted_in e) ∙ told.says

  counted-some : (v d : ℕ) → r ≡ some (counted v d) → some v ≡ digits 10 top (front (unlike colon) (drop j s))
  counted-some v d e = sym (ap counted_in e) ∙ told.says

  pub counted-end : (v d : ℕ) → r ≡ some (counted v d) → d ≡ j + length (front (unlike colon) (drop j s))
  counted-end v d e = subst (EndOf s j) e told.end

  pub counted-most : (v d : ℕ) → r ≡ some (counted v d) → v ≤ top
  counted-most v d e = (digits-is 10 top (front (unlike colon) (drop j s)) v (sym (counted-some v d e))).within

  pub counted_in_lem : (v d : ℕ) → r ≡ some (counted v d) → j ≤ length s → d ≤ length s
  counted_in_lem v d e h = omega (arith, counted-end v d e, front-le (unlike colon) (drop j s), length-drop j s)

-- ---- the sign of a field
front-cons : (b : ℕ) (l : List ℕ) → (b ≡ colon → ⊥) → front (unlike colon) (b ∷ l) ≡ b ∷ front (unlike colon) l
unfolding front
front-cons b l n = rw (ne_eqb b colon n)

module _ (s : List ℕ) (i : ℕ) (inside : i < length s) where
  cut : (get_or s i 0 ≡ colon → ⊥) → front (unlike colon) (drop i s) ≡ get_or s i 0 ∷ front (unlike colon) (drop (i + 1) s)
  cut h = rw (drop-cons s i 0 inside, add-one i) (front-cons (get_or s i 0) (drop (suc i) s) h)

  signs : (x : ℕ) → get_or s i 0 ≡ x → (x ≡ colon → ⊥) → front (unlike colon) (drop i s) ≡ x ∷ front (unlike colon) (drop (i + 1) s)
  signs x e h = cut (λ q. h (sym e ∙ q)) ∙ ap (λ (b : ℕ). b ∷ front (unlike colon) (drop (i + 1) s)) e

  long-sign : (x : ℕ) → get_or s i 0 ≡ x → (x ≡ colon → ⊥) → i + 1 + length (front (unlike colon) (drop (i + 1) s)) ≡ i + length (front (unlike colon) (drop i s))
  long-sign x e h = let q = ap length (signs x e h) in omega (arith, q)

  -- with a sign, the digits follow it
  module _ (r : Option Counted) (top : ℕ) (told : CountedAt s (i + 1) top r) where
    pub minus_bad : top ≡ 2 ^ 63 → get_or s i 0 ≡ 45 → r ≡ none → FieldAt s i none
    unfolding signed
    minus_bad t e f = let w = rw t at (counted_none s (i + 1) top r told f) in field-bad s i (omega arith) (rw (signs 45 e (λ q. omega arith), ← w))

    pub minus_good : top ≡ 2 ^ 63 → get_or s i 0 ≡ 45 → (v d : ℕ) → r ≡ some (counted v d) → (z : ℤ) → z ≡ neg_ℤ (pos v) → FieldAt s i (some (field_is (to_z w64 (of_z w64 z)) (d + 1)))
    unfolding signed
    minus_good t e v d f z g =
        let w = rw t at (counted-some s (i + 1) top r told v d f) in
        let l : v ≤ 2 ^ 63 = rw t at (counted-most s (i + 1) top r told v d f) in
        let y : to_z w64 (of_z w64 z) ≡ neg_ℤ (pos v) = ap (λ (x : ℤ). to_z w64 (of_z w64 x)) g ∙ to_z-of_z {w = w64} (neg_fits v l) in
        field-good s i (omega arith) (to_z w64 (of_z w64 z)) d (rw (signs 45 e (λ q. omega arith), ← w, y)) (counted-end s (i + 1) top r told v d f ∙ long-sign 45 e (λ q. omega arith))

    pub plus-bad : top ≡ 2 ^ 63 - 1 → get_or s i 0 ≡ 43 → r ≡ none → FieldAt s i none
    unfolding signed unsigned
    plus-bad t e f = let w = rw t at (counted_none s (i + 1) top r told f) in field-bad s i (omega arith) (rw (signs 43 e (λ q. omega arith), ← w))

    pub plus-good : top ≡ 2 ^ 63 - 1 → get_or s i 0 ≡ 43 → (v d : ℕ) → r ≡ some (counted v d) → FieldAt s i (some (field_is (to_z w64 v) (d + 1)))
    unfolding signed unsigned
    plus-good t e v d f =
        let w = rw t at (counted-some s (i + 1) top r told v d f) in
        let l : v ≤ 2 ^ 63 - 1 = rw t at (counted-most s (i + 1) top r told v d f) in
        let y : to_z w64 v ≡ pos v = to_z_pos w64 (omega arith) in
        field-good s i (omega arith) (to_z w64 v) d (rw (signs 43 e (λ q. omega arith), ← w, y)) (counted-end s (i + 1) top r told v d f ∙ long-sign 43 e (λ q. omega arith))

  -- without one, they start the field
  module _ (no_minus : get_or s i 0 ≡ 45 → ⊥) (no_plus : get_or s i 0 ≡ 43 → ⊥) (r : Option Counted) (top : ℕ) (told : CountedAt s i top r) where
    plain : signed (front (unlike colon) (drop i s)) ≡ sign pos (digits 10 (2 ^ 63 - 1) (front (unlike colon) (drop i s)))
    unfolding signed unsigned front
    plain = rw (drop-cons s i 0 inside) (go (unlike colon (get_or s i 0)))
      where
        go : (t : Bool) → signed (cond t (get_or s i 0 ∷ front (unlike colon) (drop (suc i) s)) []) ≡ sign pos (digits 10 (2 ^ 63 - 1) (cond t (get_or s i 0 ∷ front (unlike colon) (drop (suc i) s)) []))
        go true = rw (ne_eqb (get_or s i 0) 45 no_minus, ne_eqb (get_or s i 0) 43 no_plus)
        go false = refl

    pub plain_bad : top ≡ 2 ^ 63 - 1 → r ≡ none → FieldAt s i none
    plain_bad t f = let w = rw t at (counted_none s i top r told f) in field-bad s i (omega arith) (rw (plain, ← w))

    pub plain_good : top ≡ 2 ^ 63 - 1 → (v d : ℕ) → r ≡ some (counted v d) → FieldAt s i (some (field_is (to_z w64 v) (d + 1)))
    plain_good t v d f =
        let w = rw t at (counted-some s i top r told v d f) in
        let l : v ≤ 2 ^ 63 - 1 = rw t at (counted-most s i top r told v d f) in
        let y : to_z w64 v ≡ pos v = to_z_pos w64 (omega arith) in
        field-good s i (omega arith) (to_z w64 v) d (rw (plain, ← w, y)) (counted-end s i top r told v d f)

  -- a byte below the digits that is no sign starts no number
  pub below_bad : get_or s i 0 < 48 → (get_or s i 0 ≡ 45 → ⊥) → (get_or s i 0 ≡ 43 → ⊥) → FieldAt s i none
  unfolding signed unsigned all
  below_bad h no_minus no_plus =
      field-bad s i (omega arith)
      (rw (cut (λ e. omega arith), ne_eqb (get_or s i 0) 45 no_minus, ne_eqb (get_or s i 0) 43 no_plus) none-there)
    where
      none-there : none ≡ sign pos (digits 10 (2 ^ 63 - 1) (get_or s i 0 ∷ front (unlike colon) (drop (i + 1) s)))
      none-there = let q : is_digit 10 (get_or s i 0) ≡ false = le-ltb (digit (get_or s i 0)) 10 (ten_low (get_or s i 0) h) in rw q
