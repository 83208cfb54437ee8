-- The turns of the number readers. Assumes nothing.
use Prim.Native.Nat.{ℕ, suc, ◌+◌, ◌-◌, ◌*◌, ◌≤◌, ◌<◌}
use mathlib.Core.Path.{◌≡◌, refl, sym, ap, ◌∙◌}
use mathlib.Core.Logic.{◌⊎◌, inl, inr}
use mathlib.Core.Bool.{Bool, true, false, cond, ◌&&◌, ◌||◌}
use Rattle.std.specs.Prelude.{Option, Some as some, None as none}
use mathlib.Core.List.{List, [], ◌∷◌}
use native.Mathlib.Omega.{arith}
use native.Mathlib.Numerals.{add-one}
use native.Mathlib.Nat.{le-mul_of_pos_right, mul-le-mul_right, suc-mul, add-zero, zero-add}
use lib.ListN.{length, get_or, take, drop, drop_of_length-le}
use lib.Seq.{drop-cons, take_all}
use lib.Dec.{leb, ltb, eqb}
use lib.Pointwise.{pointwise}
use borrow.Author.Tests.{lt-leb, le-leb, leb-true, leb-false, eq-eqb, ne_eqb, eqb-true, eqb-false, lt-ltb, le-ltb, ltb-true, ltb-false}
use Rattle.grammar.specs.IndexNumbers.{digit, is_digit, numeral}
use Rattle.idx_numbers_model.specs.Answers.{fitting, run, run_after, run_of}
use Rattle.idx_numbers_model.specs.Numbers.{digits, unsigned, bare}
use Rattle.idx_numbers_model.specs.Parts.{front, all}
use Rattle.idx_numbers_model.proofs.Grammar.{never}
use Rattle.idx_numbers_model.specs.declared.Digits.{Digits}

le_or_lt : (a b : ℕ) → (a ≤ b) ⊎ (b < a)
le_or_lt a b = go (leb a b) refl
  where
    go : (t : Bool) → leb a b ≡ t → (a ≤ b) ⊎ (b < a)
    go true e = inl (leb-true a b e)
    go false e = inr (leb-false a b e)

-- ---- a digit
module _ (b : ℕ) where
  pub digit-1 : b < 48 → 16 ≡ digit b
  digit-1 h = rw (lt-leb 48 b h, lt-leb 97 b (omega arith), lt-leb 65 b (omega arith))

  -- it is none of base 10
  pub ten_low : b < 48 → 10 ≤ digit b
  ten_low h = let e : digit b ≡ 16 = sym (digit-1 h) in rw e (omega arith)

-- ---- the digits at the front: what is left gives the whole, over base and bound
module _ (base top : ℕ) (pos_base : 0 < base) where
  grows : (s : List ℕ) (acc : ℕ) → acc ≤ numeral base acc s
  unfolding numeral
  grows [] acc = omega arith
  grows (b ∷ s) acc = omega (arith, le-mul_of_pos_right {m = base} acc pos_base, grows s (acc * base + digit b))

  run-nil : (n acc : ℕ) → acc ≤ top → run_after base top n acc [] ≡ some (run n acc)
  unfolding run_after front numeral
  run-nil n acc h = rw (le-leb acc top h, add-zero n)

  run-halt : (n acc b : ℕ) (s : List ℕ) → acc ≤ top → base ≤ digit b → run_after base top n acc (b ∷ s) ≡ some (run n acc)
  unfolding run_after front numeral
  run-halt n acc b s h l = rw (le-ltb (digit b) base l, le-leb acc top h, add-zero n)

  run_past : (n acc b : ℕ) (s : List ℕ) → digit b < base → top < acc * base + digit b → run_after base top n acc (b ∷ s) ≡ none
  unfolding run_after front numeral
  run_past n acc b s l h =
      let g : top < numeral base (acc * base + digit b) (front (is_digit base) s) = omega (arith, grows (front (is_digit base) s) (acc * base + digit b)) in
      rw (lt-ltb (digit b) base l, lt-leb (numeral base (acc * base + digit b) (front (is_digit base) s)) top g)

  run-next : (n acc b : ℕ) (s : List ℕ) → digit b < base → run_after base top n acc (b ∷ s) ≡ run_after base top (n + 1) (acc * base + digit b) s
  unfolding run_after front numeral
  run-next n acc b s l =
      let q : (k : ℕ) → n + suc k ≡ n + 1 + k = λ k. omega arith in
      rw (lt-ltb (digit b) base l, q (length (front (is_digit base) s)))

  module _ (s : List ℕ) (acc i d : ℕ) (o : Option Digits) (inv : o ≡ run_after base top i acc (drop i s)) (is : d ≡ digit (get_or s i 0)) (h : i < length s) where
    here : o ≡ run_after base top i acc (get_or s i 0 ∷ drop (suc i) s)
    here = inv ∙ rw (drop-cons s i 0 h)

    pub run-stop : acc ≤ top → base ≤ d → some (run i acc) ≡ o
    run-stop k l = sym (here ∙ run-halt i acc (get_or s i 0) (drop (suc i) s) k (rw is at l))

    pub run-over : d < base → top < acc * base + d → none ≡ o
    run-over l k = sym (here ∙ run_past i acc (get_or s i 0) (drop (suc i) s) (rw is at l) (rw is at k))

    pub run_more : d < base → o ≡ run_after base top (i + 1) (acc * base + d) (drop (i + 1) s)
    run_more l = here ∙ run-next i acc (get_or s i 0) (drop (suc i) s) (rw is at l) ∙ rw (add-one i, is)

  pub run_end : (s : List ℕ) (acc i : ℕ) (o : Option Digits) → o ≡ run_after base top i acc (drop i s) → acc ≤ top → length s ≤ i → some (run i acc) ≡ o
  run_end s acc i o e h l = sym (e ∙ rw (drop_of_length-le s l) (run-nil i acc h))

-- quotient and remainder tell whether there is room
module _ (base most last acc d : ℕ) (small : d < base) (less : last < base) where
  pub room-yes : fitting acc d most last ≡ true → acc * base + d ≤ most * base + last
  room-yes e = go (ltb acc most) refl (eqb acc most) refl (leb d last) refl e
    where
      go : (t : Bool) → ltb acc most ≡ t → (u : Bool) → eqb acc most ≡ u → (v : Bool) → leb d last ≡ v → t || (u && v) ≡ true → acc * base + d ≤ most * base + last
      go true p u q v r e =
          let m : suc acc * base ≤ most * base = mul-le-mul_right base (ltb-true acc most p) in
          let n : suc acc * base ≡ acc * base + base = suc-mul acc base in
          omega arith
      go false p true q true r e =
          let m : acc * base ≡ most * base = ap (λ (n : ℕ). n * base) (eqb-true acc most q) in
          omega (arith, leb-true d last r)
      go false p true q false r e = never (cc)
      go false p false q v r e = never (cc)

  pub room_no : fitting acc d most last ≡ false → most * base + last < acc * base + d
  room_no e = go (ltb acc most) refl (eqb acc most) refl (leb d last) refl e
    where
      go : (t : Bool) → ltb acc most ≡ t → (u : Bool) → eqb acc most ≡ u → (v : Bool) → leb d last ≡ v → t || (u && v) ≡ false → most * base + last < acc * base + d
      go true p u q v r e = never (cc)
      go false p true q true r e = never (cc)
      go false p true q false r e =
          let m : acc * base ≡ most * base = ap (λ (n : ℕ). n * base) (eqb-true acc most q) in
          omega (arith, leb-false d last r)
      go false p false q v r e =
          let a : most ≤ acc = ltb-false acc most p in
          let b : (acc ≡ most → ⊥) = eqb-false acc most q in
          let c : suc most ≤ acc = omega arith in
          let m : suc most * base ≤ acc * base = mul-le-mul_right base c in
          let n : suc most * base ≡ most * base + base = suc-mul most base in
          omega arith

-- ---- digits and nothing else
module _ (acc d most last : ℕ) where
  pub fit-less : acc < most → true ≡ fitting acc d most last
  fit-less h = rw (lt-ltb acc most h)

  pub fit_more : most < acc → false ≡ fitting acc d most last
  fit_more h = rw (le-ltb acc most (omega arith), ne_eqb acc most (λ e. omega arith))

  pub fit_equal : most ≤ acc → acc ≤ most → leb d last ≡ fitting acc d most last
  fit_equal h l = rw (le-ltb acc most h, eq-eqb acc most (omega arith))

abbrev told : Option Digits → Digits
told none = run 0 0
told (some d) = d

-- what a run says of the digits at the front
pub record RunSays (base top : ℕ) (s : List ℕ) (n v : ℕ) : Type 0 where
  pub count : n ≡ length (front (is_digit base) s)
  pub number : v ≡ numeral base 0 (front (is_digit base) s)
  pub within : v ≤ top

module _ (base top : ℕ) (s : List ℕ) (r : Option Digits) (read : r ≡ run_of base top s) where
  pub run-says : (n v : ℕ) → r ≡ some (run n v) → RunSays base top s n v
  unfolding run_after
  run-says n v e = go (leb (numeral base 0 (front (is_digit base) s)) top) refl (sym e ∙ read)
    where
      go : (t : Bool) → leb (numeral base 0 (front (is_digit base) s)) top ≡ t
          → some (run n v) ≡ cond t (some (run (0 + length (front (is_digit base) s)) (numeral base 0 (front (is_digit base) s)))) none → RunSays base top s n v
      go true q f =
          let a : n ≡ 0 + length (front (is_digit base) s) = ap (λ o. (told o).count) f in
          let b : v ≡ numeral base 0 (front (is_digit base) s) = ap (λ o. (told o).value) f in
          record { count = a ∙ zero-add (length (front (is_digit base) s)); number = b; within = rw b (leb-true (numeral base 0 (front (is_digit base) s)) top q) }
      go false q f = never (cc)

  pub run-past-top : r ≡ none → top < numeral base 0 (front (is_digit base) s)
  unfolding run_after
  run-past-top e = go (leb (numeral base 0 (front (is_digit base) s)) top) refl (sym e ∙ read)
    where
      go : (t : Bool) → leb (numeral base 0 (front (is_digit base) s)) top ≡ t
          → none ≡ cond t (some (run (0 + length (front (is_digit base) s)) (numeral base 0 (front (is_digit base) s)))) none → top < numeral base 0 (front (is_digit base) s)
      go true q f = never (cc)
      go false q f = leb-false (numeral base 0 (front (is_digit base) s)) top q

-- where not every byte passes, the front is shorter
all_short : (p : ℕ → Bool) (s : List ℕ) → length (front p s) < length s → all p s ≡ false
unfolding all front
all_short p [] h = absurd (omega arith)
all_short p (b ∷ s) h = go (all_short p s) (p b) h
  where
    go : (length (front p s) < length s → all p s ≡ false) → (t : Bool) → length (cond t (b ∷ front p s) []) < suc (length s) → t && all p s ≡ false
    go ih true l = ih (omega arith)
    go ih false l = refl

all_whole : (p : ℕ → Bool) (s : List ℕ) → length s ≤ length (front p s) → (all p s ≡ true) × (front p s ≡ s)
unfolding all front
all_whole p [] h = (refl, refl)
all_whole p (b ∷ s) h = go (all_whole p s) (p b) h
  where
    go : (length s ≤ length (front p s) → (all p s ≡ true) × (front p s ≡ s)) → (t : Bool) → suc (length s) ≤ length (cond t (b ∷ front p s) [])
        → (t && all p s ≡ true) × (cond t (b ∷ front p s) [] ≡ b ∷ s)
    go ih true l = let w = ih (omega arith) in (w.0, ap (λ (m : List ℕ). b ∷ m) w.1)
    go ih false l = absurd (omega arith)

-- the number of what is in front is at most that of the whole
front-most : (base : ℕ) → 0 < base → (p : ℕ → Bool) (s : List ℕ) (acc : ℕ) → numeral base acc (front p s) ≤ numeral base acc s
unfolding numeral front
front-most base h p [] acc = omega arith
front-most base h p (b ∷ s) acc = go (front-most base h p s (acc * base + digit b)) (p b)
  where
    go : numeral base (acc * base + digit b) (front p s) ≤ numeral base (acc * base + digit b) s → (t : Bool)
        → numeral base acc (cond t (b ∷ front p s) []) ≤ numeral base (acc * base + digit b) s
    go ih true = ih
    go ih false = omega (arith, le-mul_of_pos_right {m = base} acc h, grows base 0 h s (acc * base + digit b))

module _ (base top : ℕ) (pos_base : 0 < base) (s : List ℕ) where
  pub digits-over : top < numeral base 0 (front (is_digit base) s) → none ≡ digits base top s
  unfolding front numeral
  digits-over = go s
    where
      go : (l : List ℕ) → top < numeral base 0 (front (is_digit base) l) → none ≡ digits base top l
      go [] h = refl
      go (b ∷ l) h =
          let g : top < numeral base 0 (b ∷ l) = omega (arith, front-most base pos_base (is_digit base) (b ∷ l) 0) in
          rw (lt-leb (numeral base 0 (b ∷ l)) top g) (bad (all (is_digit base) (b ∷ l)) (numeral base 0 (b ∷ l)))
        where
          bad : (t : Bool) (v : ℕ) → none ≡ cond (t && false) (some v) none
          bad true v = refl
          bad false v = refl

  pub digits-none : length (front (is_digit base) s) ≡ 0 → none ≡ digits base top s
  digits-none = go s
    where
      go : (l : List ℕ) → length (front (is_digit base) l) ≡ 0 → none ≡ digits base top l
      go [] h = refl
      go (b ∷ l) h = rw (all_short (is_digit base) (b ∷ l) (omega arith))

  pub digits-short : length (front (is_digit base) s) < length s → none ≡ digits base top s
  digits-short = go s
    where
      go : (l : List ℕ) → length (front (is_digit base) l) < length l → none ≡ digits base top l
      go [] h = refl
      go (b ∷ l) h = rw (all_short (is_digit base) (b ∷ l) h)

  pub digits-whole : (n v : ℕ) → RunSays base top s n v → (n ≡ 0 → ⊥) → length s ≤ n → some v ≡ digits base top s
  unfolding front
  digits-whole n v h p l = go s h l
    where
      go : (x : List ℕ) → RunSays base top x n v → length x ≤ n → some v ≡ digits base top x
      go [] k m = absurd (p k.count)
      go (b ∷ x) k m =
          let w = all_whole (is_digit base) (b ∷ x) (omega (arith, k.count)) in
          let q : v ≡ numeral base 0 (b ∷ x) = k.number ∙ ap (numeral base 0) w.1 in
          let t : numeral base 0 (b ∷ x) ≤ top = omega (arith, q, k.within) in
          rw (w.0, le-leb (numeral base 0 (b ∷ x)) top t) (ap some q)

-- ---- a sign
module _ (base top : ℕ) (s : List ℕ) where
  pub unsigned-none : length s ≤ 0 → none ≡ unsigned base top s
  unfolding unsigned
  unsigned-none h = go s h
    where
      go : (l : List ℕ) → length l ≤ 0 → none ≡ unsigned base top l
      go [] h = refl
      go (b ∷ l) h = absurd (omega arith)

  pub unsigned-plus : 0 < length s → get_or s 0 0 ≡ 43 → digits base top (take (length s - 1) (drop 1 s)) ≡ unsigned base top s
  unfolding unsigned
  unsigned-plus = go s
    where
      go : (l : List ℕ) → 0 < length l → get_or l 0 0 ≡ 43 → digits base top (take (length l - 1) (drop 1 l)) ≡ unsigned base top l
      go [] h e = absurd (omega arith)
      go (b ∷ l) h e =
          let k : length l ≤ length (b ∷ l) - 1 = omega arith in
          rw (take_all (length (b ∷ l) - 1) l k, eq-eqb b 43 e)

  pub unsigned-plain : 0 < length s → (get_or s 0 0 ≡ 43 → ⊥) → digits base top s ≡ unsigned base top s
  unfolding unsigned
  unsigned-plain = go s
    where
      go : (l : List ℕ) → 0 < length l → (get_or l 0 0 ≡ 43 → ⊥) → digits base top l ≡ unsigned base top l
      go [] h e = absurd (omega arith)
      go (b ∷ l) h e = rw (ne_eqb b 43 e)

-- ---- every `0x` in front
both-so : (t u : Bool) → t && (u && true) ≡ true → t && u ≡ true
both-so true true e = refl
both-so true false e = never (cc)
both-so false u e = never (cc)

not-both : (t u : Bool) → t && (u && true) ≡ false → t && u ≡ false
not-both true true e = never (cc)
not-both true false e = refl
not-both false u e = refl

pub bare-past : (s r : List ℕ) → pointwise eqb (take 2 s) (48 ∷ 120 ∷ []) ≡ true → r ≡ drop 2 s → bare s ≡ bare r
unfolding bare
bare-past [] r e f = never (cc)
bare-past (a ∷ []) r e f = go (eqb a 48) e
  where
    go : (t : Bool) → t && false ≡ true → bare (a ∷ []) ≡ bare r
    go true g = never (cc)
    go false g = never (cc)
bare-past (a ∷ b ∷ s) r e f = rw (both-so (eqb a 48) (eqb b 120) e, f)

pub bare-as-is : (s : List ℕ) → pointwise eqb (take 2 s) (48 ∷ 120 ∷ []) ≡ false → s ≡ bare s
unfolding bare
bare-as-is [] e = refl
bare-as-is (a ∷ []) e = refl
bare-as-is (a ∷ b ∷ s) e = rw (not-both (eqb a 48) (eqb b 120) e)

-- ---- a run that is the whole part
module _ (r : Option Digits) (n base top : ℕ) (s : List ℕ) (pos_base : 0 < base) (read : r ≡ run_of base top s) (long : n ≡ length s) where
  pub whole-over : r ≡ none → none ≡ digits base top s
  whole-over e = digits-over base top pos_base s (run-past-top base top s r read e)

  module _ (k v : ℕ) (e : r ≡ some (run k v)) where
    pub whole-none : k ≡ 0 → none ≡ digits base top s
    whole-none z = digits-none base top pos_base s (sym (run-says base top s r read k v e).count ∙ z)

    pub whole-short : k < n → none ≡ digits base top s
    whole-short h = digits-short base top pos_base s (omega (arith, (run-says base top s r read k v e).count))

    pub whole-good : (k ≡ 0 → ⊥) → n ≤ k → some v ≡ digits base top s
    whole-good z h = digits-whole base top pos_base s k v (run-says base top s r read k v e) z (omega arith)
