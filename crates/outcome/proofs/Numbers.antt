-- The table of refusals by its numbers; and the number of a refusal has a property, as that of being one of them, where
-- those of all parts of its definition have it. Assumes nothing.
use Prim.Native.Nat.{ℕ, zero, suc, ◌<◌}
use native.Mathlib.Omega.{arith}
use mathlib.Core.Path.{◌≡◌, refl, sym, subst, ◌∙◌}
use mathlib.Core.Bool.{Bool, true, false, cond, ◌||◌}
use Rattle.std.specs.Prelude.{Option, Some as some, None as none}
use mathlib.Core.List.{List, [], ◌∷◌}
use lib.Dec.{eqb}
use lib.ListN.{drop}
use Rattle.outcome.specs.Outcome.{Res, ok, refuse, large_position, refusals, is_one_of, InTable, check, need, and_then, cons_res, map_res, RefusedWith, Numbered, refusal_of, Returned}
use Rattle.outcome.proofs.Laws.{clash}
use Rattle.outcome.specs.Lists.{list_fuel, list_from}

-- 1 to 34 without 23, and 41, each once: 41 before 10, 32 before 11, 34 before 22 and 33 after 26
pub table :
    refusals
    ≡ 1 ∷ 2 ∷ 3 ∷ 4 ∷ 5 ∷ 6 ∷ 7 ∷ 8 ∷ 9 ∷ 41 ∷ 10 ∷ 32 ∷ 11 ∷ 12 ∷ 13 ∷ 14 ∷ 15 ∷ 16 ∷ 17 ∷ 18 ∷ 19 ∷ 20 ∷ 21 ∷ 34 ∷ 22
    ∷ 24 ∷ 25 ∷ 26 ∷ 33 ∷ 27 ∷ 28 ∷ 29 ∷ 30 ∷ 31 ∷ []
table = refl

-- nothing is refused with 23
pub no_23 : InTable 23 → ⊥
no_23 h = clash (is_one_of 23 refusals) h.listed_there refl

pub in_table : (n : ℕ) → is_one_of n refusals ≡ true → InTable n
in_table n h = record { listed_there = h }

-- the numbers that come after those of a text
abbrev pub after_text : List ℕ
after_text = drop 11 refusals

-- from 32 on
pub after_table :
    after_text
    ≡ 32 ∷ 11 ∷ 12 ∷ 13 ∷ 14 ∷ 15 ∷ 16 ∷ 17 ∷ 18 ∷ 19 ∷ 20 ∷ 21 ∷ 34 ∷ 22 ∷ 24 ∷ 25 ∷ 26 ∷ 33 ∷ 27 ∷ 28 ∷ 29 ∷ 30 ∷ 31
    ∷ []
after_table = refl

-- each of them has the property P
abbrev pub AfterText : (ℕ → Type 0) → Type 0
AfterText P = (n : ℕ) → is_one_of n after_text ≡ true → P n

one_more : (n m : ℕ) (ms : List ℕ) → is_one_of n ms ≡ true → is_one_of n (m ∷ ms) ≡ true
one_more n m ms h = go (eqb n m)
  where
    go : (b : Bool) → b || is_one_of n ms ≡ true
    go true = refl
    go false = h

dropped : (k n : ℕ) (ms : List ℕ) → is_one_of n (drop k ms) ≡ true → is_one_of n ms ≡ true
dropped zero n ms h = h
dropped (suc k) n [] h = h
dropped (suc k) n (m ∷ ms) h = one_more n m ms (dropped k n ms h)

pub after-in-table : AfterText InTable
after-in-table n h = in_table n (dropped 11 n refusals h)

-- 41 is none of them
pub after-41 : AfterText (λ n. n ≡ large_position → ⊥)
after-41 n h e =
    clash (is_one_of large_position after_text) (subst (λ (m : ℕ). is_one_of m after_text ≡ true) e h) refl

pub not-0 : (n : ℕ) → InTable n → n ≡ 0 → ⊥
not-0 n h e = clash (is_one_of 0 refusals) (subst InTable e h).listed_there refl

module _ (P : ℕ → Type 0) where
  pub check-numbered : {A : Type 0} (t : Bool) (n : ℕ) (r : Res A) → P n → RefusedWith P r → RefusedWith P (check t n r)
  check-numbered true n r h k = k
  check-numbered false n r h k = h

  -- where what follows is asked only after the test
  pub checked-numbered : {A : Type 0} (t : Bool) (n : ℕ) (r : Res A) → P n → (t ≡ true → RefusedWith P r)
      → RefusedWith P (check t n r)
  checked-numbered true n r h k = k refl
  checked-numbered false n r h k = h

  pub cond-numbered : {A : Type 0} (t : Bool) (a b : Res A) → RefusedWith P a → RefusedWith P b
      → RefusedWith P (cond t a b)
  cond-numbered true a b h k = h
  cond-numbered false a b h k = k

  pub need-numbered : {A : Type 0} (n : ℕ) (o : Option A) → P n → RefusedWith P (need n o)
  need-numbered n (some a) h = tt
  need-numbered n none h = h

  pub and_then-numbered : {A B : Type 0} (r : Res A) (k : A → Res B) → RefusedWith P r → ((a : A) → RefusedWith P (k a))
      → RefusedWith P (and_then r k)
  and_then-numbered (ok a) k h g = g a
  and_then-numbered (refuse n) k h g = h

  pub cons_res-numbered : {A : Type 0} (a : A) (r : Res (List A)) → RefusedWith P r → RefusedWith P (cons_res a r)
  cons_res-numbered a (ok l) h = tt
  cons_res-numbered a (refuse n) h = h

  pub map_res-numbered : {A B : Type 0} (f : A → B) (r : Res A) → RefusedWith P r → RefusedWith P (map_res f r)
  map_res-numbered f (ok a) h = tt
  map_res-numbered f (refuse n) h = h

  -- what is refused with one number only
  pub only-numbered : {A : Type 0} (n : ℕ) → P n → (r : Res A) → ((k : ℕ) → r ≡ refuse k → k ≡ n) → RefusedWith P r
  only-numbered n h (ok a) g = tt
  only-numbered n h (refuse k) g = subst P (sym (g k refl)) h

-- a list, where each item that is asked for is
module _ (P : ℕ → Type 0) {S A : Type 0} (stop : S → Bool) (item : S → Res A) (next : S → A → S) (left : S → ℕ) (falls : (s : S) (a : A) → stop s ≡ false → item s ≡ ok a → left (next s a) < left s) (each : (s : S) → stop s ≡ false → RefusedWith P (item s)) where
  fuel_numbered : (f : ℕ) (s : S) → left s < f → RefusedWith P (list_fuel stop item next f s)
  unfolding list_fuel
  fuel_numbered zero s h = absurd (omega arith)
  fuel_numbered (suc f) s h = go (λ x p. fuel_numbered f (next s x) p) (stop s) (item s) refl refl (each s)
    where
      go : ((x : A) → left (next s x) < f → RefusedWith P (list_fuel stop item next f (next s x)))
          → (b : Bool) (r : Res A) → stop s ≡ b → item s ≡ r → (stop s ≡ false → RefusedWith P (item s))
          → RefusedWith P (cond b (ok []) (and_then r (λ a. cons_res a (list_fuel stop item next f (next s a)))))
      go i true r p q g = tt
      go i false (refuse n) p q g = subst (RefusedWith P) q (g p)
      go i false (ok a) p q g = let z = falls s a p q in cons_res-numbered P a (list_fuel stop item next f (next s a)) (i a (omega arith))

  pub list_numbered : (s : S) → RefusedWith P (list_from stop item next left s)
  unfolding list_from
  list_numbered s = fuel_numbered (suc (left s)) s (omega arith)

-- a property that follows from another
pub refused_also : {A : Type 0} (P Q : ℕ → Type 0) → ((n : ℕ) → P n → Q n) → (r : Res A) → RefusedWith P r
    → RefusedWith Q r
refused_also P Q h (ok a) p = tt
refused_also P Q h (refuse n) p = h n p

-- so 0 is returned where nothing is refused, and otherwise a number of the table
pub returned : {A : Type 0} (x : Res A) (r : ℕ) → Numbered x → r ≡ refusal_of x → Returned x r
returned (ok a) r h e = record { accepted = λ z. tt; in_table = λ z. absurd (z e) }
returned (refuse n) r h e = record { accepted = λ z. absurd (not-0 n h (sym e ∙ z)); in_table = λ z. subst InTable (sym e) h }
