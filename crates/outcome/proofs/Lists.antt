-- A list that is found is the one that is listed, and one turn of finding it, with no count of turns in it. Assumes nothing.
use Prim.Native.Nat.{ℕ, zero, suc, ◌≤◌, ◌<◌}
use native.Mathlib.Omega.{arith}
use mathlib.Core.Path.{◌≡◌, refl, sym, ap, subst}
use mathlib.Core.Bool.{Bool, true, false, cond}
use mathlib.Core.Logic.{◌↔◌, ⊎_elim}
use mathlib.Core.List.{List, [], ◌∷◌}
use lib.ListN.{length}
use Rattle.outcome.specs.Outcome.{Res, ok, refuse, and_then, cons_res, listed_by}
use Rattle.outcome.specs.Lists.{list_fuel, list_from, read_fuel, read_from, Listed}
use Rattle.outcome.proofs.Laws.{ok-not-refuse, ok-injective, and_then-ok, cons_res-ok, and_then-refuse, cons_res-refuse}

module _ {S A : Type 0} (stop : S → Bool) (item : S → Res A) (next : S → A → S) where
  fuel_sound : (f : ℕ) (s : S) (l : List A) → list_fuel stop item next f s ≡ ok l → Listed stop item next s l
  unfolding list_fuel Listed
  fuel_sound zero s l e = ok-not-refuse e
  fuel_sound (suc f) s l e = go (λ x t k. fuel_sound f (next s x) t k) (stop s) refl e
    where
      go : ((x : A) (t : List A) → list_fuel stop item next f (next s x) ≡ ok t → Listed stop item next (next s x) t)
          → (b : Bool) → stop s ≡ b → cond b (ok []) (and_then (item s) (λ a. cons_res a (list_fuel stop item next f (next s a)))) ≡ ok l
          → Listed stop item next s l
      go h true q e' = subst (Listed stop item next s) (ok-injective e') q
      go h false q e' =
          let w = and_then-ok (item s) (λ a. cons_res a (list_fuel stop item next f (next s a))) e' in
          let v = cons_res-ok w.0 (list_fuel stop item next f (next s w.0)) w.2 in
          subst (Listed stop item next s) v.2 (q, w.1, h w.0 v.0 v.1)

  fuel-complete : (f : ℕ) (s : S) (l : List A) → length l < f → Listed stop item next s l → list_fuel stop item next f s ≡ ok l
  unfolding list_fuel Listed
  fuel-complete zero s l lt h = absurd (omega arith)
  fuel-complete (suc f) s [] lt h = rw h
  fuel-complete (suc f) s (a ∷ l) lt h = rw (h.0, h.1) (ap (cons_res a) (fuel-complete f (next s a) l (omega arith) h.2))

  module _ (left : S → ℕ) (falls : (s : S) (a : A) → stop s ≡ false → item s ≡ ok a → left (next s a) < left s) where
    listed-short : (s : S) (l : List A) → Listed stop item next s l → length l ≤ left s
    unfolding Listed
    listed-short s [] h = omega arith
    listed-short s (a ∷ l) h = omega (arith, falls s a h.0 h.1, listed-short (next s a) l h.2)

    -- the list is found exactly where it is listed
    pub list_iff : (s : S) (l : List A) → (list_from stop item next left s ≡ ok l) ↔ Listed stop item next s l
    unfolding list_from
    list_iff s l = (fuel_sound (suc (left s)) s l, λ h. fuel-complete (suc (left s)) s l (omega (arith, listed-short s l h)) h)

    -- enough turns are enough, for refusals too
    fuel_enough : (f g : ℕ) (s : S) → left s < f → left s < g → list_fuel stop item next f s ≡ list_fuel stop item next g s
    unfolding list_fuel
    fuel_enough zero g s h k = absurd (omega arith)
    fuel_enough (suc f) zero s h k = absurd (omega arith)
    fuel_enough (suc f) (suc g) s h k = go (λ x p q. fuel_enough f g (next s x) p q) (stop s) (item s) refl refl
      where
        go : ((x : A) → left (next s x) < f → left (next s x) < g → list_fuel stop item next f (next s x) ≡ list_fuel stop item next g (next s x))
            → (b : Bool) (r : Res A) → stop s ≡ b → item s ≡ r
            → cond b (ok []) (and_then r (λ a. cons_res a (list_fuel stop item next f (next s a))))
            ≡ cond b (ok []) (and_then r (λ a. cons_res a (list_fuel stop item next g (next s a))))
        go i true r p q = refl
        go i false (refuse n) p q = refl
        go i false (ok a) p q = let z = falls s a p q in ap (cons_res a) (i a (omega arith) (omega arith))

    -- the list is refused for what an item is refused for
    fuel_refuses : (P : ℕ → Type 0) → ((s : S) (n : ℕ) → item s ≡ refuse n → P n) → (f : ℕ) (s : S) (n : ℕ) → left s < f
        → list_fuel stop item next f s ≡ refuse n → P n
    unfolding list_fuel
    fuel_refuses P h zero s n b e = absurd (omega arith)
    fuel_refuses P h (suc f) s n b e = go (λ x d g. fuel_refuses P h f (next s x) n d g) (stop s) refl e
      where
        go : ((x : A) → left (next s x) < f → list_fuel stop item next f (next s x) ≡ refuse n → P n)
            → (t : Bool) → stop s ≡ t → cond t (ok []) (and_then (item s) (λ a. cons_res a (list_fuel stop item next f (next s a)))) ≡ refuse n → P n
        go i true q g = ok-not-refuse (sym g)
        go i false q g =
            ⊎_elim (λ r. h s n r)
            (λ r. let z = falls s r.0 q r.1 in i r.0 (omega arith) (cons_res-refuse r.0 (list_fuel stop item next f (next s r.0)) r.2))
            (and_then-refuse (item s) (λ a. cons_res a (list_fuel stop item next f (next s a))) g)

    pub list_refuses : (P : ℕ → Type 0) → ((s : S) (n : ℕ) → item s ≡ refuse n → P n) → (s : S) (n : ℕ) → list_from stop item next left s ≡ refuse n → P n
    unfolding list_from
    list_refuses P h s n e = fuel_refuses P h (suc (left s)) s n (omega arith) e

    -- one turn
    pub list_step : (s : S)
        → list_from stop item next left s
        ≡ cond (stop s) (ok []) (and_then (item s) (λ a. cons_res a (list_from stop item next left (next s a))))
    unfolding list_from list_fuel
    list_step s = go (stop s) (item s) refl refl
      where
        go : (b : Bool) (r : Res A) → stop s ≡ b → item s ≡ r
            → cond b (ok []) (and_then r (λ a. cons_res a (list_fuel stop item next (left s) (next s a))))
            ≡ cond b (ok []) (and_then r (λ a. cons_res a (list_fuel stop item next (suc (left (next s a))) (next s a))))
        go true r p q = refl
        go false (refuse n) p q = refl
        go false (ok a) p q = let z = falls s a p q in ap (cons_res a) (fuel_enough (left s) (suc (left (next s a))) (next s a) (omega arith) (omega arith))

    -- the same of the items that are read, the refused list's too
    read-enough : (f g : ℕ) (s : S) → left s < f → left s < g → read_fuel stop item next f s ≡ read_fuel stop item next g s
    unfolding read_fuel
    read-enough zero g s h k = absurd (omega arith)
    read-enough (suc f) zero s h k = absurd (omega arith)
    read-enough (suc f) (suc g) s h k = go (λ x p q. read-enough f g (next s x) p q) (stop s) (item s) refl refl
      where
        go : ((x : A) → left (next s x) < f → left (next s x) < g → read_fuel stop item next f (next s x) ≡ read_fuel stop item next g (next s x))
            → (b : Bool) (r : Res A) → stop s ≡ b → item s ≡ r
            → cond b [] (listed_by r (λ a. a ∷ read_fuel stop item next f (next s a)))
            ≡ cond b [] (listed_by r (λ a. a ∷ read_fuel stop item next g (next s a)))
        go i true r p q = refl
        go i false (refuse n) p q = refl
        go i false (ok a) p q = let z = falls s a p q in ap (λ (l : List A). a ∷ l) (i a (omega arith) (omega arith))

    pub read_step : (s : S) → read_from stop item next left s ≡ cond (stop s) [] (listed_by (item s) (λ a. a ∷ read_from stop item next left (next s a)))
    unfolding read_from read_fuel
    read_step s = go (stop s) (item s) refl refl
      where
        go : (b : Bool) (r : Res A) → stop s ≡ b → item s ≡ r
            → cond b [] (listed_by r (λ a. a ∷ read_fuel stop item next (left s) (next s a)))
            ≡ cond b [] (listed_by r (λ a. a ∷ read_fuel stop item next (suc (left (next s a))) (next s a)))
        go true r p q = refl
        go false (refuse n) p q = refl
        go false (ok a) p q = let z = falls s a p q in ap (λ (l : List A). a ∷ l) (read-enough (left s) (suc (left (next s a))) (next s a) (omega arith) (omega arith))

    -- of a list that is found all items are read
    pub read_all : (s : S) (l : List A) → Listed stop item next s l → read_from stop item next left s ≡ l
    unfolding Listed
    read_all s [] h = rw (read_step s, h)
    read_all s (a ∷ l) h = rw (read_step s, h.0, h.1) (ap (λ (m : List A). a ∷ m) (read_all (next s a) l h.2))
