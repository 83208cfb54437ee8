-- What an answer says of its parts, and stores in a list. Assumes nothing.
use Prim.Native.Nat.{ℕ, zero, suc, ◌+◌, ◌-◌, ◌≤◌, ◌<◌}
use native.Mathlib.Numerals.{add-one}
use native.Mathlib.Omega.{arith}
use mathlib.Core.Path.{◌≡◌, refl, sym, ap, ◌∙◌}
use mathlib.Core.Bool.{Bool, true, false, not, ◌&&◌}
use mathlib.Core.Logic.{◌⊎◌, inl, inr}
use Rattle.std.specs.Prelude.{Option, Some as some, None as none}
use mathlib.Core.List.{List, [], ◌∷◌, ◌++◌, append_assoc}
use lib.Dec.{leb}
use lib.ListN.{length, get_or, set, take, drop}
use lib.Seq.{sets, slice, drop-drop, take-nil, take-suc, take_all, length-take-le, length-sets}
use borrow.Rule.Slice.PartMut.{put_mid}
use Rattle.std.proofs.lemmas.List.Edits.{sets-eq}
use borrow.Author.Tests.{leb-true, leb-false}
use Rattle.outcome.specs.Outcome.{Res, ok, refuse, check, need, and_then, cons_res, map_res}

pub ok-not-refuse : {A : Type 0} {P : Type 0} {n : ℕ} {a : A} → refuse n ≡ ok a → P
ok-not-refuse e = absurd (let z : ◌≡◌ {A = ℕ} 0 1 = cc in omega arith)

pub ok-injective : {A : Type 0} {x y : A} → ok x ≡ ok y → x ≡ y
ok-injective e = cc

pub refuse-injective : {A : Type 0} {m n : ℕ} → ◌≡◌ {A = Res A} (refuse m) (refuse n) → m ≡ n
refuse-injective e = cc

pub and_then-ok : {A B : Type 0} (r : Res A) (k : A → Res B) {y : B} → and_then r k ≡ ok y → (x : A) × (r ≡ ok x) × (k x ≡ ok y)
and_then-ok (ok a) k e = (a, refl, e)
and_then-ok (refuse n) k e = ok-not-refuse e

pub cons_res-ok : {A : Type 0} (a : A) (r : Res (List A)) {l : List A} → cons_res a r ≡ ok l → (t : List A) × (r ≡ ok t) × (a ∷ t ≡ l)
cons_res-ok a (ok t) e = (t, refl, ok-injective e)
cons_res-ok a (refuse n) e = ok-not-refuse e

pub need-some : {A : Type 0} (n : ℕ) (o : Option A) {a : A} → need n o ≡ ok a → o ≡ some a
need-some n (some x) e = ap some (ok-injective e)
need-some n none e = ok-not-refuse e

-- a test that is or is not
pub either : (t : Bool) → (t ≡ true) ⊎ (t ≡ false)
either true = inl refl
either false = inr refl

pub not_so : (t : Bool) → (t ≡ true → ⊥) → t ≡ false
not_so true h = absurd (h refl)
not_so false h = refl

pub clash : (t : Bool) → t ≡ true → t ≡ false → ⊥
clash true p q = let z : ◌≡◌ {A = ℕ} 0 1 = cc in omega arith
clash false p q = let z : ◌≡◌ {A = ℕ} 0 1 = cc in omega arith

pub not-true : (t : Bool) → not t ≡ true → t ≡ false
not-true true h = let z : ◌≡◌ {A = ℕ} 0 1 = cc in absurd (omega arith)
not-true false h = refl

pub not-false : (t : Bool) → not t ≡ false → t ≡ true
not-false true h = refl
not-false false h = let z : ◌≡◌ {A = ℕ} 0 1 = cc in absurd (omega arith)

pub and-true : (a b : Bool) → (a && b) ≡ true → (a ≡ true) × (b ≡ true)
and-true true b e = (refl, e)
and-true false b e = absurd (let z : ◌≡◌ {A = ℕ} 0 1 = cc in omega arith)

pub check-ok : {A : Type 0} (t : Bool) (m : ℕ) (r : Res A) {y : A} → check t m r ≡ ok y → (t ≡ true) × (r ≡ ok y)
check-ok true m r e = (refl, e)
check-ok false m r e = ok-not-refuse e

pub map_res-ok : {A B : Type 0} (f : A → B) (r : Res A) {y : B} → map_res f r ≡ ok y → (x : A) × (r ≡ ok x) × (f x ≡ y)
map_res-ok f (ok a) e = (a, refl, ok-injective e)
map_res-ok f (refuse n) e = ok-not-refuse e

-- and of a refusal
pub map_res-refuse : {A B : Type 0} (f : A → B) (r : Res A) {n : ℕ} → map_res f r ≡ refuse n → r ≡ refuse n
map_res-refuse f (ok a) e = ok-not-refuse (sym e)
map_res-refuse f (refuse m) e = ap refuse (refuse-injective e)

pub and_then-refuse : {A B : Type 0} (r : Res A) (k : A → Res B) {n : ℕ} → and_then r k ≡ refuse n → (r ≡ refuse n) ⊎ ((x : A) × (r ≡ ok x) × (k x ≡ refuse n))
and_then-refuse (ok a) k e = inr (a, refl, e)
and_then-refuse (refuse m) k e = inl (ap refuse (refuse-injective e))

pub cons_res-refuse : {A : Type 0} (a : A) (r : Res (List A)) {n : ℕ} → cons_res a r ≡ refuse n → r ≡ refuse n
cons_res-refuse a (ok t) e = ok-not-refuse (sym e)
cons_res-refuse a (refuse m) e = ap refuse (refuse-injective e)

pub check-refuse : {A : Type 0} (t : Bool) (m : ℕ) (r : Res A) {n : ℕ} → check t m r ≡ refuse n → (n ≡ m) ⊎ (r ≡ refuse n)
check-refuse true m r e = inr e
check-refuse false m r e = inl (sym (refuse-injective e))

-- a test of an order, decided
pub le_or_lt : (a b : ℕ) → (a ≤ b) ⊎ (b < a)
le_or_lt a b = go (leb a b) refl
  where
    go : (t : Bool) → leb a b ≡ t → (a ≤ b) ⊎ (b < a)
    go true e = inl (leb-true a b e)
    go false e = inr (leb-false a b e)

-- stores one after the other
pub sets-append : (l : List ℕ) (i : ℕ) (a b : List ℕ) → sets l i (a ++ b) ≡ sets (sets l i a) (i + length a) b
sets-append l i [] b = let z : i + 0 ≡ i = omega arith in rw z
sets-append l i (x ∷ a) b =
    let z : i + suc (length a) ≡ suc i + length a = omega arith in
    rw z (sets-append (set l i x) (suc i) a b)

-- a part of a slice that is written over, as stores one after the other
pub part_stored : (a k : ℕ) (xs ys : List ℕ) → length ys ≡ k → a + k ≤ length xs → put_mid a k xs ys ≡ sets xs a ys
part_stored a k xs ys e h =
    ap (λ (l : List ℕ). take a xs ++ (ys ++ l)) (drop-drop k a xs ∙ ap (λ (m : ℕ). drop (a + m) xs) (sym e)) ∙ sym (append_assoc (take a xs) ys _) ∙ sym (sets-eq ys xs a (omega (arith, e, h)))

-- a part of a slice, as the code takes it
pub part_slice : (a e : ℕ) (l : List ℕ) → take (e - a) (drop a l) ≡ slice a e l
part_slice zero e l = let z : e - 0 ≡ e = omega arith in rw z
part_slice (suc a) zero l = let z : 0 - suc a ≡ 0 = omega arith in rw z
part_slice (suc a) (suc e) [] = take-nil (suc e - suc a)
part_slice (suc a) (suc e) (x ∷ l) = let z : suc e - suc a ≡ e - a = omega arith in rw z (part_slice a e l)

-- a list that is copied element by element: i of l are in s from place `to` on
pub record Copying (l s₀ : List ℕ) (to i : ℕ) (s : List ℕ) : Type 0 where
  pub upto : i ≤ length l
  pub held : s ≡ sets s₀ to (take i l)
  pub size : length s ≡ length s₀

pub copying-starts : (l s₀ : List ℕ) (to : ℕ) → Copying l s₀ to 0 s₀
copying-starts l s₀ to = record { upto = omega arith; held = refl; size = refl }

pub copying_goes : (l s₀ : List ℕ) (to i : ℕ) (s : List ℕ) → Copying l s₀ to i s → i < length l → (s' : List ℕ) → s' ≡ set s (to + i) (get_or l i 0) → Copying l s₀ to (i + 1) s'
copying_goes l s₀ to i s c h s' e =
    let g : length (take i l) ≡ i = length-take-le i l (omega arith) in
    let q : s' ≡ sets s₀ to (take (i + 1) l) =
    e
    ∙ ap (λ (x : List ℕ). set x (to + i) (get_or l i 0)) c.held
    ∙ ap (λ (n : ℕ). set (sets s₀ to (take i l)) (to + n) (get_or l i 0)) (sym g)
    ∙ sym (sets-append s₀ to (take i l) (get_or l i 0 ∷ []))
    ∙ ap (sets s₀ to) (sym (take-suc l i 0 h) ∙ ap (λ (n : ℕ). take n l) (sym (add-one i))) in
    record { upto = omega arith; held = q; size = ap length q ∙ length-sets s₀ to (take (i + 1) l) }

pub copying_ends : (l s₀ : List ℕ) (to i : ℕ) (s : List ℕ) → Copying l s₀ to i s → length l ≤ i → s ≡ sets s₀ to l
copying_ends l s₀ to i s c h = c.held ∙ ap (sets s₀ to) (take_all i l h)
