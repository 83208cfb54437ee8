-- No two parts pass: spans, trimmed parts, parts between separators, what follows a word, the first and the last part. Assumes nothing.
use Prim.Native.Nat.{ℕ, suc, ◌+◌}
use native.Mathlib.Omega.{arith}
use mathlib.Core.Path.{◌≡◌, refl, sym, ap, ap₂, ◌∙◌}
use mathlib.Core.Logic.{inl, inr}
use mathlib.Core.Bool.{Bool, true, false, not}
use mathlib.Core.List.{List, [], ◌∷◌, ◌++◌, append_cancel_left}
use lib.ListN.{length}
use borrow.Author.Tests.{eq-eqb}
use Rattle.grammar.specs.Parts.{Part}
use Rattle.grammar.specs.IndexParts.{blank, unlike, All, Stops, Ends, Span, Trimmed, AllTrimmed, Parted, After, Halves, First, NoneOf, Last}

-- true is not false
pub never : (b : Bool) → b ≡ true → b ≡ false → ⊥
never b t f = let z : true ≡ false = sym t ∙ f in let n : ◌≡◌ {A = ℕ} 0 1 = cc z in omega arith

-- no list is empty and not
pub not-empty : (b : ℕ) (s : List ℕ) → [] ≡ b ∷ s → ⊥
not-empty b s e = let n : ◌≡◌ {A = ℕ} 0 1 = cc e in omega arith

pub has-byte : (b : ℕ) (s : List ℕ) → b ∷ s ≡ [] → ⊥
has-byte b s e = not-empty b s (sym e)

pub head-same : (a b : ℕ) (s t : List ℕ) → a ∷ s ≡ b ∷ t → a ≡ b
head-same a b s t e = cc e

pub tail_same : (a b : ℕ) (s t : List ℕ) → a ∷ s ≡ b ∷ t → s ≡ t
tail_same a b s t e = cc e

pub record Both (a a' b b' : List ℕ) : Type 0 where
  pub front_same : a ≡ a'
  pub rest_same : b ≡ b'

module _ (p : ℕ → Bool) where
  -- what stops does not go on with a byte that passes
  stops-not : (b : List ℕ) (x : ℕ) (s : List ℕ) → b ≡ x ∷ s → Stops p b → p x ≡ true → ⊥
  stops-not [] x s e h k = not-empty x s e
  stops-not (y ∷ b) x s e h k = never (p x) k (ap p (sym (head-same y x b s e)) ∙ h)

  pub split-unique : (a b a' b' : List ℕ) → a ++ b ≡ a' ++ b' → All p a → All p a' → Stops p b → Stops p b' → Both a a' b b'
  split-unique [] b [] b' e h h' k k' = record { front_same = refl; rest_same = e }
  split-unique [] b (y ∷ a') b' e h h' k k' = absurd (stops-not b y (a' ++ b') e k h'.0)
  split-unique (x ∷ a) b [] b' e h h' k k' = absurd (stops-not b' x (a ++ b) (sym e) k' h.0)
  split-unique (x ∷ a) b (y ∷ a') b' e h h' k k' =
      let r = split-unique a b a' b' (tail_same x y (a ++ b) (a' ++ b') e) h.1 h'.1 k k' in
      record { front_same = ap₂ ◌∷◌ (head-same x y (a ++ b) (a' ++ b') e) r.front_same; rest_same = r.rest_same }

  pub span_unique : (s a b a' b' : List ℕ) → Span p s a b → Span p s a' b' → Both a a' b b'
  span_unique s a b a' b' h k = split-unique a b a' b' (sym h.whole ∙ k.whole) h.front k.front h.stops k.stops

  pub all-front : (a b : List ℕ) → All p (a ++ b) → All p a
  all-front [] b h = tt
  all-front (x ∷ a) b h = (h.0, all-front a b h.1)

  pub all_rest : (a b : List ℕ) → All p (a ++ b) → All p b
  all_rest [] b h = h
  all_rest (x ∷ a) b h = all_rest a b h.1

  ends-not : (x : ℕ) (s : List ℕ) → Ends p (x ∷ s) → All p (x ∷ s) → ⊥
  ends-not x [] h k = never (p x) k.0 h
  ends-not x (y ∷ s) h k = ends-not y s h k.1

  ends_tail : (x : ℕ) (s : List ℕ) → Ends p (x ∷ s) → Ends p s
  ends_tail x [] h = tt
  ends_tail x (y ∷ s) h = h

  -- a list without every last byte that passes
  ended_unique : (a b a' b' : List ℕ) → a ++ b ≡ a' ++ b' → All p b → All p b' → Ends p a → Ends p a' → a ≡ a'
  ended_unique [] b [] b' e h h' k k' = refl
  ended_unique [] b (y ∷ a') b' e h h' k k' = absurd (ends-not y a' k' (all-front (y ∷ a') b' (rw e at h)))
  ended_unique (x ∷ a) b [] b' e h h' k k' = absurd (ends-not x a k (all-front (x ∷ a) b (rw (← e) at h')))
  ended_unique (x ∷ a) b (y ∷ a') b' e h h' k k' =
      ap₂ ◌∷◌ (head-same x y (a ++ b) (a' ++ b') e)
      (ended_unique a b a' b' (tail_same x y (a ++ b) (a' ++ b') e) h h' (ends_tail x a k) (ends_tail y a' k'))

pub trimmed-unique : (o i j : Part) → Trimmed o i → Trimmed o j → i ≡ j
trimmed-unique o i j h k =
    let s = span_unique blank o.bytes h.before h.middle k.before k.middle h.leading k.leading in
    let e : i.bytes ++ h.after ≡ j.bytes ++ k.after = sym h.rest ∙ s.rest_same ∙ k.rest in
    let b : i.bytes ≡ j.bytes = ended_unique blank i.bytes h.after j.bytes k.after e h.trailing k.trailing h.ends k.ends in
    let a : i.place ≡ j.place = h.place ∙ ap (λ (l : List ℕ). o.place + length l) s.front_same ∙ sym k.place in
    λ t. record { place = a t; bytes = b t }

pub all-trimmed-unique : (os is js : List Part) → AllTrimmed os is → AllTrimmed os js → is ≡ js
all-trimmed-unique [] [] [] h k = refl
all-trimmed-unique [] [] (j ∷ js) h k = absurd k
all-trimmed-unique [] (i ∷ is) js h k = absurd h
all-trimmed-unique (o ∷ os) [] js h k = absurd h
all-trimmed-unique (o ∷ os) (i ∷ is) [] h k = absurd k
all-trimmed-unique (o ∷ os) (i ∷ is) (j ∷ js) h k = ap₂ ◌∷◌ (trimmed-unique o i j h.0 k.0) (all-trimmed-unique os is js h.1 k.1)

-- ---- Separators

pub record Sides (a b a' b' : Part) : Type 0 where
  pub left_same : a ≡ a'
  pub right_same : b ≡ b'

module _ (sep : ℕ) where
  unlike-itself : unlike sep sep ≡ false
  unlike-itself = ap not (eq-eqb sep sep refl)

  -- the first separator stands at one place
  pub at-separator : (a b a' b' : List ℕ) → a ++ sep ∷ b ≡ a' ++ sep ∷ b' → All (unlike sep) a → All (unlike sep) a' → Both a a' b b'
  at-separator a b a' b' e h k =
      let r = split-unique (unlike sep) a (sep ∷ b) a' (sep ∷ b') e h k unlike-itself unlike-itself in
      record { front_same = r.front_same; rest_same = tail_same sep sep b b' r.rest_same }

  -- and where there is one, not every byte is another
  pub has_separator : (s a b : List ℕ) → s ≡ a ++ sep ∷ b → All (unlike sep) s → ⊥
  has_separator s a b e h = never (unlike sep sep) (all_rest (unlike sep) a (sep ∷ b) (rw e at h)).0 unlike-itself

  pub parted_unique : (at : ℕ) (s : List ℕ) (a b : List Part) → Parted sep at s a → Parted sep at s b → a ≡ b
  parted_unique at s [] b h k = absurd h
  parted_unique at s (p ∷ []) [] h k = absurd k
  parted_unique at s (p ∷ []) (q ∷ []) h k =
      λ t. record { place = (h.0 ∙ sym k.0) t; bytes = (h.1 ∙ sym k.1) t } ∷ []
  parted_unique at s (p ∷ []) (q ∷ q' ∷ b) h k = absurd (has_separator p.bytes q.bytes k.1 (h.1 ∙ k.2) h.2)
  parted_unique at s (p ∷ p' ∷ a) [] h k = absurd k
  parted_unique at s (p ∷ p' ∷ a) (q ∷ []) h k = absurd (has_separator q.bytes p.bytes h.1 (k.1 ∙ h.2) k.2)
  parted_unique at s (p ∷ p' ∷ a) (q ∷ q' ∷ b) h k =
      let r = at-separator p.bytes h.1 q.bytes k.1 (sym h.2 ∙ k.2) h.3 k.3 in
      let k' : Parted sep (at + suc (length p.bytes)) h.1 (q' ∷ b) = rw (r.front_same, r.rest_same) k.4 in
      let l : p' ∷ a ≡ q' ∷ b = parted_unique (at + suc (length p.bytes)) h.1 (p' ∷ a) (q' ∷ b) h.4 k' in
      λ t. record { place = (h.0 ∙ sym k.0) t; bytes = r.front_same t } ∷ l t

  pub halves-unique : (s a b a' b' : Part) → Halves sep s a b → Halves sep s a' b' → Sides a b a' b'
  halves-unique s a b a' b' h k =
      let r = at-separator a.bytes b.bytes a'.bytes b'.bytes (sym h.whole ∙ k.whole) h.first k.first in
      let l : b.place ≡ b'.place = h.right ∙ ap (λ (x : List ℕ). s.place + suc (length x)) r.front_same ∙ sym k.right in
      record {
        left_same = λ t. record { place = (h.left ∙ sym k.left) t; bytes = r.front_same t };
        right_same = λ t. record { place = l t; bytes = r.rest_same t };
      }

-- ---- Words, and the first and the last part

pub after-unique : (w : List ℕ) (i r r' : Part) → After w i r → After w i r' → r ≡ r'
after-unique w i r r' h k =
    let b : r.bytes ≡ r'.bytes = append_cancel_left w r.bytes r'.bytes (sym h.whole ∙ k.whole) in
    λ t. record { place = (h.place ∙ sym k.place) t; bytes = b t }

module _ (P : Part → Type 0) where
  pub first-unique : (ps : List Part) (x y : Part) → First P ps x → First P ps y → x ≡ y
  first-unique [] x y h k = absurd h
  first-unique (p ∷ ps) x y (inl h) (inl k) = sym h.1 ∙ k.1
  first-unique (p ∷ ps) x y (inl h) (inr k) = absurd (k.0 h.0)
  first-unique (p ∷ ps) x y (inr h) (inl k) = absurd (h.0 k.0)
  first-unique (p ∷ ps) x y (inr h) (inr k) = first-unique ps x y h.1 k.1

  none_last : (ps : List Part) (x : Part) → NoneOf P ps → Last P ps x → ⊥
  none_last [] x h k = k
  none_last (p ∷ ps) x h (inl k) = none_last ps x h.1 k
  none_last (p ∷ ps) x h (inr k) = h.0 k.1

  pub last-unique : (ps : List Part) (x y : Part) → Last P ps x → Last P ps y → x ≡ y
  last-unique [] x y h k = absurd h
  last-unique (p ∷ ps) x y (inl h) (inl k) = last-unique ps x y h k
  last-unique (p ∷ ps) x y (inl h) (inr k) = absurd (none_last ps x k.0 h)
  last-unique (p ∷ ps) x y (inr h) (inl k) = absurd (none_last ps y h.0 k)
  last-unique (p ∷ ps) x y (inr h) (inr k) = sym h.2 ∙ k.2
