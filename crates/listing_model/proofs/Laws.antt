-- Laws of digits and of bytes put into a line. Assumes nothing.
use Prim.Native.Nat.{ℕ, zero, suc, ◌+◌, ◌-◌, ◌*◌, ◌/◌, ◌%◌, ◌^◌, ◌≤◌, ◌<◌}
use native.Mathlib.Omega.{arith}
use native.Mathlib.Nat.{pow-succ'}
use mathlib.Core.Path.{◌≡◌, refl, sym, ap, ◌∙◌, subst}
use mathlib.Core.Bool.{Bool, true, false}
use mathlib.Core.List.{List, [], ◌∷◌, ◌++◌}
use lib.Dec.{ltb}
use lib.ListN.{length, take, length-append}
use lib.Seq.{sets, length-sets, length-take-le}
use borrow.Rule.Slice.PartMut.{put_mid}
use borrow.Author.Tests.{ltb-true, ltb-false, lt-ltb, le-ltb}
use Rattle.outcome.proofs.Laws.{sets-append, part_stored}
use Rattle.listing_model.specs.Lines.{digits_in, decimal}
use Rattle.listing_model.specs.Answers.{Put, Written}

-- ---- Digits

-- more steps than n change nothing
steps : (j k : ℕ) (t : Bool) (n : ℕ) → n < j → n < k → ltb n 10 ≡ t → digits_in j t n ≡ digits_in k t n
unfolding digits_in
steps zero k t n h i e = absurd (omega arith)
steps (suc j) zero t n h i e = absurd (omega arith)
steps (suc j) (suc k) true n h i e = refl
steps (suc j) (suc k) false n h i e =
    let l = ltb-false n 10 e in
    ap (λ (s : List ℕ). s ++ ((48 + n % 10) ∷ [])) (steps j k (ltb (n / 10) 10) (n / 10) (omega arith) (omega arith) refl)

pub decimal-one : (n : ℕ) → n < 10 → decimal n ≡ (48 + n) ∷ []
unfolding decimal digits_in
decimal-one n h = rw (lt-ltb n 10 h)

pub decimal-more : (n : ℕ) → 10 ≤ n → decimal n ≡ decimal (n / 10) ++ ((48 + n % 10) ∷ [])
unfolding decimal digits_in
decimal-more n h =
    rw (le-ltb n 10 h)
    (ap (λ (s : List ℕ). s ++ ((48 + n % 10) ∷ [])) (steps n (suc (n / 10)) (ltb (n / 10) 10) (n / 10) (omega arith) (omega arith) refl))

pub length-one : (n : ℕ) → n < 10 → length (decimal n) ≡ 1
length-one n h = rw (decimal-one n h)

pub length_more : (n : ℕ) → 10 ≤ n → length (decimal n) ≡ length (decimal (n / 10)) + 1
length_more n h = rw (decimal-more n h) (length-append (decimal (n / 10)) ((48 + n % 10) ∷ []))

-- a number below 10 ^ k has at most k digits, and 0 has one
pub decimal-short : (k n : ℕ) → n < 10 * 10 ^ k → length (decimal n) ≤ suc k
decimal-short zero n h = rw (decimal-one n (omega arith)) (omega arith)
decimal-short (suc k) n h = go (decimal-short k (n / 10) (omega (arith, h, pow-succ' 10 k))) (ltb n 10) refl
  where
    go : length (decimal (n / 10)) ≤ suc k → (t : Bool) → ltb n 10 ≡ t → length (decimal n) ≤ suc (suc k)
    go i true e = rw (decimal-one n (ltb-true n 10 e)) (omega arith)
    go i false e = rw (decimal-more n (ltb-false n 10 e), length-append) (omega arith)

-- 64 bits
pub number_short : (n : ℕ) → n < 2 ^ 64 → length (decimal n) ≤ 20
number_short n h = decimal-short 19 n (omega arith)

-- ---- Bytes in a line

-- one after the other
pub put_put : {k m : ℕ} {l : List ℕ} {at : ℕ} {a : List ℕ} {r : ℕ} {l' : List ℕ} {b : List ℕ} {r' : ℕ} {l'' : List ℕ} → Put k l at a r l' → Put m l' r b r' l'' → Put (k + m) l at (a ++ b) r' l''
put_put {k} {m} {l} {at} {a} {r} {l'} {b} {r'} {l''} p q =
    record {
      next = omega (arith, q.next, p.next, length-append a b);
      stored = q.stored ∙ ap (λ (x : List ℕ). sets x r b) p.stored ∙ ap (λ (i : ℕ). sets (sets l at a) i b) p.next ∙ sym (sets-append l at a b);
      within = omega (arith, p.within, q.within);
    }

-- within other bounds
pub put_in : {k : ℕ} {l : List ℕ} {at : ℕ} {a : List ℕ} {r : ℕ} {l' : List ℕ} (m : ℕ) → k ≤ m → Put k l at a r l' → Put m l at a r l'
put_in m h p = record { next = p.next; stored = p.stored; within = omega (arith, p.within) }

-- and with no room to spare
pub put_tight : {k : ℕ} {l : List ℕ} {at : ℕ} {a : List ℕ} {r : ℕ} {l' : List ℕ} → Put k l at a r l' → Put (length a) l at a r l'
put_tight p = record { next = p.next; stored = p.stored; within = omega (arith, p.next) }

-- a part of the line, written over
pub put_over : (a l : List ℕ) (at e : ℕ) (b : List ℕ) → b ≡ a → e ≡ at + length a → e ≤ length l → Put (length a) l at a e (put_mid at (e - at) l b)
put_over a l at e b q r h =
    record {
      next = r;
      stored = rw q (part_stored at (e - at) l a (omega arith) (omega arith));
      within = omega arith;
    }

-- the same bytes
pub put_as : {k : ℕ} {l : List ℕ} {at : ℕ} {a b : List ℕ} {r : ℕ} {l' : List ℕ} → a ≡ b → Put k l at a r l' → Put k l at b r l'
put_as {k} {l} {at} {a} {b} {r} {l'} e p = subst (λ (s : List ℕ). Put k l at s r l') e p

-- a line from its first byte on
pub written : {k : ℕ} {l : List ℕ} {a : List ℕ} {r : ℕ} {l' : List ℕ} → k ≤ 256 → Put k l 0 a r l' → Written a l r l'
written i p =
    record {
      size = omega (arith, p.next);
      stored = p.stored;
      inside = omega (arith, p.within);
    }

-- a line keeps its length, and its bytes are a part of it
module _ {a l : List ℕ} {r : ℕ} {l' : List ℕ} (w : Written a l r l') (h : length l ≡ 256) where
  pub written-long : length l' ≡ 256
  written-long = ap length w.stored ∙ length-sets l 0 a ∙ h

  pub written-within : r ≤ length l'
  written-within = omega (arith, w.inside, written-long)

  pub written-part : r ≡ length (take r l')
  written-part = sym (length-take-le r l' written-within)
