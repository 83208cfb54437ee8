-- The leaves: each function finds a part exactly where the grammar says that it is one. Assumes nothing.
use Prim.Native.Nat.{ℕ, zero, suc, ◌+◌, ◌-◌, ◌^◌, ◌≤◌, ◌<◌}
use mathlib.Core.Path.{◌≡◌, refl, sym, ap, ap₂, ◌∙◌, subst}
use mathlib.Core.Bool.{Bool, true, false, not, cond, ◌&&◌}
use mathlib.Core.Logic.{inl, inr, ◌↔◌}
use Rattle.std.specs.Prelude.{Option, Some as some, None as none}
use mathlib.Core.List.{List, [], ◌∷◌, ◌++◌, map}
use native.Mathlib.Omega.{arith}
use lib.ListN.{length}
use lib.Dec.{leb, eqb}
use lib.IntN.{ℤ, pos, neg_ℤ}
use borrow.Author.Tests.{leb-true, le-leb, eqb-true, eqb-false, eq-eqb, ne_eqb, ltb-true}
use Rattle.grammar.specs.IndexNumbers.{digit, is_digit, numeral, Digits, Unsigned, Signed, zero_x, Stripped, Hex, Position, top_position}
use Rattle.grammar.specs.IndexParts.{blank, unlike, All, Stops, Ends, Span, Trimmed, AllTrimmed, Parted, StartsWith, After}
use Rattle.grammar.specs.Parts.{Part}
use Rattle.idx_numbers_model.specs.Numbers.{digits, unsigned, sign, signed, bare, hex, or_else, position_of}
use Rattle.idx_numbers_model.specs.Parts.{part, front, rest, keep, shorn, trimmed, trim, push, split, strip, moved, after, all}

-- ---- every leading byte that passes
module _ (p : ℕ → Bool) where
  pub span-is : (s : List ℕ) → Span p s (front p s) (rest p s)
  unfolding front rest
  span-is [] = record { whole = refl; front = tt; stops = tt }
  span-is (b ∷ s) = go (p b) refl (span-is s)
    where
      go : (t : Bool) → p b ≡ t → Span p s (front p s) (rest p s) → Span p (b ∷ s) (cond t (b ∷ front p s) []) (cond t (rest p s) (b ∷ s))
      go true e h = record { whole = ap (λ (l : List ℕ). b ∷ l) h.whole; front = (e, h.front); stops = h.stops }
      go false e h = record { whole = refl; front = tt; stops = e }

  at-stop : (s : List ℕ) → Stops p s → ([] ≡ front p s) × (s ≡ rest p s)
  unfolding front rest
  at-stop [] h = (refl, refl)
  at-stop (b ∷ s) h = rw h (refl, refl)

  spans : (a b : List ℕ) → All p a → Stops p b → (a ≡ front p (a ++ b)) × (b ≡ rest p (a ++ b))
  unfolding front rest
  spans [] b h k = at-stop b k
  spans (x ∷ a) b h k = let r : (a ≡ front p (a ++ b)) × (b ≡ rest p (a ++ b)) = spans a b h.1 k in
      rw h.0 (ap (λ (l : List ℕ). x ∷ l) r.0, r.1)

  pub span-one : (s a b : List ℕ) → Span p s a b → (a ≡ front p s) × (b ≡ rest p s)
  span-one s a b h = rw h.whole (spans a b h.front h.stops)

-- ---- without every trailing byte that passes
module _ (p : ℕ → Bool) where
  pub all-shorn : (s : List ℕ) → All p s → shorn p s ≡ []
  unfolding shorn
  all-shorn [] h = refl
  all-shorn (b ∷ s) h = rw (all-shorn s h.1, h.0)

  -- what is left, what was cut off, and that it was right
  pub shorn-is : (s : List ℕ) → (x : List ℕ) × (s ≡ shorn p s ++ x) × All p x × Ends p (shorn p s)
  unfolding shorn
  shorn-is [] = ([], refl, tt, tt)
  shorn-is (b ∷ s) = go (shorn p s) (shorn-is s)
    where
      end : (r : List ℕ) → (x : List ℕ) × (s ≡ [] ++ x) × All p x × Ends p [] → (t : Bool) → p b ≡ t
          → (x : List ℕ) × (b ∷ s ≡ cond t [] (b ∷ []) ++ x) × All p x × Ends p (cond t [] (b ∷ []))
      end r h true e = (b ∷ s, refl, (e, rw (← h.1) at h.2), tt)
      end r h false e = (s, refl, rw (← h.1) at h.2, e)

      go : (r : List ℕ) → (x : List ℕ) × (s ≡ r ++ x) × All p x × Ends p r
          → (x : List ℕ) × (b ∷ s ≡ keep p b r ++ x) × All p x × Ends p (keep p b r)
      go [] h = end [] h (p b) refl
      go (c ∷ r) h = (h.0, ap (λ (l : List ℕ). b ∷ l) h.1, h.2, h.3)

  pub shorn-one : (i x : List ℕ) → All p x → Ends p i → shorn p (i ++ x) ≡ i
  unfolding shorn
  shorn-one [] x h k = all-shorn x h
  shorn-one (b ∷ []) x h k = rw (all-shorn x h, k)
  shorn-one (b ∷ c ∷ i) x h k = rw (shorn-one (c ∷ i) x h k)

-- ---- the trim of a part is one
pub same-part : (p q : Part) → p.place ≡ q.place → p.bytes ≡ q.bytes → p ≡ q
same-part p q e f = λ i. record { place = e i; bytes = f i }

pub trim-is : (o : Part) → Trimmed o (trim o)
unfolding trim
trim-is o =
    let h : (x : List ℕ) × (rest blank o.bytes ≡ trimmed o.bytes ++ x) × All blank x × Ends blank (trimmed o.bytes) = shorn-is blank (rest blank o.bytes) in
    record {
      before = front blank o.bytes;
      middle = rest blank o.bytes;
      after = h.0;
      leading = span-is blank o.bytes;
      rest = h.1;
      trailing = h.2;
      ends = h.3;
      place = refl;
    }

pub trim-one : (o i : Part) → Trimmed o i → trim o ≡ i
unfolding trim
trim-one o i h =
    let s : (h.before ≡ front blank o.bytes) × (h.middle ≡ rest blank o.bytes) = span-one blank o.bytes h.before h.middle h.leading in
    same-part (trim o) i (rw (← s.0) (sym h.place)) (rw (← s.1, h.rest) (shorn-one blank i.bytes h.after h.trailing h.ends))

-- and of parts, one by one
pub trims-is : (os : List Part) → AllTrimmed os (map trim os)
trims-is [] = tt
trims-is (o ∷ os) = (trim-is o, trims-is os)

pub trims-one : (os is : List Part) → AllTrimmed os is → map trim os ≡ is
trims-one [] [] h = refl
trims-one [] (i ∷ is) h = absurd h
trims-one (o ∷ os) [] h = absurd h
trims-one (o ∷ os) (i ∷ is) h = ap₂ (λ (x : Part) (l : List Part). x ∷ l) (trim-one o i h.0) (trims-one os is h.1)

-- ---- the parts between the bytes sep are these
pub is-unlike : (sep b : ℕ) → eqb b sep ≡ false → unlike sep b ≡ true
is-unlike sep b e = rw e

pub not-unlike : (sep b : ℕ) → unlike sep b ≡ true → eqb b sep ≡ false
not-unlike sep b h = go (eqb b sep) h
  where
    go : (t : Bool) → not t ≡ true → t ≡ false
    go true e = sym e
    go false e = refl

pub split-is : (sep at : ℕ) (s : List ℕ) → Parted sep at s (split sep at s)
unfolding split
split-is sep at [] = (refl, refl, tt)
split-is sep at (b ∷ s) = go (split-is sep (suc at) s) (eqb b sep) refl
  where
    here : b ≡ sep → (ps : List Part) → Parted sep (suc at) s ps → Parted sep at (b ∷ s) (part at [] ∷ ps)
    here e [] h = absurd h
    here e (q ∷ ps) h =
        let n : suc at ≡ at + 1 = omega arith in
        (refl, s, ap (λ (x : ℕ). x ∷ s) e, tt, rw n at h)

    there : eqb b sep ≡ false → (ps : List Part) → Parted sep (suc at) s ps → Parted sep at (b ∷ s) (push at b ps)
    there e [] h = absurd h
    there e (p ∷ []) h = (refl, ap (λ (l : List ℕ). b ∷ l) h.1, (is-unlike sep b e, h.2))
    there e (p ∷ q ∷ ps) h =
        let n : suc at + suc (length p.bytes) ≡ at + suc (suc (length p.bytes)) = omega arith in
        (refl, h.1, ap (λ (l : List ℕ). b ∷ l) h.2, (is-unlike sep b e, h.3), rw n at h.4)

    go : Parted sep (suc at) s (split sep (suc at) s) → (t : Bool) → eqb b sep ≡ t
        → Parted sep at (b ∷ s) (cond t (part at [] ∷ split sep (suc at) s) (push at b (split sep (suc at) s)))
    go h true e = here (eqb-true b sep e) (split sep (suc at) s) h
    go h false e = there e (split sep (suc at) s) h

pub never : {P : Type 0} → ◌≡◌ {A = ℕ} 0 1 → P
never z = absurd (omega arith)

pub split_one : (sep at : ℕ) (s : List ℕ) (ps : List Part) → Parted sep at s ps → split sep at s ≡ ps
unfolding split
split_one sep at [] [] h = absurd h
split_one sep at (b ∷ s) [] h = absurd h
split_one sep at [] (p ∷ []) h = ap (λ (x : Part). x ∷ []) (same-part (part at []) p (sym h.0) (sym h.1))
split_one sep at [] (p ∷ q ∷ ps) h = absurd (none-there p.bytes h.2)
  where
    none-there : (a : List ℕ) → [] ≡ a ++ sep ∷ h.1 → ⊥
    none-there [] e = let z : ◌≡◌ {A = ℕ} 0 1 = cc in omega arith
    none-there (x ∷ a) e = let z : ◌≡◌ {A = ℕ} 0 1 = cc in omega arith
split_one sep at (b ∷ s) (p ∷ []) h =
    let f : All (unlike sep) (b ∷ s) = rw h.1 at h.2 in
    let r : split sep (suc at) s ≡ part (suc at) s ∷ [] = split_one sep (suc at) s (part (suc at) s ∷ []) (refl, refl, f.1) in
    rw (not-unlike sep b f.0, r) (ap (λ (x : Part). x ∷ []) (same-part (part at (b ∷ s)) p (sym h.0) (sym h.1)))
split_one sep at (b ∷ s) (p ∷ q ∷ ps) h =
    go (λ a qs. split_one sep a s qs) p.bytes h.2 h.3 h.4
    ∙ ap (λ (x : Part). x ∷ q ∷ ps) (same-part (part at p.bytes) p (sym h.0) refl)
  where
    go : ((a : ℕ) (qs : List Part) → Parted sep a s qs → split sep a s ≡ qs) → (a : List ℕ) → b ∷ s ≡ a ++ sep ∷ h.1 → All (unlike sep) a
        → Parted sep (at + suc (length a)) h.1 (q ∷ ps)
        → cond (eqb b sep) (part at [] ∷ split sep (suc at) s) (push at b (split sep (suc at) s)) ≡ part at a ∷ q ∷ ps
    go ih [] e f k =
        let m : b ≡ sep = cc in
        let l : h.1 ≡ s = cc in
        let n : at + 1 ≡ suc at = omega arith in
        rw (eq-eqb b sep m) (ap (λ (x : List Part). part at [] ∷ x) (ih (suc at) (q ∷ ps) (rw (n, l) at k)))
    go ih (x ∷ a) e f k =
        let m : x ≡ b = cc in
        let l : s ≡ a ++ sep ∷ h.1 = cc in
        let n : at + suc (suc (length a)) ≡ suc at + suc (length a) = omega arith in
        let i : split sep (suc at) s ≡ part (suc at) a ∷ q ∷ ps = ih (suc at) (part (suc at) a ∷ q ∷ ps) (refl, h.1, l, f.1, rw n at k) in
        let o : eqb b sep ≡ false = rw m at (not-unlike sep x f.0) in
        rw (o, i, m)

-- ---- what follows a token_byte
pub strip-on : (w r : List ℕ) → strip w (w ++ r) ≡ some r
unfolding strip
strip-on [] r = refl
strip-on (a ∷ w) r = rw (eq-eqb a a refl) (strip-on w r)

pub strip-is : (w s r : List ℕ) → strip w s ≡ some r → s ≡ w ++ r
unfolding strip
strip-is [] s r e = cc
strip-is (a ∷ w) [] r e = never (cc)
strip-is (a ∷ w) (b ∷ s) r e = go (eqb b a) refl (strip-is w s r) e
  where
    go : (t : Bool) → eqb b a ≡ t → (strip w s ≡ some r → s ≡ w ++ r) → cond t (strip w s) none ≡ some r → b ∷ s ≡ a ∷ (w ++ r)
    go true q ih e = ap₂ (λ (x : ℕ) (l : List ℕ). x ∷ l) (eqb-true b a q) (ih e)
    go false q ih e = never (cc)

pub strip-none : (w s : List ℕ) → strip w s ≡ none → StartsWith w s → ⊥
strip-none w s e h = let f : strip w s ≡ some h.0 = rw h.1 (strip-on w h.0) in never (cc)

pub none-strip : (w s : List ℕ) → (StartsWith w s → ⊥) → strip w s ≡ none
none-strip w s h = go (strip w s) refl
  where
    go : (o : Option (List ℕ)) → strip w s ≡ o → o ≡ none
    go none e = refl
    go (some r) e = absurd (h (r, strip-is w s r e))

pub after-iff : (w : List ℕ) (i r : Part) → (after w i ≡ some r) ↔ After w i r
after-iff w i r = (go (strip w i.bytes) refl, back)
  where
    go : (o : Option (List ℕ)) → strip w i.bytes ≡ o → moved (i.place + length w) o ≡ some r → After w i r
    go none q e = never (cc)
    go (some s) q e =
        let f : part (i.place + length w) s ≡ r = cc in
        subst (After w i) f (record { whole = strip-is w i.bytes s q; place = refl })

    back : After w i r → after w i ≡ some r
    back h =
        let e : strip w i.bytes ≡ some r.bytes = rw h.whole (strip-on w r.bytes) in
        rw e (ap some (same-part (part (i.place + length w) r.bytes) r (sym h.place) refl))

-- ---- numbers: one law over base and bound
pub all_true : (p : ℕ → Bool) (s : List ℕ) → All p s → all p s ≡ true
unfolding all
all_true p [] h = refl
all_true p (b ∷ s) h = rw h.0 (all_true p s h.1)

pub true-all : (p : ℕ → Bool) (s : List ℕ) → all p s ≡ true → All p s
unfolding all
true-all p [] e = tt
true-all p (b ∷ s) e = go (p b) refl (true-all p s) e
  where
    go : (t : Bool) → p b ≡ t → (all p s ≡ true → All p s) → t && all p s ≡ true → (p b ≡ true) × All p s
    go true q ih e = (q, ih e)
    go false q ih e = never (cc)

module _ (base top : ℕ) where
  pub digits-is : (s : List ℕ) (v : ℕ) → digits base top s ≡ some v → Digits base top s v
  digits-is [] v e = never (cc)
  digits-is (b ∷ s) v e = go (all (is_digit base) (b ∷ s)) refl (leb (numeral base 0 (b ∷ s)) top) refl e
    where
      go : (t : Bool) → all (is_digit base) (b ∷ s) ≡ t → (u : Bool) → leb (numeral base 0 (b ∷ s)) top ≡ u
          → cond (t && u) (some (numeral base 0 (b ∷ s))) none ≡ some v → Digits base top (b ∷ s) v
      go true q true r e =
          let f : numeral base 0 (b ∷ s) ≡ v = cc in
          record { some_digit = omega arith; all_digits = true-all (is_digit base) (b ∷ s) q; number = sym f; within = rw f at (leb-true (numeral base 0 (b ∷ s)) top r) }
      go true q false r e = never (cc)
      go false q u r e = never (cc)

  pub digits-one : (s : List ℕ) (v : ℕ) → Digits base top s v → digits base top s ≡ some v
  digits-one [] v h = absurd (omega (arith, h.some_digit))
  digits-one (b ∷ s) v h =
      let w : numeral base 0 (b ∷ s) ≤ top = rw (← h.number) h.within in
      rw (all_true (is_digit base) (b ∷ s) h.all_digits, le-leb (numeral base 0 (b ∷ s)) top w) (ap some (sym h.number))

  -- digits do not start with a byte that is none, as `+` and `-`
  sign-bad : (x : ℕ) (s : List ℕ) (v : ℕ) → digit x ≡ 16 → base ≤ 16 → Digits base top (x ∷ s) v → ⊥
  sign-bad x s v e l h = let f : digit x < base = ltb-true (digit x) base h.all_digits.0 in omega arith

  pub unsigned_is : (s : List ℕ) (v : ℕ) → unsigned base top s ≡ some v → Unsigned base top s v
  unfolding unsigned
  unsigned_is [] v e = never (cc)
  unsigned_is (b ∷ s) v e = go (eqb b 43) refl e
    where
      go : (t : Bool) → eqb b 43 ≡ t → cond t (digits base top s) (digits base top (b ∷ s)) ≡ some v → Unsigned base top (b ∷ s) v
      go true q e = inr (s, ap (λ (x : ℕ). x ∷ s) (eqb-true b 43 q), digits-is s v e)
      go false q e = inl (digits-is (b ∷ s) v e)

  pub unsigned-one : base ≤ 16 → (s : List ℕ) (v : ℕ) → Unsigned base top s v → unsigned base top s ≡ some v
  unfolding unsigned
  unsigned-one l [] v (inl h) = absurd (omega (arith, h.some_digit))
  unsigned-one l [] v (inr h) = never (cc h.1)
  unsigned-one l (b ∷ s) v (inl h) =
      let n : eqb b 43 ≡ false = ne_eqb b 43 (λ e. sign-bad 43 s v refl l (rw e at h)) in
      rw n (digits-one (b ∷ s) v h)
  unsigned-one l (b ∷ s) v (inr h) =
      let e : b ≡ 43 = cc h.1 in
      let f : h.0 ≡ s = cc h.1 in
      rw (eq-eqb b 43 e) (digits-one s v (rw f at h.2))

-- signed: `-` and digits, or what is unsigned
sign-inv : (f : ℕ → ℤ) (o : Option ℕ) (z : ℤ) → sign f o ≡ some z → (v : ℕ) × (o ≡ some v) × (z ≡ f v)
sign-inv f none z e = never (cc)
sign-inv f (some v) z e = (v, refl, cc)

pub signed_is : (s : List ℕ) (z : ℤ) → signed s ≡ some z → Signed s z
unfolding signed
signed_is [] z e = never (cc)
signed_is (b ∷ s) z e = go (eqb b 45) refl e
  where
    go : (t : Bool) → eqb b 45 ≡ t
        → cond t (sign (λ v. neg_ℤ (pos v)) (digits 10 (2 ^ 63) s)) (sign pos (unsigned 10 (2 ^ 63 - 1) (b ∷ s))) ≡ some z
        → Signed (b ∷ s) z
    go true q e =
        let i : (v : ℕ) × (digits 10 (2 ^ 63) s ≡ some v) × (z ≡ neg_ℤ (pos v)) = sign-inv (λ v. neg_ℤ (pos v)) (digits 10 (2 ^ 63) s) z e in
        inr (s, i.0, ap (λ (x : ℕ). x ∷ s) (eqb-true b 45 q), digits-is 10 (2 ^ 63) s i.0 i.1, i.2)
    go false q e =
        let i : (v : ℕ) × (unsigned 10 (2 ^ 63 - 1) (b ∷ s) ≡ some v) × (z ≡ pos v) = sign-inv pos (unsigned 10 (2 ^ 63 - 1) (b ∷ s)) z e in
        inl (i.0, unsigned_is 10 (2 ^ 63 - 1) (b ∷ s) i.0 i.1, i.2)

minus_bad : (top : ℕ) (s : List ℕ) (v : ℕ) → Unsigned 10 top (45 ∷ s) v → ⊥
minus_bad top s v (inl h) = sign-bad 10 top 45 s v refl (omega arith) h
minus_bad top s v (inr h) = let e : ◌≡◌ {A = ℕ} 45 43 = cc h.1 in omega arith

pub unsigned-nil : (base top v : ℕ) → Unsigned base top [] v → ⊥
unsigned-nil base top v (inl h) = omega (arith, h.some_digit)
unsigned-nil base top v (inr h) = never (cc h.1)

pub signed-one : (s : List ℕ) (z : ℤ) → Signed s z → signed s ≡ some z
unfolding signed
signed-one [] z (inl h) = absurd (unsigned-nil 10 (2 ^ 63 - 1) h.0 h.1)
signed-one [] z (inr h) = never (cc h.2)
signed-one (b ∷ s) z (inl h) =
    let n : eqb b 45 ≡ false = ne_eqb b 45 (λ e. minus_bad (2 ^ 63 - 1) s h.0 (rw e at h.1)) in
    rw (n, unsigned-one 10 (2 ^ 63 - 1) (omega arith) (b ∷ s) h.0 h.1) (ap some (sym h.2))
signed-one (b ∷ s) z (inr h) =
    let e : b ≡ 45 = cc h.2 in
    let f : h.0 ≡ s = cc h.2 in
    rw (eq-eqb b 45 e, digits-one 10 (2 ^ 63) s h.1 (rw f at h.3)) (ap some (sym h.4))

-- every leading `0x`
pub bare-is : (s : List ℕ) → (n : ℕ) × Stripped n s (bare s)
unfolding bare
bare-is [] = (0, (refl, λ h. never (cc h.1)))
bare-is (a ∷ []) = (0, (refl, λ h. never (cc h.1)))
bare-is (a ∷ b ∷ s) = go (bare-is s) (eqb a 48) refl (eqb b 120) refl
  where
    go : (n : ℕ) × Stripped n s (bare s) → (t : Bool) → eqb a 48 ≡ t → (u : Bool) → eqb b 120 ≡ u
        → (n : ℕ) × Stripped n (a ∷ b ∷ s) (cond (t && u) (bare s) (a ∷ b ∷ s))
    go ih true p true q = (suc ih.0, (s, ap₂ (λ (x y : ℕ). x ∷ y ∷ s) (eqb-true a 48 p) (eqb-true b 120 q), ih.1))
    go ih true p false q = (0, (refl, λ h. eqb-false b 120 q (cc h.1)))
    go ih false p u q = (0, (refl, λ h. eqb-false a 48 p (cc h.1)))

bare-stop : (s : List ℕ) → (StartsWith zero_x s → ⊥) → bare s ≡ s
unfolding bare
bare-stop [] h = refl
bare-stop (a ∷ []) h = refl
bare-stop (a ∷ b ∷ s) h = go (eqb a 48) refl (eqb b 120) refl
  where
    go : (t : Bool) → eqb a 48 ≡ t → (u : Bool) → eqb b 120 ≡ u → cond (t && u) (bare s) (a ∷ b ∷ s) ≡ a ∷ b ∷ s
    go true p true q = absurd (h (s, ap₂ (λ (x y : ℕ). x ∷ y ∷ s) (eqb-true a 48 p) (eqb-true b 120 q)))
    go true p false q = refl
    go false p u q = refl

pub bare-one : (n : ℕ) (s r : List ℕ) → Stripped n s r → bare s ≡ r
unfolding bare
bare-one zero s r h = rw h.0 (bare-stop r h.1)
bare-one (suc n) s r h = rw h.1 (bare-one n h.0 r h.2)

pub hex-iff : (top : ℕ) (s : List ℕ) (v : ℕ) → (hex top s ≡ some v) ↔ Hex top s v
hex-iff top s v = (
  λ e. ((bare-is s).0, bare s, (bare-is s).1, unsigned_is 16 top (bare s) v e),
  λ h. rw (bare-one h.0 s h.1 h.2) (unsigned-one 16 top (omega arith) h.1 v h.3),
)

pub position-iff : (s : List ℕ) (v : ℕ) → (position_of s ≡ some v) ↔ Position s v
position-iff s v = (go (hex top_position s) refl, back)
  where
    go : (o : Option ℕ) → hex top_position s ≡ o → or_else o (unsigned 10 top_position s) ≡ some v → Position s v
    go none q e = inr (λ w h. let f : hex top_position s ≡ some w = (hex-iff top_position s w).1 h in never (cc), unsigned_is 10 top_position s v e)
    go (some w) q e = inl ((hex-iff top_position s v).0 (q ∙ e))

    none-hex : ((w : ℕ) → Hex top_position s w → ⊥) → (o : Option ℕ) → hex top_position s ≡ o → o ≡ none
    none-hex n none q = refl
    none-hex n (some w) q = absurd (n w ((hex-iff top_position s w).0 q))

    back : Position s v → position_of s ≡ some v
    back (inl h) = rw ((hex-iff top_position s v).1 h)
    back (inr h) = rw (none-hex h.0 (hex top_position s) refl) (unsigned-one 10 top_position (omega arith) s v h.1)
