-- A line: the definition finds exactly what the grammar lists. Assumes nothing.
use Prim.Native.Nat.{ℕ, zero, suc, ◌+◌, ◌≤◌, ◌<◌}
use mathlib.Core.Path.{◌≡◌, refl, sym, ap, ◌∙◌, subst}
use mathlib.Core.Bool.{Bool, true, false, cond}
use mathlib.Core.Logic.{◌⊎◌, inl, inr, ⊎_elim}
use Rattle.std.specs.Prelude.{Option, Some as some, None as none}
use mathlib.Core.List.{List, [], ◌∷◌, ◌++◌, append-nil}
use native.Mathlib.Omega.{arith}
use lib.Dec.{leb}
use lib.ListN.{length}
use lib.IntN.{ℤ, pos, ◌*ℤ◌}
use borrow.Author.Tests.{eq-eqb, le-leb, lt-leb, leb-true, leb-false, not-true, not-false}
use Rattle.outcome.specs.Outcome.{Res, ok, refuse, and_then, need, check, no_time, no_position, bad_time, long_time, bad_position, large_position, bad_width, bad_height, bad_token}
use Rattle.grammar.specs.Index.{Said, size, palette, timestamp, IsSize, IsToken, Tokens, Fields, field, minutes, seconds, start_of, Steps, IsFilepos, TimestampTo, top_stored, IsTimestamp, LargePosition, Says, SaysNothing, size_word, palette_word, timestamp_word, filepos_word, top_side, top_token, IsOtherPart}
use Rattle.grammar.specs.IndexNumbers.{Valued, Hex, top_position}
use Rattle.grammar.specs.IndexParts.{parting, token_byte, unlike, All, Span, StartsWith, Halves, First, NoneOf, Last, comma, colon, letter_x}
use Rattle.grammar.specs.Parts.{Part}
use Rattle.idx_numbers_model.specs.Numbers.{unsigned, signed, bare, hex, or_else, position_of}
use Rattle.idx_numbers_model.specs.Parts.{part, valued, front, rest, trim, split, strip, after, found}
use Rattle.idx_lines_model.specs.Lines.{Two, halved, halves, size_or, cons_with, token_and, tokens, fields, steps, first_such, last_such, is_filepos, timestamp_at, by_word, line_of, is_other, parts_at, position_at}
use Rattle.clock_model.specs.Sums.{stays}
use Rattle.grammar.proofs.Positions.{position-within}
use Rattle.outcome.proofs.Laws.{ok-injective, ok-not-refuse, check-ok, and-true}
use Rattle.clock_model.proofs.Clock.{stays-is, is-stays}
use Rattle.idx_numbers_model.proofs.Grammar.{never, same-part, span-is, span-one, trim-is, trim-one, split-is, split_one, strip-on, strip-is, strip-none, none-strip, after-iff, unsigned_is, unsigned-one, signed_is, signed-one, hex-iff, position-iff, trims-is, trims-one}
use Rattle.idx_numbers_model.proofs.Steps.{other-false}

-- ---- an answer was given where each step gave one. In continuation form: what a step gave is a variable from there on
pub given : {A B C : Type 0} {b : B} (n : ℕ) (o : Option A) (k : A → Res B) → and_then (need n o) k ≡ ok b → ((a : A) → o ≡ some a → k a ≡ ok b → C) → C
given n none k e f = ok-not-refuse e
given n (some a) k e f = f a refl e

pub checked : {B C : Type 0} {b : B} (n : ℕ) (t : Bool) (r : Res B) → check t n r ≡ ok b → (t ≡ true → r ≡ ok b → C) → C
checked n t r e f = let w = check-ok t n r e in f w.0 w.1

-- and it was refused where a step was, or what followed
lost : {A B C : Type 0} (n m : ℕ) (o : Option A) (k : A → Res B) → and_then (need n o) k ≡ refuse m
    → (n ≡ m → C) → ((a : A) → o ≡ some a → k a ≡ refuse m → C) → C
lost n m none k e f g = f (cc)
lost n m (some a) k e f g = g a refl e

pub unchecked : {B C : Type 0} (n m : ℕ) (t : Bool) (r : Res B) → check t n r ≡ refuse m
    → (t ≡ false → n ≡ m → C) → (t ≡ true → r ≡ refuse m → C) → C
unchecked n m true r e f g = g refl e
unchecked n m false r e f g = f refl (cc)

-- ---- size
other_self : (sep : ℕ) → unlike sep sep ≡ false
other_self sep = rw (eq-eqb sep sep refl)

module _ (sep : ℕ) (p : Part) where
  pub halves-is : (t : Two) → halves sep p ≡ some t → Halves sep p t.left t.right
  halves-is t e = go (rest (unlike sep) p.bytes) (span-is (unlike sep) p.bytes) e
    where
      go : (r : List ℕ) → Span (unlike sep) p.bytes (front (unlike sep) p.bytes) r
          → halved p.place (front (unlike sep) p.bytes) r ≡ some t → Halves sep p t.left t.right
      go [] h e = never (cc)
      go (b ∷ s) h e =
          let q : record { left = part p.place (front (unlike sep) p.bytes); right = part (p.place + suc (length (front (unlike sep) p.bytes))) s } ≡ t = cc in
          subst (λ (x : Two). Halves sep p x.left x.right) q
          (record {
            whole = h.whole ∙ ap (λ (x : ℕ). front (unlike sep) p.bytes ++ x ∷ s) (other-false sep b h.stops);
            first = h.front;
            left = refl;
            right = refl;
          })

  pub halves-one : (t : Two) → Halves sep p t.left t.right → halves sep p ≡ some t
  halves-one t h =
      let a : List ℕ = t.left.bytes in
      let b : List ℕ = sep ∷ t.right.bytes in
      let s : (a ≡ front (unlike sep) p.bytes) × (b ≡ rest (unlike sep) p.bytes) = span-one (unlike sep) p.bytes a b (record { whole = h.whole; front = h.first; stops = other_self sep }) in
      rw (← s.0, ← s.1)
      (λ i. some (record { left = same-part (part p.place a) t.left (sym h.left) refl i; right = same-part (part (p.place + suc (length a)) t.right.bytes) t.right (sym h.right) refl i }))

  pub halves-none : halves sep p ≡ none → All (unlike sep) p.bytes
  halves-none e = go (rest (unlike sep) p.bytes) (span-is (unlike sep) p.bytes) e
    where
      go : (r : List ℕ) → Span (unlike sep) p.bytes (front (unlike sep) p.bytes) r
          → halved p.place (front (unlike sep) p.bytes) r ≡ none → All (unlike sep) p.bytes
      go [] h e = rw (h.whole, append-nil) h.front
      go (b ∷ s) h e = never (cc)

  pub none-halves : All (unlike sep) p.bytes → halves sep p ≡ none
  none-halves h =
      let s : (p.bytes ≡ front (unlike sep) p.bytes) × ([] ≡ rest (unlike sep) p.bytes) = span-one (unlike sep) p.bytes p.bytes [] (record { whole = sym (append-nil p.bytes); front = h; stops = tt }) in
      rw (← s.1)

pub size_is_lem : (i r : Part) (o : Option Said) → size_or i (halves letter_x r) ≡ ok o
    → ((o ≡ none) × All (unlike letter_x) r.bytes) ⊎ ((w : Valued ℕ) × (h : Valued ℕ) × (o ≡ some (size i w h)) × IsSize r w h)
size_is_lem i r o e = go (halves letter_x r) refl e
  where
    go : (t : Option Two) → halves letter_x r ≡ t → size_or i t ≡ ok o
        → ((o ≡ none) × All (unlike letter_x) r.bytes) ⊎ ((w : Valued ℕ) × (h : Valued ℕ) × (o ≡ some (size i w h)) × IsSize r w h)
    go none q e = inl (cc, halves-none letter_x r q)
    go (some t) q e =
        given bad_width (unsigned 10 top_side (trim t.left).bytes) _ e (λ w q₁ e₁.
        given bad_height (unsigned 10 top_side (trim t.right).bytes) _ e₁ (λ h q₂ e₂.
        inr (
          valued (trim t.left) w,
          valued (trim t.right) h,
          sym (ok-injective e₂),
          record {
            left = t.left;
            right = t.right;
            halves = halves-is letter_x r t q;
            trim_left = trim-is t.left;
            trim_right = trim-is t.right;
            width = unsigned_is 10 top_side (trim t.left).bytes w q₁;
            height = unsigned_is 10 top_side (trim t.right).bytes h q₂;
          },
        )))

pub size-one : (i r : Part) (w h : Valued ℕ) → IsSize r w h → size_or i (halves letter_x r) ≡ ok (some (size i w h))
size-one i r w h k =
    rw (
      halves-one letter_x r (record { left = k.left; right = k.right }) k.halves,
      trim-one k.left w.part k.trim_left,
      trim-one k.right h.part k.trim_right,
      unsigned-one 10 top_side (omega arith) w.part.bytes w.value k.width,
      unsigned-one 10 top_side (omega arith) h.part.bytes h.value k.height,
    )

-- ---- values in turn
pub cons_inv : {A : Type 0} (p : Part) (o : Option A) (q : Option (List (Valued A))) (ts : List (Valued A)) → cons_with p o q ≡ some ts
    → (v : A) × (vs : List (Valued A)) × (o ≡ some v) × (q ≡ some vs) × (valued p v ∷ vs ≡ ts)
cons_inv p none q ts e = never (cc)
cons_inv p (some v) none ts e = never (cc)
cons_inv p (some v) (some vs) ts e = (v, vs, refl, refl, cc)

-- ---- palette
hex-nil : (top v : ℕ) → Hex top [] v → ⊥
unfolding bare unsigned
hex-nil top v h = let e : hex top [] ≡ some v = (hex-iff top [] v).1 h in never (cc)

nil_left : (a b : List ℕ) → [] ≡ a ++ b → a ≡ []
nil_left [] b e = refl
nil_left (x ∷ a) b e = never (cc)

pub tokens-is : (n at : ℕ) (s : List ℕ) (ts : List (Valued ℕ)) → tokens n at s ≡ some ts → Tokens n at s ts
unfolding tokens
tokens-is zero at s ts e = let f : [] ≡ ts = cc in subst (Tokens 0 at s) f tt
tokens-is (suc n) at s ts e = go (tokens-is n) (rest parting s) (span-is parting s) e
  where
    go : ((a : ℕ) (l : List ℕ) (vs : List (Valued ℕ)) → tokens n a l ≡ some vs → Tokens n a l vs) → (m : List ℕ) → Span parting s (front parting s) m
        → token_and (at + length (front parting s)) m (tokens n) ≡ some ts → Tokens (suc n) at s ts
    go ih [] h e = let f : [] ≡ ts = cc in subst (Tokens (suc n) at s) f (rw (h.whole, append-nil) h.front)
    go ih (b ∷ m) h e =
        let p : Part = part (at + length (front parting s)) (front token_byte (b ∷ m)) in
        let c = cons_inv p (hex top_token (front token_byte (b ∷ m))) (tokens n (p.place + length (front token_byte (b ∷ m))) (rest token_byte (b ∷ m))) ts e in
        subst (Tokens (suc n) at s) c.4 (
          rest token_byte (b ∷ m),
          record { gap = front parting s; middle = b ∷ m; between = h; token = span-is token_byte (b ∷ m); place = refl },
          (hex-iff top_token (front token_byte (b ∷ m)) c.0).0 c.2,
          ih (p.place + length (front token_byte (b ∷ m))) (rest token_byte (b ∷ m)) c.1 c.3,
        )

pub tokens-one : (n at : ℕ) (s : List ℕ) (ts : List (Valued ℕ)) → Tokens n at s ts → tokens n at s ≡ some ts
unfolding tokens
tokens-one zero at s [] h = refl
tokens-one zero at s (t ∷ ts) h = absurd h
tokens-one (suc n) at s [] h =
    let e : (s ≡ front parting s) × ([] ≡ rest parting s) = span-one parting s s [] (record { whole = sym (append-nil s); front = h; stops = tt }) in
    rw (← e.1)
tokens-one (suc n) at s (t ∷ ts) h =
    let k : IsToken at s t.part h.0 = h.1 in
    let e : (k.gap ≡ front parting s) × (k.middle ≡ rest parting s) = span-one parting s k.gap k.middle k.between in
    rw (← e.0, ← e.1) (go k.middle k.token (tokens-one n (t.part.place + length t.part.bytes) h.0 ts h.3))
  where
    go : (m : List ℕ) → Span token_byte m t.part.bytes h.0 → tokens n (t.part.place + length t.part.bytes) h.0 ≡ some ts
        → token_and (at + length h.1.gap) m (tokens n) ≡ some (t ∷ ts)
    go [] k ih = absurd (hex-nil top_token t.value (rw (nil_left t.part.bytes h.0 k.whole) at h.2))
    go (b ∷ m) k ih =
        let e : (t.part.bytes ≡ front token_byte (b ∷ m)) × (h.0 ≡ rest token_byte (b ∷ m)) = span-one token_byte (b ∷ m) t.part.bytes h.0 k in
        rw (← e.0, ← e.1, (hex-iff top_token t.part.bytes t.value).1 h.2, ← h.1.place, ih)

-- ---- timestamp: fields, the sum, the first and the last
pub fields-is : (n : ℕ) (ps : List Part) (fs : List (Valued ℤ)) → fields n ps ≡ some fs → Fields n ps fs
unfolding fields
fields-is zero ps fs e = let f : [] ≡ fs = cc in subst (Fields 0 ps) f tt
fields-is (suc n) [] fs e = let f : [] ≡ fs = cc in subst (Fields (suc n) []) f tt
fields-is (suc n) (p ∷ ps) fs e =
    let c = cons_inv p (signed p.bytes) (fields n ps) fs e in
    subst (Fields (suc n) (p ∷ ps)) c.4 (refl, signed_is p.bytes c.0 c.2, fields-is n ps c.1 c.3)

pub fields-one : (n : ℕ) (ps : List Part) (fs : List (Valued ℤ)) → Fields n ps fs → fields n ps ≡ some fs
unfolding fields
fields-one zero ps [] h = refl
fields-one zero ps (f ∷ fs) h = absurd h
fields-one (suc n) [] [] h = refl
fields-one (suc n) [] (f ∷ fs) h = absurd h
fields-one (suc n) (p ∷ ps) [] h = absurd h
fields-one (suc n) (p ∷ ps) (f ∷ fs) h =
    rw (signed-one p.bytes f.value h.1, fields-one n ps fs h.2, ← h.0)

pub steps-is : (fs : List (Valued ℤ)) → steps fs ≡ true → Steps fs
unfolding steps
steps-is fs e =
    let a = and-true (stays (field 0 fs *ℤ pos 60)) _ e in
    let b = and-true (stays (minutes fs)) _ a.1 in
    let c = and-true (stays (minutes fs *ℤ pos 60)) _ b.1 in
    let d = and-true (stays (seconds fs)) _ c.1 in
    let f = and-true (stays (seconds fs *ℤ pos 1000000)) _ d.1 in
    let g = and-true (stays (field 3 fs *ℤ pos 1000)) _ f.1 in
    record {
      hours = stays-is (field 0 fs *ℤ pos 60) a.0;
      to_minutes = stays-is (minutes fs) b.0;
      sixty = stays-is (minutes fs *ℤ pos 60) c.0;
      to_seconds = stays-is (seconds fs) d.0;
      million = stays-is (seconds fs *ℤ pos 1000000) f.0;
      millis = stays-is (field 3 fs *ℤ pos 1000) g.0;
      start = stays-is (start_of fs) g.1;
    }

pub steps-one : (fs : List (Valued ℤ)) → Steps fs → steps fs ≡ true
unfolding steps
steps-one fs h =
    rw (
      is-stays (field 0 fs *ℤ pos 60) h.hours,
      is-stays (minutes fs) h.to_minutes,
      is-stays (minutes fs *ℤ pos 60) h.sixty,
      is-stays (seconds fs) h.to_seconds,
      is-stays (seconds fs *ℤ pos 1000000) h.million,
      is-stays (field 3 fs *ℤ pos 1000) h.millis,
      is-stays (start_of fs) h.start,
    )

-- a test that tells whether P holds
module _ (P : Part → Type 0) (t : Part → Bool) (yes_P : (p : Part) → t p ≡ true → P p) (no_P : (p : Part) → t p ≡ false → P p → ⊥) where
  tells : (p : Part) → P p → t p ≡ true
  tells p h = go (t p) refl
    where
      go : (u : Bool) → t p ≡ u → u ≡ true
      go true e = refl
      go false e = absurd (no_P p e h)

  denies : (p : Part) → (P p → ⊥) → t p ≡ false
  denies p h = go (t p) refl
    where
      go : (u : Bool) → t p ≡ u → u ≡ false
      go true e = absurd (h (yes_P p e))
      go false e = refl

  pub first_is : (ps : List Part) (x : Part) → first_such t ps ≡ some x → First P ps x
  unfolding first_such
  first_is [] x e = never (cc)
  first_is (p ∷ ps) x e = go (first_is ps x) (t p) refl e
    where
      go : (first_such t ps ≡ some x → First P ps x) → (u : Bool) → t p ≡ u → cond u (some p) (first_such t ps) ≡ some x → First P (p ∷ ps) x
      go ih true q e = inl (yes_P p q, cc)
      go ih false q e = inr (no_P p q, ih e)

  pub first_one : (ps : List Part) (x : Part) → First P ps x → first_such t ps ≡ some x
  unfolding first_such
  first_one [] x h = absurd h
  first_one (p ∷ ps) x (inl h) = rw (tells p h.0) (ap some h.1)
  first_one (p ∷ ps) x (inr h) = rw (denies p h.0) (first_one ps x h.1)

  none_last : (ps : List Part) → NoneOf P ps → last_such t ps ≡ none
  unfolding last_such
  none_last [] h = refl
  none_last (p ∷ ps) h = rw (none_last ps h.1, denies p h.0)

  last_none : (ps : List Part) → last_such t ps ≡ none → NoneOf P ps
  unfolding last_such
  last_none [] e = tt
  last_none (p ∷ ps) e = go (last_none ps) (last_such t ps) refl (t p) refl e
    where
      go : (last_such t ps ≡ none → NoneOf P ps) → (o : Option Part) → last_such t ps ≡ o → (u : Bool) → t p ≡ u → or_else o (cond u (some p) none) ≡ none → NoneOf P (p ∷ ps)
      go ih (some y) q u r e = never (cc)
      go ih none q true r e = never (cc)
      go ih none q false r e = (no_P p r, ih q)

  pub last_is : (ps : List Part) (x : Part) → last_such t ps ≡ some x → Last P ps x
  unfolding last_such
  last_is [] x e = never (cc)
  last_is (p ∷ ps) x e = go (last_is ps x) (last_such t ps) refl (t p) refl e
    where
      go : (last_such t ps ≡ some x → Last P ps x) → (o : Option Part) → last_such t ps ≡ o → (u : Bool) → t p ≡ u → or_else o (cond u (some p) none) ≡ some x → Last P (p ∷ ps) x
      go ih (some y) q u r e = inl (ih (q ∙ e))
      go ih none q true r e = inr (last_none ps q, yes_P p r, cc)
      go ih none q false r e = never (cc)

  pub last_one : (ps : List Part) (x : Part) → Last P ps x → last_such t ps ≡ some x
  unfolding last_such
  last_one [] x h = absurd h
  last_one (p ∷ ps) x (inl h) = rw (last_one ps x h)
  last_one (p ∷ ps) x (inr h) = rw (none_last ps h.0, tells p h.1) (ap some h.2)

-- a part starts `filepos:` where the test says so
pub filepos-yes : (p : Part) → is_filepos p ≡ true → IsFilepos p
filepos-yes p e = go (strip filepos_word p.bytes) refl e
  where
    go : (o : Option (List ℕ)) → strip filepos_word p.bytes ≡ o → found o ≡ true → IsFilepos p
    go none q e = never (cc)
    go (some r) q e = (r, strip-is filepos_word p.bytes r q)

pub filepos-no : (p : Part) → is_filepos p ≡ false → IsFilepos p → ⊥
filepos-no p e h = go (strip filepos_word p.bytes) refl e
  where
    go : (o : Option (List ℕ)) → strip filepos_word p.bytes ≡ o → found o ≡ false → ⊥
    go none q e = strip-none filepos_word p.bytes q h
    go (some r) q e = never (cc)

other-yes : (p : Part) → is_other p ≡ true → IsOtherPart p
other-yes p e = filepos-no p (not-true (is_filepos p) e)

other_no : (p : Part) → is_other p ≡ false → IsOtherPart p → ⊥
other_no p e h = h (filepos-yes p (not-false (is_filepos p) e))

-- what each step found is a timestamp, within any bound that the position keeps
timestamp-read : (top : ℕ) (r t p : Part) (fs : List (Valued ℤ)) (x : Part) (v : ℕ)
    → first_such is_other (parts_at r.place r.bytes) ≡ some t
    → last_such is_filepos (parts_at r.place r.bytes) ≡ some p → fields 4 (split colon t.place t.bytes) ≡ some fs
    → steps fs ≡ true → after filepos_word p ≡ some x → position_of (trim x).bytes ≡ some v → v ≤ top
    → TimestampTo top r (parts_at r.place r.bytes) fs (valued (trim x) v)
unfolding parts_at
timestamp-read top r t p fs x v q₁ q₂ q₃ q₄ q₅ q₆ q₇ =
    record {
      between = split comma r.place r.bytes;
      by_commas = split-is comma r.place r.bytes;
      trimmed = trims-is (split comma r.place r.bytes);
      time = t;
      first_other = first_is IsOtherPart is_other other-yes other_no (parts_at r.place r.bytes) t q₁;
      position = p;
      last_filepos = last_is IsFilepos is_filepos filepos-yes filepos-no (parts_at r.place r.bytes) p q₂;
      all_fields = split colon t.place t.bytes;
      by_colons = split-is colon t.place t.bytes;
      first_four = fields-is 4 (split colon t.place t.bytes) fs q₃;
      steps = steps-is fs q₄;
      text = x;
      after_word = (after-iff filepos_word p x).0 q₅;
      trim_text = trim-is x;
      reads = (position-iff (trim x).bytes v).0 q₆;
      stored = q₇;
    }

pub timestamp-is : (i r : Part) (o : Option Said) → timestamp_at i r ≡ ok o
    → (ps : List Part) × (fs : List (Valued ℤ)) × (n : Valued ℕ) × (o ≡ some (timestamp i ps fs n)) × IsTimestamp r ps fs n
timestamp-is i r o e =
    let ps : List Part = parts_at r.place r.bytes in
    given no_time (first_such is_other ps) _ e (λ t q₁ e₁.
    given no_position (last_such is_filepos ps) _ e₁ (λ p q₂ e₂.
    given bad_time (fields 4 (split colon t.place t.bytes)) _ e₂ (λ fs q₃ e₃.
    checked long_time (steps fs) (position_at i ps fs p) e₃ (λ q₄ e₄.
    given bad_position (after filepos_word p) _ e₄ (λ x q₅ e₅.
    given bad_position (position_of (trim x).bytes) _ e₅ (λ v q₆ e₆.
    checked large_position (leb v top_stored) (ok (some (timestamp i ps fs (valued (trim x) v)))) e₆ (λ q₇ e₇. (
      ps,
      fs,
      valued (trim x) v,
      sym (ok-injective e₇),
      timestamp-read top_stored r t p fs x v q₁ q₂ q₃ q₄ q₅ q₆ (leb-true v top_stored q₇),
    ))))))))

-- refused with 41: it is a timestamp in all but the bound
timestamp-large : (i r : Part) → timestamp_at i r ≡ refuse large_position
    → (ps : List Part) × (fs : List (Valued ℤ)) × (n : Valued ℕ) × TimestampTo top_position r ps fs n
    × (top_stored < n.value)
timestamp-large i r e =
    let ps : List Part = parts_at r.place r.bytes in
    lost no_time large_position (first_such is_other ps) _ e (λ z. absurd (omega arith)) (λ t q₁ e₁.
    lost no_position large_position (last_such is_filepos ps) _ e₁ (λ z. absurd (omega arith)) (λ p q₂ e₂.
    lost bad_time large_position (fields 4 (split colon t.place t.bytes)) _ e₂ (λ z. absurd (omega arith))
    (λ fs q₃ e₃.
    unchecked long_time large_position (steps fs) (position_at i ps fs p) e₃ (λ q₄ z. absurd (omega arith)) (λ q₄ e₄.
    lost bad_position large_position (after filepos_word p) _ e₄ (λ z. absurd (omega arith)) (λ x q₅ e₅.
    lost bad_position large_position (position_of (trim x).bytes) _ e₅ (λ z. absurd (omega arith)) (λ v q₆ e₆.
    unchecked large_position large_position (leb v top_stored) (ok (some (timestamp i ps fs (valued (trim x) v)))) e₆
    (λ q₇ z. (
      ps,
      fs,
      valued (trim x) v,
      timestamp-read top_position r t p fs x v q₁ q₂ q₃ q₄ q₅ q₆
          (position-within (trim x).bytes v ((position-iff (trim x).bytes v).0 q₆)),
      leb-false v top_stored q₇,
    )) (λ q₇ f. ok-not-refuse (sym f))))))))

-- a timestamp within any bound is found, and then asked whether it is too large
timestamp-found : (top : ℕ) (i r : Part) (ps : List Part) (fs : List (Valued ℤ)) (n : Valued ℕ)
    → TimestampTo top r ps fs n
    → timestamp_at i r ≡ check (leb n.value top_stored) large_position (ok (some (timestamp i ps fs n)))
unfolding parts_at
timestamp-found top i r ps fs n h =
    rw (
      split_one comma r.place r.bytes h.between h.by_commas,
      trims-one h.between ps h.trimmed,
      first_one IsOtherPart is_other other-yes other_no ps h.time h.first_other,
      last_one IsFilepos is_filepos filepos-yes filepos-no ps h.position h.last_filepos,
      split_one colon h.time.place h.time.bytes h.all_fields h.by_colons,
      fields-one 4 h.all_fields fs h.first_four,
      steps-one fs h.steps,
      (after-iff filepos_word h.position h.text).1 h.after_word,
      trim-one h.text n.part h.trim_text,
      (position-iff n.part.bytes n.value).1 h.reads,
    )

pub timestamp-one : (i r : Part) (ps : List Part) (fs : List (Valued ℤ)) (n : Valued ℕ) → IsTimestamp r ps fs n
    → timestamp_at i r ≡ ok (some (timestamp i ps fs n))
timestamp-one i r ps fs n h = timestamp-found top_stored i r ps fs n h ∙ rw (le-leb n.value top_stored h.stored)

-- ---- a line
abbrev pub SaysThis : Part → Option Said → Type 0
SaysThis i none = SaysNothing i
SaysThis i (some l) = Says i l

after_none : (w : List ℕ) (i : Part) → after w i ≡ none → StartsWith w i.bytes → ⊥
after_none w i e h = let f : strip w i.bytes ≡ some h.0 = rw h.1 (strip-on w h.0) in never (cc (rw f at e))

none_after : (w : List ℕ) (i : Part) → (StartsWith w i.bytes → ⊥) → after w i ≡ none
none_after w i h = rw (none-strip w i.bytes h)

pub line-is : (i : Part) (o : Option Said) → line_of i ≡ ok o → SaysThis i o
unfolding line_of
line-is i o e = go (after size_word i) refl (after palette_word i) refl (after timestamp_word i) refl e
  where
    go : (a : Option Part) → after size_word i ≡ a → (b : Option Part) → after palette_word i ≡ b → (c : Option Part) → after timestamp_word i ≡ c
        → by_word i a b c ≡ ok o → SaysThis i o
    go (some r) p b q c s e =
        ⊎_elim (λ k. subst (SaysThis i) (sym k.0) (inr (r, (after-iff size_word i r).0 p, k.1)))
        (λ k. subst (SaysThis i) (sym k.2) (refl, r, (after-iff size_word i r).0 p, k.3))
        (size_is_lem i r o e)
    go none p (some r) q c s e =
        given bad_token (tokens 16 r.place r.bytes) _ e (λ ts q₁ e₁.
        subst (SaysThis i) (ok-injective e₁) (refl, r, (after-iff palette_word i r).0 q, tokens-is 16 r.place r.bytes ts q₁))
    go none p none q (some r) s e =
        let k = timestamp-is i r o e in
        subst (SaysThis i) (sym k.3) (refl, r, (after-iff timestamp_word i r).0 s, k.4)
    go none p none q none s e = subst (SaysThis i) (ok-injective e) (inl (after_none size_word i p, after_none palette_word i q, after_none timestamp_word i s))

pub line-one : (i : Part) (o : Option Said) → SaysThis i o → line_of i ≡ ok o
unfolding line_of strip
line-one i none (inl h) = rw (none_after size_word i h.0, none_after palette_word i h.1, none_after timestamp_word i h.2)
line-one i none (inr h) = rw ((after-iff size_word i h.0).1 h.1, none-halves letter_x h.0 h.2)
line-one i (some (size l w h)) k =
    rw ((after-iff size_word i k.1).1 k.2, k.0) (size-one i k.1 w h k.3)
line-one i (some (palette l ts)) k =
    let n : after size_word i ≡ none = rw k.2.whole refl in
    rw (n, (after-iff palette_word i k.1).1 k.2, k.0, tokens-one 16 k.1.place k.1.bytes ts k.3)
line-one i (some (timestamp l ps fs n)) k =
    let a : after size_word i ≡ none = rw k.2.whole refl in
    let b : after palette_word i ≡ none = rw k.2.whole refl in
    rw (a, b, (after-iff timestamp_word i k.1).1 k.2, k.0) (timestamp-one i k.1 ps fs n k.3)

-- a line is refused with 41 exactly where it is a timestamp whose position is too large
pub line-large : (i : Part) → line_of i ≡ refuse large_position → LargePosition i
unfolding line_of
line-large i e = go (after size_word i) (after palette_word i) (after timestamp_word i) refl e
  where
    sides : (t : Option Two) → size_or i t ≡ refuse large_position → ⊥
    sides none e = ok-not-refuse (sym e)
    sides (some t) e =
        lost bad_width large_position (unsigned 10 top_side (trim t.left).bytes) _ e (λ z. omega arith) (λ w q₁ e₁.
        lost bad_height large_position (unsigned 10 top_side (trim t.right).bytes) _ e₁ (λ z. omega arith)
        (λ h q₂ e₂. ok-not-refuse (sym e₂)))

    go : (a b c : Option Part) → after timestamp_word i ≡ c → by_word i a b c ≡ refuse large_position → LargePosition i
    go (some r) b c s e = absurd (sides (halves letter_x r) e)
    go none (some r) c s e =
        lost bad_token large_position (tokens 16 r.place r.bytes) _ e (λ z. absurd (omega arith))
        (λ ts q₁ e₁. ok-not-refuse (sym e₁))
    go none none (some r) s e =
        let k = timestamp-large i r e in
        record {
          rest = r;
          after_word = (after-iff timestamp_word i r).0 s;
          parts = k.0;
          fields = k.1;
          number = k.2;
          reads = k.3;
          above = k.4;
        }
    go none none none s e = ok-not-refuse (sym e)

pub large-line : (i : Part) → LargePosition i → line_of i ≡ refuse large_position
unfolding line_of strip
large-line i h =
    let a : after size_word i ≡ none = rw h.after_word.whole refl in
    let b : after palette_word i ≡ none = rw h.after_word.whole refl in
    rw (a, b, (after-iff timestamp_word i h.rest).1 h.after_word)
    (timestamp-found top_position i h.rest h.parts h.fields h.number h.reads
    ∙ rw (lt-leb h.number.value top_stored h.above))
