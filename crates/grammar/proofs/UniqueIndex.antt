-- No two lists of lines pass: bytes have one number, a line one list of parts, tokens and fields, and an index text one list of lines.
-- Assumes nothing.
use Prim.Native.Nat.{ℕ, zero, suc, ◌+◌, ◌-◌, ◌^◌}
use native.Mathlib.Omega.{arith}
use mathlib.Core.Path.{◌≡◌, refl, sym, ap, ap₂, ◌∙◌}
use mathlib.Core.Logic.{◌⊎◌, inl, inr}
use mathlib.Core.Bool.{false, not}
use mathlib.Core.List.{List, [], ◌∷◌, ◌++◌}
use lib.ListN.{length}
use lib.IntN.{ℤ, pos, neg_ℤ}
use Rattle.grammar.specs.Parts.{Part}
use Rattle.grammar.specs.IndexParts.{parting, token_byte, line_end, comma, colon, letter_x, All, Span, Trimmed, After}
use Rattle.grammar.specs.IndexNumbers.{Valued, is_digit, Digits, Unsigned, Signed, Stripped, Hex, top_position, Position}
use Rattle.grammar.specs.Index.{Said, size, palette, timestamp, size_word, palette_word, timestamp_word, IsSize, top_side, top_token, IsToken, Tokens, Fields, IsFilepos, IsOtherPart, filepos_word, TimestampTo, top_stored, Says, SaysNothing, LinesListed, IsLines, ListedText, of_lines, no_bytes, IsText}
use Rattle.grammar.proofs.UniqueParts.{never, not-empty, head-same, tail_same, all_rest, span_unique, trimmed-unique, all-trimmed-unique, has_separator, parted_unique, halves-unique, after-unique, first-unique, last-unique}

-- ---- Numbers

-- digits do not start with a byte that is none
no_digit : (base top b : ℕ) (s r : List ℕ) (v : ℕ) → is_digit base b ≡ false → s ≡ b ∷ r → Digits base top s v → ⊥
no_digit base top b s r v d e h = never (is_digit base b) (rw e at h.all_digits).0 d

digits-unique : (base top : ℕ) (s : List ℕ) (v w : ℕ) → Digits base top s v → Digits base top s w → v ≡ w
digits-unique base top s v w h k = h.number ∙ sym k.number

module _ (base top : ℕ) (plus : is_digit base 43 ≡ false) where
  unsigned-unique : (s : List ℕ) (v w : ℕ) → Unsigned base top s v → Unsigned base top s w → v ≡ w
  unsigned-unique s v w (inl h) (inl k) = digits-unique base top s v w h k
  unsigned-unique s v w (inl h) (inr k) = absurd (no_digit base top 43 s k.0 v plus k.1 h)
  unsigned-unique s v w (inr h) (inl k) = absurd (no_digit base top 43 s h.0 w plus h.1 k)
  unsigned-unique s v w (inr h) (inr k) =
      digits-unique base top h.0 v w h.2 (rw (tail_same 43 43 h.0 k.0 (sym h.1 ∙ k.1)) k.2)

  -- a number has a byte
  unsigned-some : (v : ℕ) → Unsigned base top [] v → ⊥
  unsigned-some v (inl h) = omega (arith, h.some_digit)
  unsigned-some v (inr h) = not-empty 43 h.0 h.1

-- a number without a sign or with a plus has no minus in front
no_minus : (s r : List ℕ) (v : ℕ) → s ≡ 45 ∷ r → Unsigned 10 (2 ^ 63 - 1) s v → ⊥
no_minus s r v e (inl h) = no_digit 10 (2 ^ 63 - 1) 45 s r v refl e h
no_minus s r v e (inr h) = omega (arith, head-same 45 43 r h.0 (sym e ∙ h.1))

signed-unique : (s : List ℕ) (y z : ℤ) → Signed s y → Signed s z → y ≡ z
signed-unique s y z (inl h) (inl k) = h.2 ∙ ap pos (unsigned-unique 10 (2 ^ 63 - 1) refl s h.0 k.0 h.1 k.1) ∙ sym k.2
signed-unique s y z (inl h) (inr k) = absurd (no_minus s k.0 h.0 k.2 h.1)
signed-unique s y z (inr h) (inl k) = absurd (no_minus s h.0 k.0 h.2 k.1)
signed-unique s y z (inr h) (inr k) =
    let q : h.0 ≡ k.0 = tail_same 45 45 h.0 k.0 (sym h.2 ∙ k.2) in
    let v : h.1 ≡ k.1 = digits-unique 10 (2 ^ 63) h.0 h.1 k.1 h.3 (rw q k.3) in
    h.4 ∙ ap (λ (n : ℕ). neg_ℤ (pos n)) v ∙ sym k.4

-- every leading `0x` is taken away
stripped_unique : (n m : ℕ) (s r r' : List ℕ) → Stripped n s r → Stripped m s r' → r ≡ r'
stripped_unique zero zero s r r' h k = sym h.0 ∙ k.0
stripped_unique zero (suc m) s r r' h k = absurd (h.1 (k.0, sym h.0 ∙ k.1))
stripped_unique (suc n) zero s r r' h k = absurd (k.1 (h.0, sym k.0 ∙ h.1))
stripped_unique (suc n) (suc m) s r r' h k =
    let t : h.0 ≡ k.0 = tail_same 120 120 h.0 k.0 (tail_same 48 48 (120 ∷ h.0) (120 ∷ k.0) (sym h.1 ∙ k.1)) in
    stripped_unique n m h.0 r r' h.2 (rw t k.2)

stripped-some : (n : ℕ) (r : List ℕ) → Stripped n [] r → [] ≡ r
stripped-some zero r h = h.0
stripped-some (suc n) r h = absurd (not-empty 48 (120 ∷ h.0) h.1)

module _ (top : ℕ) where
  hex-unique : (s : List ℕ) (v w : ℕ) → Hex top s v → Hex top s w → v ≡ w
  hex-unique s v w h k =
      let r : h.1 ≡ k.1 = stripped_unique h.0 k.0 s h.1 k.1 h.2 k.2 in
      unsigned-unique 16 top refl h.1 v w h.3 (rw r k.3)

  hex-some : (v : ℕ) → Hex top [] v → ⊥
  hex-some v h = unsigned-some 16 top refl v (rw (stripped-some h.0 h.1 h.2) h.3)

position-unique : (s : List ℕ) (v w : ℕ) → Position s v → Position s w → v ≡ w
position-unique s v w (inl h) (inl k) = hex-unique top_position s v w h k
position-unique s v w (inl h) (inr k) = absurd (k.0 v h)
position-unique s v w (inr h) (inl k) = absurd (h.0 w k)
position-unique s v w (inr h) (inr k) = unsigned-unique 10 top_position refl s v w h.1 k.1

pub valued : {A : Type 0} (a b : Valued A) → a.part ≡ b.part → a.value ≡ b.value → a ≡ b
valued a b p v = λ t. record { part = p t; value = v t }

-- ---- Sizes

pub record Two (w h w' h' : Valued ℕ) : Type 0 where
  pub width_same : w ≡ w'
  pub height_same : h ≡ h'

side-unique : (o : Part) (a b : Valued ℕ) → Trimmed o a.part → Trimmed o b.part → Unsigned 10 top_side a.part.bytes a.value → Unsigned 10 top_side b.part.bytes b.value → a ≡ b
side-unique o a b h k x y =
    let p : a.part ≡ b.part = trimmed-unique o a.part b.part h k in
    valued a b p (unsigned-unique 10 top_side refl a.part.bytes a.value b.value x (rw p y))

size-unique : (r : Part) (w h w' h' : Valued ℕ) → IsSize r w h → IsSize r w' h' → Two w h w' h'
size-unique r w h w' h' x y =
    let s = halves-unique letter_x r x.left x.right y.left y.right x.halves y.halves in
    record {
      width_same = side-unique x.left w w' x.trim_left (rw s.left_same y.trim_left) x.width y.width;
      height_same = side-unique x.right h h' x.trim_right (rw s.right_same y.trim_right) x.height y.height;
    }

-- ---- Tokens

pub record OneToken (t u : Part) (a b : List ℕ) : Type 0 where
  pub token_same : t ≡ u
  pub rest_same : a ≡ b

token_unique : (at : ℕ) (s : List ℕ) (t u : Part) (a b : List ℕ) → IsToken at s t a → IsToken at s u b → OneToken t u a b
token_unique at s t u a b h k =
    let g = span_unique parting s h.gap h.middle k.gap k.middle h.between k.between in
    let k' : Span token_byte h.middle u.bytes b = rw g.rest_same k.token in
    let n = span_unique token_byte h.middle t.bytes a u.bytes b h.token k' in
    let p : t.place ≡ u.place = h.place ∙ ap (λ (l : List ℕ). at + length l) g.front_same ∙ sym k.place in
    record { token_same = λ i. record { place = p i; bytes = n.front_same i }; rest_same = n.rest_same }

-- a token has a byte, so it does not stand where all bytes part
no_token : (t rest : List ℕ) (v : ℕ) → Hex top_token t v → All token_byte t → All parting (t ++ rest) → ⊥
no_token [] rest v x h k = hex-some top_token v x
no_token (b ∷ t) rest v x h k = never (token_byte b) h.0 (ap not k.0)

not-token : (at : ℕ) (s : List ℕ) (t : Valued ℕ) (rest : List ℕ) → All parting s → IsToken at s t.part rest → Hex top_token t.part.bytes t.value → ⊥
not-token at s t rest h k x =
    let m : All parting k.middle = all_rest parting k.gap k.middle (rw k.between.whole at h) in
    no_token t.part.bytes rest t.value x k.token.front (rw k.token.whole at m)

tokens-unique : (n at : ℕ) (s : List ℕ) (a b : List (Valued ℕ)) → Tokens n at s a → Tokens n at s b → a ≡ b
tokens-unique zero at s [] [] h k = refl
tokens-unique zero at s [] (u ∷ b) h k = absurd k
tokens-unique zero at s (t ∷ a) b h k = absurd h
tokens-unique (suc n) at s [] [] h k = refl
tokens-unique (suc n) at s [] (u ∷ b) h k = absurd (not-token at s u k.0 h k.1 k.2)
tokens-unique (suc n) at s (t ∷ a) [] h k = absurd (not-token at s t h.0 k h.1 h.2)
tokens-unique (suc n) at s (t ∷ a) (u ∷ b) h k =
    let o = token_unique at s t.part u.part h.0 k.0 h.1 k.1 in
    let q : t ≡ u = valued t u o.token_same (hex-unique top_token t.part.bytes t.value u.value h.2 (rw o.token_same k.2)) in
    let k' : Tokens n (t.part.place + length t.part.bytes) h.0 b = rw (o.token_same, o.rest_same) k.3 in
    ap₂ ◌∷◌ q (tokens-unique n (t.part.place + length t.part.bytes) h.0 a b h.3 k')

-- ---- Timestamps

fields-unique : (n : ℕ) (ps : List Part) (a b : List (Valued ℤ)) → Fields n ps a → Fields n ps b → a ≡ b
fields-unique zero ps [] [] h k = refl
fields-unique zero ps [] (g ∷ b) h k = absurd k
fields-unique zero ps (f ∷ a) b h k = absurd h
fields-unique (suc n) [] [] [] h k = refl
fields-unique (suc n) [] [] (g ∷ b) h k = absurd k
fields-unique (suc n) [] (f ∷ a) b h k = absurd h
fields-unique (suc n) (p ∷ ps) [] b h k = absurd h
fields-unique (suc n) (p ∷ ps) (f ∷ a) [] h k = absurd k
fields-unique (suc n) (p ∷ ps) (f ∷ a) (g ∷ b) h k =
    ap₂ ◌∷◌ (valued f g (h.0 ∙ sym k.0) (signed-unique p.bytes f.value g.value h.1 k.1))
    (fields-unique n ps a b h.2 k.2)

pub record OneTimestamp (ps ps' : List Part) (fs fs' : List (Valued ℤ)) (n n' : Valued ℕ) : Type 0 where
  pub parts_same : ps ≡ ps'
  pub fields_same : fs ≡ fs'
  pub number_same : n ≡ n'

-- over both bounds: what is listed of a line does not depend on how large its position may be
pub timestamp-unique : (top top' : ℕ) (r : Part) (ps ps' : List Part) (fs fs' : List (Valued ℤ)) (n n' : Valued ℕ)
    → TimestampTo top r ps fs n → TimestampTo top' r ps' fs' n' → OneTimestamp ps ps' fs fs' n n'
timestamp-unique top top' r ps ps' fs fs' n n' h k =
    let b : h.between ≡ k.between = parted_unique comma r.place r.bytes h.between k.between h.by_commas k.by_commas in
    let q : ps ≡ ps' = all-trimmed-unique h.between ps ps' h.trimmed (rw b k.trimmed) in
    let t : h.time ≡ k.time = first-unique IsOtherPart ps h.time k.time h.first_other (rw q k.first_other) in
    let p : h.position ≡ k.position = last-unique IsFilepos ps h.position k.position h.last_filepos (rw q k.last_filepos) in
    let c : h.all_fields ≡ k.all_fields = parted_unique colon h.time.place h.time.bytes h.all_fields k.all_fields h.by_colons (rw t k.by_colons) in
    let x : h.text ≡ k.text = after-unique filepos_word h.position h.text k.text h.after_word (rw p k.after_word) in
    let i : n.part ≡ n'.part = trimmed-unique h.text n.part n'.part h.trim_text (rw x k.trim_text) in
    record {
      parts_same = q;
      fields_same = fields-unique 4 h.all_fields fs fs' h.first_four (rw c k.first_four);
      number_same = valued n n' i (position-unique n.part.bytes n.value n'.value h.reads (rw i k.reads));
    }

-- ---- Lines

-- a line starts with one word
pub other_word : (i r r' : Part) (b c : ℕ) (s t : List ℕ) → (b ≡ c → ⊥) → After (b ∷ s) i r → After (c ∷ t) i r' → ⊥
other_word i r r' b c s t d h k = d (head-same b c (s ++ r.bytes) (t ++ r'.bytes) (sym h.whole ∙ k.whole))

says-unique : (i : Part) (a b : Said) → Says i a → Says i b → a ≡ b
says-unique i (size l w v) (size l' w' v') h k =
    let r : h.1 ≡ k.1 = after-unique size_word i h.1 k.1 h.2 k.2 in
    let s = size-unique h.1 w v w' v' h.3 (rw r k.3) in
    λ t. size ((h.0 ∙ sym k.0) t) (s.width_same t) (s.height_same t)
says-unique i (size l w v) (palette l' ts) h k = absurd (other_word i h.1 k.1 115 112 _ _ (λ e. omega arith) h.2 k.2)
says-unique i (size l w v) (timestamp l' ps fs n) h k = absurd (other_word i h.1 k.1 115 116 _ _ (λ e. omega arith) h.2 k.2)
says-unique i (palette l ts) (size l' w v) h k = absurd (other_word i h.1 k.1 112 115 _ _ (λ e. omega arith) h.2 k.2)
says-unique i (palette l ts) (palette l' ts') h k =
    let r : h.1 ≡ k.1 = after-unique palette_word i h.1 k.1 h.2 k.2 in
    ap₂ palette (h.0 ∙ sym k.0) (tokens-unique 16 h.1.place h.1.bytes ts ts' h.3 (rw r k.3))
says-unique i (palette l ts) (timestamp l' ps fs n) h k = absurd (other_word i h.1 k.1 112 116 _ _ (λ e. omega arith) h.2 k.2)
says-unique i (timestamp l ps fs n) (size l' w v) h k = absurd (other_word i h.1 k.1 116 115 _ _ (λ e. omega arith) h.2 k.2)
says-unique i (timestamp l ps fs n) (palette l' ts) h k = absurd (other_word i h.1 k.1 116 112 _ _ (λ e. omega arith) h.2 k.2)
says-unique i (timestamp l ps fs n) (timestamp l' ps' fs' n') h k =
    let r : h.1 ≡ k.1 = after-unique timestamp_word i h.1 k.1 h.2 k.2 in
    let s = timestamp-unique top_stored top_stored h.1 ps ps' fs fs' n n' h.3 (rw r k.3) in
    λ t. timestamp ((h.0 ∙ sym k.0) t) (s.parts_same t) (s.fields_same t) (s.number_same t)

-- a line that says something does not say nothing
not-nothing : (i : Part) (a : Said) → SaysNothing i → Says i a → ⊥
not-nothing i (size l w v) (inl h) k = h.0 (k.1.bytes, k.2.whole)
not-nothing i (palette l ts) (inl h) k = h.1 (k.1.bytes, k.2.whole)
not-nothing i (timestamp l ps fs n) (inl h) k = h.2 (k.1.bytes, k.2.whole)
not-nothing i (size l w v) (inr h) k =
    let r : h.0 ≡ k.1 = after-unique size_word i h.0 k.1 h.1 k.2 in
    has_separator letter_x k.1.bytes k.3.left.bytes k.3.right.bytes k.3.halves.whole (rw r at h.2)
not-nothing i (palette l ts) (inr h) k = other_word i h.0 k.1 115 112 _ _ (λ e. omega arith) h.1 k.2
not-nothing i (timestamp l ps fs n) (inr h) k = other_word i h.0 k.1 115 116 _ _ (λ e. omega arith) h.1 k.2

-- what line i and those after it list
abbrev Listed : Part → List Part → Said → List Said → Type 0
Listed i ps l ls = (SaysNothing i × LinesListed ps (l ∷ ls)) ⊎ (Says i l × LinesListed ps ls)

nil_cons : (l : Said) (ls : List Said) → [] ≡ l ∷ ls → ⊥
nil_cons l ls e = let n : ◌≡◌ {A = ℕ} 0 1 = cc e in omega arith

one-listed : (i : Part) (ps : List Part) (l m : Said) (ls ms : List Said)
    → ((a b : List Said) → LinesListed ps a → LinesListed ps b → a ≡ b) → Listed i ps l ls → Listed i ps m ms → l ∷ ls ≡ m ∷ ms
one-listed i ps l m ls ms f (inl h) (inl k) = f (l ∷ ls) (m ∷ ms) h.1 k.1
one-listed i ps l m ls ms f (inl h) (inr k) = absurd (not-nothing i m h.0 k.0)
one-listed i ps l m ls ms f (inr h) (inl k) = absurd (not-nothing i l k.0 h.0)
one-listed i ps l m ls ms f (inr h) (inr k) = ap₂ ◌∷◌ (says-unique i l m h.0 k.0) (f ls ms h.1 k.1)

none-listed : (i : Part) (ps : List Part) (l : Said) (ls : List Said)
    → ((a b : List Said) → LinesListed ps a → LinesListed ps b → a ≡ b) → SaysNothing i → LinesListed ps [] → Listed i ps l ls → ⊥
none-listed i ps l ls f n h (inl k) = nil_cons l ls (f [] (l ∷ ls) h k.1)
none-listed i ps l ls f n h (inr k) = not-nothing i l n k.0

lines-unique : (ps : List Part) (a b : List Said) → LinesListed ps a → LinesListed ps b → a ≡ b
lines-unique [] [] [] h k = refl
lines-unique [] [] (m ∷ b) h k = absurd k
lines-unique [] (l ∷ a) b h k = absurd h
lines-unique (p ∷ ps) [] [] h k = refl
lines-unique (p ∷ ps) [] (m ∷ b) h k =
    let q : h.0 ≡ k.0 = trimmed-unique p h.0 k.0 h.1 k.1 in
    absurd (none-listed h.0 ps m b (lines-unique ps) h.2 h.3 (rw q k.2))
lines-unique (p ∷ ps) (l ∷ a) [] h k =
    let q : k.0 ≡ h.0 = trimmed-unique p k.0 h.0 k.1 h.1 in
    absurd (none-listed k.0 ps l a (lines-unique ps) k.2 k.3 (rw q h.2))
lines-unique (p ∷ ps) (l ∷ a) (m ∷ b) h k =
    let q : h.0 ≡ k.0 = trimmed-unique p h.0 k.0 h.1 k.1 in
    one-listed h.0 ps l m a b (lines-unique ps) h.2 (rw q k.2)

text-lines-unique : (text : List ℕ) (a b : List Said) → IsLines text a → IsLines text b → a ≡ b
text-lines-unique text a b h k =
    let q : h.all_lines ≡ k.all_lines = parted_unique line_end 0 text h.all_lines k.all_lines h.parted k.parted in
    lines-unique h.all_lines a b h.listed (rw q k.listed)

pub text_unique : (text : List ℕ) (a b : ListedText) → IsText text a → IsText text b → a ≡ b
text_unique text (of_lines a) (of_lines b) h k = ap of_lines (text-lines-unique text a b h.1 k.1)
text_unique text (of_lines a) (no_bytes q) h k = absurd (h.0 k.0)
text_unique text (no_bytes p) (of_lines b) h k = absurd (k.0 h.0)
text_unique text (no_bytes p) (no_bytes q) h k = ap no_bytes (h.1 ∙ sym k.1)
