-- Where the parts of a packet stand, and what finds a body. Assumes nothing.
use Prim.Native.Nat.{ℕ, zero, suc, ◌+◌, ◌-◌, ◌≤◌, ◌<◌}
use native.Mathlib.Nat.{add-zero}
use native.Mathlib.Omega.{arith}
use mathlib.Core.Path.{◌≡◌, sym, ap, ◌∙◌, subst}
use mathlib.Core.Bool.{Bool}
use mathlib.Core.Logic.{◌⊎◌, inl, inr, ⊎_elim}
use Rattle.std.specs.Prelude.{Option, Some as some, None as none}
use mathlib.Core.List.{List, [], ◌∷◌, ◌++◌}
use lib.ListN.{length, take, drop}
use lib.Seq.{slice, ext_get_or, length-slice, get_or-drop, get_or-take}
use Rattle.grammar.specs.Bytes.{byte, word}
use Rattle.grammar.specs.Packets.{Part, Packet, Stuffing, buffer_size, stamp_size, Header2, Header1, IsBody, Keeps, IsPack, IsPrivate, IsOther, IsPacket, kept_bytes, joined, Packets, Bare, Form, bare, packets, unit_of, IsForm}

pub byte-slice : (f : List ℕ) (a e i : ℕ) → a + i < e → byte (slice a e f) i ≡ byte f (a + i)
byte-slice f a e i l = get_or-drop a (take e f) i 0 ∙ get_or-take e f (a + i) 0 l

pub body-after : (f : List ℕ) (a e b : ℕ) → IsBody f a e b → a ≤ b
body-after f a e b t = ⊎_elim (λ x. let y = x.body in omega arith) (λ x. let y = x.body in let z = x.stamp_is in omega arith) t.header

module _ (id : ℕ → Bool) (f : List ℕ) (p : Packet) where
  kind_longer : IsPack f p ⊎ (IsPrivate id f p ⊎ IsOther f p) → p.place + 6 ≤ p.end
  kind_longer (inl k) = ⊎_elim (λ x. let y = x.1 in omega arith) (λ x. let y = x.1 in omega arith) k.2
  kind_longer (inr (inl k)) = let y = k.end_is in omega arith
  kind_longer (inr (inr k)) = let y = k.end_is in omega arith

  -- a packet has its start code and a word at least
  pub packet-longer : IsPacket id f p → p.place + 6 ≤ p.end
  packet-longer h = kind_longer h.kind

  -- and no bare unit stands where it does
  pub not-bare : IsPacket id f p → Bare f p.place → ⊥
  unfolding word
  not-bare h b = let l = b.least in let u = h.prefix_0 in let v = h.prefix_1 in omega arith

-- ---- A body is found by the bytes up to its first, wherever they stand

-- the bytes of s from c on are those of f from a on, up to the body's first at c + b and within n bytes
module _ (s : List ℕ) (c : ℕ) (f : List ℕ) (a n b : ℕ)
    (h : (i : ℕ) → i ≤ b → i < n → byte s (c + i) ≡ byte f (a + i)) where
  first : 0 < n → byte s c ≡ byte f a
  first l = let g = h 0 (omega arith) l in rw (add-zero, add-zero) at g

  header2_moves : Header2 s c (c + n) (c + b) → Header2 f a (a + n) (a + b)
  header2_moves t =
      let three = t.three in
      let z = t.body in
      let x = first (omega arith) in
      let y = h 2 (omega arith) (omega arith) in
      record { bits = rw (← x) t.bits; three = omega arith; body = omega arith }

  stuffing_moves : (k : ℕ) → k ≤ b → k < n → Stuffing s c k → Stuffing f a k
  stuffing_moves k m l t =
      record {
        most = t.most;
        each = λ i j. sym (h i (omega arith) (omega arith)) ∙ t.each i j;
        no_more = λ j q. t.no_more j (h k m l ∙ q);
      }

  header1_moves : Header1 s c (c + n) (c + b) → Header1 f a (a + n) (a + b)
  header1_moves t =
      let l = t.size_byte in
      let k = t.stamp_byte in
      let g = t.stamp_is in
      let d = t.body in
      let p : c + (t.stamp - c) ≡ t.stamp = omega arith in
      let x = first (omega arith) in
      let y = ap buffer_size (h t.count (omega arith) (omega arith)) in
      let w : byte s t.stamp ≡ byte f (a + (t.stamp - c)) = ap (byte s) (sym p) ∙ h (t.stamp - c) (omega arith) (omega arith) in
      let v = ap stamp_size w in
      record {
        bits = rw (← x) t.bits;
        count = t.count;
        stuffing = stuffing_moves t.count (omega arith) (omega arith) t.stuffing;
        size_byte = omega arith;
        stamp = a + (t.stamp - c);
        stamp_is = omega arith;
        stamp_byte = omega arith;
        body = omega arith;
      }

  pub body_moves : IsBody s c (c + n) (c + b) → IsBody f a (a + n) (a + b)
  body_moves t =
      let l = t.some_byte in
      let w = t.within in
      record {
        some_byte = omega arith;
        within = omega arith;
        header = ⊎_elim (λ x. inl (header2_moves x)) (λ x. inr (header1_moves x)) t.header;
      }

-- ---- Two files

module _ (f g : List ℕ) where
  pub slice-same : (a e : ℕ) → length f ≡ length g → e ≤ length f → ((i : ℕ) → a ≤ i → i < e → byte f i ≡ byte g i)
      → slice a e f ≡ slice a e g
  slice-same a e n l h =
      let lf = length-slice a e f l in
      let lg = length-slice a e g (omega arith) in
      ext_get_or 0 (slice a e f) (slice a e g) (lf ∙ sym lg)
      (λ i b. byte-slice f a e i (omega arith) ∙ h (a + i) (omega arith) (omega arith) ∙ sym (byte-slice g a e i (omega arith)))

  pub word_same : (p : ℕ) → byte f p ≡ byte g p → byte f (p + 1) ≡ byte g (p + 1) → word f p ≡ word g p
  unfolding word
  word_same p a b = rw (a, b)

  pub body_same : (a e b : ℕ) → ((i : ℕ) → a ≤ i → i ≤ b → i < e → byte f i ≡ byte g i) → IsBody f a e b
      → IsBody g a e b
  body_same a e b h t =
      let l = t.some_byte in
      let m = body-after f a e b t in
      let y : a + (e - a) ≡ e = omega arith in
      let z : a + (b - a) ≡ b = omega arith in
      let k : IsBody f a (a + (e - a)) (a + (b - a)) = rw (y, z) t in
      let o = body_moves f a g a (e - a) (b - a) (λ i u v. h (a + i) (omega arith) (omega arith) (omega arith)) k in
      rw (y, z) at o

-- ---- In a file of bytes every unit is of bytes

abbrev pub Low : List ℕ → Type 0
Low s = (i : ℕ) → byte s i < 256

low-take : (n : ℕ) (s : List ℕ) → Low s → Low (take n s)
low-take zero s h i = omega arith
low-take (suc n) [] h i = omega arith
low-take (suc n) (b ∷ s) h zero = h 0
low-take (suc n) (b ∷ s) h (suc i) = low-take n s (λ j. h (suc j)) i

low-drop : (n : ℕ) (s : List ℕ) → Low s → Low (drop n s)
low-drop n s h i = rw (get_or-drop n s i 0) (h (n + i))

low_both : (s t : List ℕ) → Low s → Low t → Low (s ++ t)
low_both [] t h k i = k i
low_both (b ∷ s) t h k zero = h 0
low_both (b ∷ s) t h k (suc i) = low_both s t (λ j. h (suc j)) k i

module _ (id : ℕ → Bool) (f : List ℕ) (low : Low f) where
  low-slice : (a e : ℕ) → Low (slice a e f)
  low-slice a e = low-drop a (take e f) (low-take e f low)

  low-kept : (b e : ℕ) (o : Option Part) → Keeps id f b e o → Low (kept_bytes o)
  low-kept b e none h = λ i. omega arith
  low-kept b e (some p) h = subst Low (sym h.2.bytes_are) (low-slice (b + 1) e)

  low-none : (o : Option Part) → o ≡ none → Low (kept_bytes o)
  low-none o e = subst (λ (x : Option Part). Low (kept_bytes x)) (sym e) (λ i. omega arith)

  low-packet : (p : Packet) → IsPack f p ⊎ (IsPrivate id f p ⊎ IsOther f p) → Low (kept_bytes p.kept)
  low-packet p (inl k) = low-none p.kept k.1
  low-packet p (inr (inl k)) = low-kept k.start p.end p.kept k.keeps
  low-packet p (inr (inr k)) = low-none p.kept k.keeps_nothing

  low-joined : (at : ℕ) (k : List ℕ) (ps : List Packet) → Packets id f at k ps → Low (joined ps)
  unfolding Packets joined
  low-joined at k [] h = λ i. omega arith
  low-joined at k (p ∷ ps) h =
      low_both (kept_bytes p.kept) (joined ps) (low-packet p h.2.kind) (low-joined p.end (k ++ kept_bytes p.kept) ps h.3)

  pub low-unit : (at : ℕ) (m : Form) → IsForm id f at m → Low (unit_of m)
  unfolding unit_of
  low-unit at (bare p) h = subst Low (sym h.1.bytes_are) (low-slice at (at + word f at))
  low-unit at (packets ps) h = low-take (word (joined ps) 0) (joined ps) (low-joined at [] ps h.1)
