-- No two forms pass: a PES has one body, a place of a file one packet, and a position one form. Assumes nothing.
use Prim.Native.Nat.{ℕ, ◌+◌, ◌/◌, ◌%◌, ◌≤◌}
use native.Mathlib.Omega.{arith, by_contra}
use mathlib.Core.Path.{◌≡◌, refl, sym, ap, ap₂, ◌∙◌}
use mathlib.Core.Logic.{◌⊎◌, inl, inr}
use mathlib.Core.Bool.{Bool}
use Rattle.std.specs.Prelude.{Option, Some as some, None as none}
use mathlib.Core.List.{List, [], ◌∷◌, ◌++◌}
use Rattle.grammar.specs.Bytes.{byte, word}
use Rattle.grammar.specs.Packets.{Part, IsPart, Packet, Stuffing, buffer_size, stamp_size, Header2, Header1, IsBody, length_end, Keeps, IsPack, IsPrivate, IsOther, IsPacket, kept_bytes, Packets, Form, bare, packets, IsForm}

part-unique : (f : List ℕ) (a e : ℕ) (p q : Part) → IsPart f a e p → IsPart f a e q → p ≡ q
part-unique f a e p q h k = λ t. record { place = (h.place_is ∙ sym k.place_is) t; bytes = (h.bytes_are ∙ sym k.bytes_are) t }

-- ---- The header of a PES

stuffing_most : (f : List ℕ) (a n m : ℕ) → Stuffing f a n → Stuffing f a m → m ≤ n
stuffing_most f a n m h k = by_contra m n (λ l. h.no_more (omega (arith, k.most)) (k.each n l))

stuffing_unique : (f : List ℕ) (a n m : ℕ) → Stuffing f a n → Stuffing f a m → n ≡ m
stuffing_unique f a n m h k = omega (arith, stuffing_most f a n m h k, stuffing_most f a m n k h)

header-unique : (f : List ℕ) (a e b c : ℕ) → Header2 f a e b ⊎ Header1 f a e b → Header2 f a e c ⊎ Header1 f a e c → b ≡ c
header-unique f a e b c (inl h) (inl k) = h.body ∙ sym k.body
header-unique f a e b c (inl h) (inr k) = absurd (k.bits h.bits)
header-unique f a e b c (inr h) (inl k) = absurd (h.bits k.bits)
header-unique f a e b c (inr h) (inr k) =
    let n : h.count ≡ k.count = stuffing_unique f a h.count k.count h.stuffing k.stuffing in
    let s : h.stamp ≡ k.stamp = h.stamp_is ∙ ap (λ (x : ℕ). a + x + buffer_size (byte f (a + x))) n ∙ sym k.stamp_is in
    h.body ∙ ap (λ (x : ℕ). x + stamp_size (byte f x)) s ∙ sym k.body

pub body_unique : (f : List ℕ) (a e b c : ℕ) → IsBody f a e b → IsBody f a e c → b ≡ c
body_unique f a e b c h k = header-unique f a e b c h.header k.header

-- ---- Packets

module _ (id : ℕ → Bool) (f : List ℕ) where
  keeps_unique : (b e : ℕ) (p q : Option Part) → Keeps id f b e p → Keeps id f b e q → p ≡ q
  keeps_unique b e none none h k = refl
  keeps_unique b e none (some q) h k = absurd (h k.0 k.1)
  keeps_unique b e (some p) none h k = absurd (k h.0 h.1)
  keeps_unique b e (some p) (some q) h k = ap some (part-unique f (b + 1) e p q h.2 k.2)

  -- two packets at one place with one code end at one place and keep the same
  record Same (p q : Packet) : Type 0 where
    end_same : p.end ≡ q.end
    kept_same : p.kept ≡ q.kept

  module _ (p q : Packet) (x : p.place ≡ q.place) (y : p.code ≡ q.code) where
    byte-same : (i : ℕ) → byte f (p.place + i) ≡ byte f (q.place + i)
    byte-same i = ap (λ (a : ℕ). byte f (a + i)) x

    ends_same : p.end ≡ length_end f p.place → q.end ≡ length_end f q.place → p.end ≡ q.end
    ends_same h k = h ∙ ap (length_end f) x ∙ sym k

    packs_same : IsPack f p → IsPack f q → Same p q
    packs_same h k = record { end_same = go h.2 k.2; kept_same = h.1 ∙ sym k.1 }
      where
        go : ((byte f (p.place + 4) / 64 ≡ 1) × (p.end ≡ p.place + 14 + byte f (p.place + 13) % 8)) ⊎ ((byte f (p.place + 4) / 16 ≡ 2) × (p.end ≡ p.place + 12))
            → ((byte f (q.place + 4) / 64 ≡ 1) × (q.end ≡ q.place + 14 + byte f (q.place + 13) % 8)) ⊎ ((byte f (q.place + 4) / 16 ≡ 2) × (q.end ≡ q.place + 12))
            → p.end ≡ q.end
        go (inl a) (inl b) = omega (arith, byte-same 13)
        go (inl a) (inr b) = absurd (omega (arith, byte-same 4))
        go (inr a) (inl b) = absurd (omega (arith, byte-same 4))
        go (inr a) (inr b) = omega arith

    private_same : IsPrivate id f p → IsPrivate id f q → Same p q
    private_same h k =
        let e : p.end ≡ q.end = ends_same h.end_is k.end_is in
        let b : h.start ≡ k.start = body_unique f (p.place + 6) p.end h.start k.start h.body (rw (x, e) k.body) in
        record { end_same = e; kept_same = keeps_unique h.start p.end p.kept q.kept h.keeps (rw (b, e) k.keeps) }

    kind_same : IsPack f p ⊎ (IsPrivate id f p ⊎ IsOther f p) → IsPack f q ⊎ (IsPrivate id f q ⊎ IsOther f q) → Same p q
    kind_same (inl h) (inl k) = packs_same h k
    kind_same (inl h) (inr (inl k)) = absurd (omega (arith, h.0, k.code_is))
    kind_same (inl h) (inr (inr k)) = absurd (k.not_pack (sym y ∙ h.0))
    kind_same (inr (inl h)) (inl k) = absurd (omega (arith, k.0, h.code_is))
    kind_same (inr (inl h)) (inr (inl k)) = private_same h k
    kind_same (inr (inl h)) (inr (inr k)) = absurd (k.not_private (sym y ∙ h.code_is))
    kind_same (inr (inr h)) (inl k) = absurd (h.not_pack (y ∙ k.0))
    kind_same (inr (inr h)) (inr (inl k)) = absurd (h.not_private (y ∙ k.code_is))
    kind_same (inr (inr h)) (inr (inr k)) = record { end_same = ends_same h.end_is k.end_is; kept_same = h.keeps_nothing ∙ sym k.keeps_nothing }

  pub packet-unique : (p q : Packet) → p.place ≡ q.place → IsPacket id f p → IsPacket id f q → p ≡ q
  packet-unique p q x h k =
      let y : p.code ≡ q.code = h.code_is ∙ ap (λ (a : ℕ). byte f (a + 3)) x ∙ sym k.code_is in
      let s = kind_same p q x y h.kind k.kind in
      λ t. record { place = x t; code = y t; end = s.end_same t; kept = s.kept_same t }

  pub packets-unique : (at : ℕ) (k : List ℕ) (a b : List Packet) → Packets id f at k a → Packets id f at k b → a ≡ b
  unfolding Packets
  packets-unique at k [] [] g h = refl
  packets-unique at k [] (q ∷ qs) g h = absurd (h.0 g)
  packets-unique at k (p ∷ ps) [] g h = absurd (g.0 h)
  packets-unique at k (p ∷ ps) (q ∷ qs) g h =
      let e : p ≡ q = packet-unique p q (g.1 ∙ sym h.1) g.2 h.2 in
      ap₂ ◌∷◌ e (packets-unique p.end (k ++ kept_bytes p.kept) ps qs g.3 (rw e h.3))

  -- ---- The unit's form

  pub form_unique : (at : ℕ) (a b : Form) → IsForm id f at a → IsForm id f at b → a ≡ b
  form_unique at (bare p) (bare q) h k = ap bare (part-unique f at (at + word f at) p q h.1 k.1)
  form_unique at (bare p) (packets qs) h k = absurd (k.0 h.0)
  form_unique at (packets ps) (bare q) h k = absurd (h.0 k.0)
  form_unique at (packets ps) (packets qs) h k = ap packets (packets-unique at [] ps qs h.1 k.1)
