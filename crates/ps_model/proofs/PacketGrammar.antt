-- The body and the packet that are found are the ones that the grammar has there. Assumes nothing.
use Prim.Native.Nat.{ℕ, zero, suc, ◌+◌, ◌*◌, ◌/◌, ◌%◌, ◌≤◌, ◌<◌}
use native.Mathlib.Nat.{add-zero}
use native.Mathlib.Omega.{arith}
use mathlib.Core.Path.{◌≡◌, refl, sym, ap, ◌∙◌, subst}
use mathlib.Core.Bool.{Bool, true, false, cond, ◌&&◌}
use mathlib.Core.Logic.{◌⊎◌, inl, inr, ⊎_elim, ◌↔◌}
use Rattle.std.specs.Prelude.{Option, Some as some, None as none}
use mathlib.Core.List.{List}
use lib.ListN.{length}
use lib.Dec.{leb, eqb, ltb}
use borrow.Author.Tests.{leb-true, eqb-true, eqb-false, ltb-true, le-leb, eq-eqb, ne_eqb, lt-ltb}
use Rattle.outcome.specs.Outcome.{Res, ok, refuse, check, no_unit}
use Rattle.outcome.proofs.Laws.{ok-not-refuse, ok-injective, either, not_so, clash, and-true, check-ok, and_then-ok, map_res-ok, le_or_lt}
use Rattle.grammar.specs.Bytes.{byte, word}
use Rattle.grammar.specs.Packets.{Part, Packet, Stuffing, Header2, Header1, IsBody, Keeps, length_end, IsPack, IsPrivate, IsOther, IsPacket}
use Rattle.ps_model.specs.OnePacket.{part, leading, stamp_at, header1_at, header_at, body_at, packet, kept_at, pack_at, private_at, kind_at, packet_at}

-- a word by its two bytes
pub word_at : (f : List ℕ) (p q : ℕ) → p + 1 ≡ q → byte f p * 256 + byte f q ≡ word f p
unfolding word
word_at f p q e = rw e

-- ---- Stuffing

pub leading_le : (j : ℕ) (f : List ℕ) (a : ℕ) → leading j f a ≤ j
unfolding leading
leading_le zero f a = omega arith
leading_le (suc j) f a = ⊎_elim (λ t. rw t (omega (arith, leading_le j f (a + 1)))) (λ t. rw t (omega arith)) (either (eqb (byte f a) 0xFF))

leading-each : (j : ℕ) (f : List ℕ) (a i : ℕ) → i < leading j f a → byte f (a + i) ≡ 0xFF
unfolding leading
leading-each zero f a i h = absurd (omega arith)
leading-each (suc j) f a zero h =
    ⊎_elim (λ t. rw add-zero (eqb-true _ _ t)) (λ t. absurd (let g : 0 < 0 = rw t at h in omega arith)) (either (eqb (byte f a) 0xFF))
leading-each (suc j) f a (suc i) h =
    ⊎_elim
    (λ t.
    let g : suc i < suc (leading j f (a + 1)) = rw t at h in
    let q : a + suc i ≡ a + 1 + i = omega arith in
    rw q (leading-each j f (a + 1) i (omega arith)))
    (λ t. absurd (let g : suc i < 0 = rw t at h in omega arith)) (either (eqb (byte f a) 0xFF))

pub leading-yes : (j : ℕ) (f : List ℕ) (a : ℕ) → eqb (byte f a) 0xFF ≡ true → leading (suc j) f a ≡ suc (leading j f (a + 1))
unfolding leading
leading-yes j f a t = rw t

leading-no : (j : ℕ) (f : List ℕ) (a : ℕ) → eqb (byte f a) 0xFF ≡ false → leading (suc j) f a ≡ 0
unfolding leading
leading-no j f a t = rw t

leading-more : (j : ℕ) (f : List ℕ) (a : ℕ) → leading j f a < j → byte f (a + leading j f a) ≡ 0xFF → ⊥
leading-more zero f a h = absurd (omega arith)
leading-more (suc j) f a h =
    ⊎_elim
    (λ t.
    let y = leading-yes j f a t in
    let q : a + leading (suc j) f a ≡ a + 1 + leading j f (a + 1) = omega arith in
    rw q (leading-more j f (a + 1) (omega arith)))
    (λ t. let q : a + leading (suc j) f a ≡ a = omega (arith, leading-no j f a t) in rw q (eqb-false _ _ t)) (either (eqb (byte f a) 0xFF))

leading-stuffing : (f : List ℕ) (a : ℕ) → Stuffing f a (leading 16 f a)
leading-stuffing f a = record { most = leading_le 16 f a; each = leading-each 16 f a; no_more = leading-more 16 f a }

not-less : (f : List ℕ) (a n m : ℕ) → Stuffing f a n → Stuffing f a m → n < m → ⊥
not-less f a n m h k lt = h.no_more (omega (arith, k.most)) (k.each n lt)

stuffing-is : (f : List ℕ) (a n : ℕ) → Stuffing f a n → n ≡ leading 16 f a
stuffing-is f a n h =
    let k = leading-stuffing f a in
    ⊎_elim
    (λ (l : n ≤ leading 16 f a).
    ⊎_elim (λ (m : leading 16 f a ≤ n). omega arith) (λ (m : n < leading 16 f a). absurd (not-less f a n (leading 16 f a) h k m)) (le_or_lt (leading 16 f a) n))
    (λ (l : leading 16 f a < n). absurd (not-less f a (leading 16 f a) n k h l)) (le_or_lt n (leading 16 f a))

-- ---- The body of a PES packet

header-sound : (f : List ℕ) (a e b : ℕ) → header_at f a e ≡ ok b → Header2 f a e b ⊎ Header1 f a e b
unfolding header_at header1_at
header-sound f a e b q = ⊎_elim two one (either (eqb (byte f a / 64) 2))
  where
    two : eqb (byte f a / 64) 2 ≡ true → Header2 f a e b ⊎ Header1 f a e b
    two t =
        let g = check-ok (leb (a + 3) e) no_unit _ (rw t at q) in
        inl (record { bits = eqb-true _ _ t; three = leb-true _ _ g.0; body = sym (ok-injective g.1) })

    one : eqb (byte f a / 64) 2 ≡ false → Header2 f a e b ⊎ Header1 f a e b
    one t =
        let g = check-ok (ltb (a + leading 16 f a) e) no_unit _ (rw t at q) in
        let h = check-ok (ltb (stamp_at f a (leading 16 f a)) e) no_unit _ g.1 in
        inr (record {
          bits = eqb-false _ _ t;
          count = leading 16 f a;
          stuffing = leading-stuffing f a;
          size_byte = ltb-true _ _ g.0;
          stamp = stamp_at f a (leading 16 f a);
          stamp_is = refl;
          stamp_byte = ltb-true _ _ h.0;
          body = sym (ok-injective h.1);
        })

header-complete : (f : List ℕ) (a e b : ℕ) → Header2 f a e b ⊎ Header1 f a e b → header_at f a e ≡ ok b
unfolding header_at header1_at
header-complete f a e b (inl h) = rw (eq-eqb (byte f a / 64) 2 h.bits, le-leb (a + 3) e h.three) (ap ok (sym h.body))
header-complete f a e b (inr h) =
    let z : leading 16 f a ≡ h.count = sym (stuffing-is f a h.count h.stuffing) in
    rw (ne_eqb (byte f a / 64) 2 h.bits, z, ← h.stamp_is, lt-ltb (a + h.count) e h.size_byte, lt-ltb h.stamp e h.stamp_byte) (ap ok (sym h.body))

pub body_iff : (f : List ℕ) (a e b : ℕ) → (body_at f a e ≡ ok b) ↔ IsBody f a e b
unfolding body_at
body_iff f a e b = (to, λ h. rw (lt-ltb a e h.some_byte, header-complete f a e b h.header, le-leb b e h.within))
  where
    to : body_at f a e ≡ ok b → IsBody f a e b
    to q =
        let g = check-ok (ltb a e) no_unit _ q in
        let w = and_then-ok (header_at f a e) (λ (c : ℕ). check (leb c e) no_unit (ok c)) g.1 in
        let h = check-ok (leb w.0 e) no_unit (ok w.0) w.2 in
        subst (IsBody f a e) (ok-injective h.1) (record { some_byte = ltb-true _ _ g.0; within = leb-true _ _ h.0; header = header-sound f a e w.0 w.1 })

-- ---- Packets

module _ (id : ℕ → Bool) (f : List ℕ) where
  kept-sound : (b e : ℕ) → Keeps id f b e (kept_at id f b e)
  unfolding kept_at
  kept-sound b e = go (ltb b e && id (byte f b)) refl
    where
      go : (t : Bool) → (ltb b e && id (byte f b)) ≡ t → Keeps id f b e (cond t (some (part f (b + 1) e)) none)
      go true q = let a = and-true (ltb b e) (id (byte f b)) q in (ltb-true _ _ a.0, a.1, record { place_is = refl; bytes_are = refl })
      go false q = λ h k. clash (ltb b e && id (byte f b)) (rw (lt-ltb b e h) k) q

  kept-complete : (b e : ℕ) (k : Option Part) → Keeps id f b e k → kept_at id f b e ≡ k
  unfolding kept_at
  kept-complete b e none h =
      ap (λ (t : Bool). cond t (some (part f (b + 1) e)) none) (not_so (ltb b e && id (byte f b)) (λ q. let a = and-true (ltb b e) (id (byte f b)) q in h (ltb-true _ _ a.0) a.1))
  kept-complete b e (some p) h = rw (lt-ltb b e h.0, h.1) (λ i. some (record { place = sym h.2.place_is i; bytes = sym h.2.bytes_are i }))

  abbrev Kind : Packet → Type 0
  Kind p = IsPack f p ⊎ (IsPrivate id f p ⊎ IsOther f p)

  -- what stands at p by its code
  record Kinded (p : ℕ) (q : Packet) : Type 0 where
    placed : q.place ≡ p
    coded : q.code ≡ byte f (q.place + 3)
    kind : Kind q

  pack-sound : (p : ℕ) (q : Packet) → byte f (p + 3) ≡ 0xBA → pack_at f p ≡ ok q → Kinded p q
  unfolding pack_at
  pack-sound p q c e = ⊎_elim two one (either (eqb (byte f (p + 4) / 64) 1))
    where
      two : eqb (byte f (p + 4) / 64) 1 ≡ true → Kinded p q
      two t = subst (Kinded p) (ok-injective (rw t at e)) (record { placed = refl; coded = refl; kind = inl (c, refl, inl (eqb-true _ _ t, refl)) })

      one : eqb (byte f (p + 4) / 64) 1 ≡ false → Kinded p q
      one t =
          let g = check-ok (eqb (byte f (p + 4) / 16) 2) no_unit _ (rw t at e) in
          subst (Kinded p) (ok-injective g.1) (record { placed = refl; coded = refl; kind = inl (c, refl, inr (eqb-true _ _ g.0, refl)) })

  private_sound : (p : ℕ) (q : Packet) → byte f (p + 3) ≡ 0xBD → private_at id f p ≡ ok q → Kinded p q
  unfolding private_at
  private_sound p q c e =
      let w = map_res-ok (λ (b : ℕ). packet f p (length_end f p) (kept_at id f b (length_end f p))) (body_at f (p + 6) (length_end f p)) e in
      subst (Kinded p) w.2
      (record {
        placed = refl;
        coded = refl;
        kind = inr (inl (record { code_is = c; end_is = refl; start = w.0; body = (body_iff f (p + 6) (length_end f p) w.0).0 w.1; keeps = kept-sound w.0 (length_end f p) }));
      })

  kind_sound : (p : ℕ) (q : Packet) → kind_at id f p ≡ ok q → Kinded p q
  unfolding kind_at
  kind_sound p q e =
      ⊎_elim (λ t. pack-sound p q (eqb-true _ _ t) (rw t at e)) (λ t. more t (either (eqb (byte f (p + 3)) 0xBD))) (either (eqb (byte f (p + 3)) 0xBA))
    where
      rest : eqb (byte f (p + 3)) 0xBA ≡ false → eqb (byte f (p + 3)) 0xBD ≡ false → Kinded p q
      rest t s = go (eqb (byte f (p + 3)) 0xB9) refl (rw (t, s) at e)
        where
          go : (v : Bool) → eqb (byte f (p + 3)) 0xB9 ≡ v → cond v (refuse no_unit) (ok (packet f p (length_end f p) none)) ≡ ok q → Kinded p q
          go true n g = ok-not-refuse g
          go false n g =
              subst (Kinded p) (ok-injective g)
              (record { placed = refl; coded = refl; kind = inr (inr (record { not_end = eqb-false _ _ n; not_pack = eqb-false _ _ t; not_private = eqb-false _ _ s; end_is = refl; keeps_nothing = refl })) })

      more : eqb (byte f (p + 3)) 0xBA ≡ false → (eqb (byte f (p + 3)) 0xBD ≡ true) ⊎ (eqb (byte f (p + 3)) 0xBD ≡ false) → Kinded p q
      more t (inl s) = private_sound p q (eqb-true _ _ s) (rw (t, s) at e)
      more t (inr s) = rest t s

  -- a packet is what it is made of
  made-is : (q : Packet) (e : ℕ) (k : Option Part) → q.code ≡ byte f (q.place + 3) → q.end ≡ e → q.kept ≡ k → ◌≡◌ {A = Res Packet} (ok (packet f q.place e k)) (ok q)
  made-is q e k c x y = λ i. ok (record { place = q.place; code = sym c i; end = sym x i; kept = sym y i })

  kind-complete : (q : Packet) → q.code ≡ byte f (q.place + 3) → Kind q → kind_at id f q.place ≡ ok q
  unfolding kind_at pack_at private_at
  kind-complete q c (inl h) = rw (eq-eqb (byte f (q.place + 3)) 0xBA (sym c ∙ h.0)) (form h.2)
    where
      form : ((byte f (q.place + 4) / 64 ≡ 1) × (q.end ≡ q.place + 14 + byte f (q.place + 13) % 8)) ⊎ ((byte f (q.place + 4) / 16 ≡ 2) × (q.end ≡ q.place + 12)) → pack_at f q.place ≡ ok q
      form (inl x) = rw (eq-eqb (byte f (q.place + 4) / 64) 1 x.0) (made-is q _ none c x.1 h.1)
      form (inr x) =
          let y = x.0 in
          rw (ne_eqb (byte f (q.place + 4) / 64) 1 (λ z. omega arith), eq-eqb (byte f (q.place + 4) / 16) 2 x.0) (made-is q _ none c x.1 h.1)
  kind-complete q c (inr (inl h)) =
      let d = h.code_is in
      let b : body_at f (q.place + 6) (length_end f q.place) ≡ ok h.start = (body_iff f (q.place + 6) (length_end f q.place) h.start).1 (subst (λ (e : ℕ). IsBody f (q.place + 6) e h.start) h.end_is h.body) in
      let k : kept_at id f h.start (length_end f q.place) ≡ q.kept = kept-complete h.start (length_end f q.place) q.kept (subst (λ (e : ℕ). Keeps id f h.start e q.kept) h.end_is h.keeps) in
      rw (ne_eqb (byte f (q.place + 3)) 0xBA (λ z. omega arith), eq-eqb (byte f (q.place + 3)) 0xBD (sym c ∙ h.code_is), b) (made-is q _ (kept_at id f h.start (length_end f q.place)) c h.end_is (sym k))
  kind-complete q c (inr (inr h)) =
      rw (ne_eqb (byte f (q.place + 3)) 0xBA (λ z. h.not_pack (c ∙ z)), ne_eqb (byte f (q.place + 3)) 0xBD (λ z. h.not_private (c ∙ z)), ne_eqb (byte f (q.place + 3)) 0xB9 (λ z. h.not_end (c ∙ z)))
      (made-is q _ none c h.end_is h.keeps_nothing)

  pub packet-sound : (p : ℕ) (q : Packet) → packet_at id f p ≡ ok q → (q.place ≡ p) × IsPacket id f q
  unfolding packet_at
  packet-sound p q e =
      let a = check-ok (eqb (byte f p) 0 && eqb (byte f (p + 1)) 0 && eqb (byte f (p + 2)) 1) no_unit _ e in
      let b = and-true (eqb (byte f p) 0 && eqb (byte f (p + 1)) 0) (eqb (byte f (p + 2)) 1) a.0 in
      let c = and-true (eqb (byte f p) 0) (eqb (byte f (p + 1)) 0) b.0 in
      let w = and_then-ok (kind_at id f p) (λ (x : Packet). check (leb x.end (length f)) no_unit (ok x)) a.1 in
      let d = check-ok (leb w.0.end (length f)) no_unit (ok w.0) w.2 in
      let r = kind_sound p w.0 w.1 in
      let z = r.placed in
      subst (λ (x : Packet). (x.place ≡ p) × IsPacket id f x) (ok-injective d.1) (
        z,
        record {
          prefix_0 = rw z (eqb-true _ _ c.0);
          prefix_1 = rw z (eqb-true _ _ c.1);
          prefix_2 = rw z (eqb-true _ _ b.1);
          code_is = r.coded;
          inside = leb-true _ _ d.0;
          kind = r.kind;
        },
      )

  pub packet-complete : (q : Packet) → IsPacket id f q → packet_at id f q.place ≡ ok q
  unfolding packet_at
  packet-complete q h =
      rw (eq-eqb (byte f q.place) 0 h.prefix_0, eq-eqb (byte f (q.place + 1)) 0 h.prefix_1, eq-eqb (byte f (q.place + 2)) 1 h.prefix_2, kind-complete q h.code_is h.kind, le-leb q.end (length f) h.inside)
