-- The packet at a place, as the code reads it, and what its answer tells. Assumes nothing.
use Prim.Native.Nat.{ℕ, ◌+◌, ◌-◌, ◌/◌, ◌%◌, ◌≤◌, ◌<◌}
use native.Mathlib.Omega.{arith}
use mathlib.Core.Path.{◌≡◌, refl, sym, ap, ◌∙◌, subst}
use mathlib.Core.Bool.{Bool, true, false, not, cond, ◌&&◌}
use mathlib.Core.Logic.{◌⊎◌, inl, inr, ⊎_elim}
use Rattle.std.specs.Prelude.{Option, Some as some, None as none, Result, Ok, Err, IsErr, IsErrAnd}
use Rattle.std.specs.Option.{ok_or}
use Rattle.std.specs.Result.{result_ok}
use Rattle.outcome.specs.declared.Refusal.{Refusal}
use Rattle.outcome.specs.declared.Refusal.TheVariants.{NoUnit}
use Rattle.outcome.proofs.Refusals.{handed_on}
use mathlib.Core.List.{List}
use lib.ListN.{length, drop, length-drop}
use lib.Seq.{slice, slice_empty, length-slice, get_or-drop, take_all}
use Rattle.std.specs.List.{slice_range}
use lib.Dec.{eqb, leb}
use borrow.Author.Tests.{eq-eqb, ne_eqb, le-leb, lt-leb, lt-ltb, le-ltb, eqb-true, leb-true, leb-false}
use Rattle.outcome.specs.Outcome.{Res, ok, refuse, check, map_res, no_unit, number_of, answered}
use Rattle.outcome.proofs.Laws.{ok-not-refuse, ok-injective, refuse-injective, check-ok, and-true, check-refuse, and_then-refuse, map_res-refuse, either, not_so, not-true, not-false, clash}
use Rattle.grammar.specs.Bytes.{byte}
use Rattle.grammar.specs.Packets.{Part, Packet, length_end, Keeps, IsPack, IsPrivate, IsOther, IsPacket, kept_bytes}
use Rattle.grammar.proofs.PacketParts.{byte-slice, body-after, packet-longer}
use Rattle.ps_model.specs.OnePacket.{body_at, packet, kept_at, pack_at, private_at, kind_at, packet_at}
use Rattle.ps_model.specs.PacketAnswers.{body_part, packet_given, whole_given, kept_given}
use Rattle.ps_model.specs.declared.PacketAt.{PacketAt}
use Rattle.ps_model.proofs.PacketGrammar.{packet-sound, body_iff}
use Rattle.ps_model.proofs.Shift.{body_refuses, body_file}

-- ---- A place that is reached, or not

pub reached : (m l e : ℕ) → check (leb m l) no_unit (ok m) ≡ ok e → (m ≤ l) × (e ≡ m)
reached m l e h = let c = check-ok (leb m l) no_unit (ok m) h in (leb-true m l c.0, sym (ok-injective c.1))

pub not_reached : (m l n : ℕ) → check (leb m l) no_unit (ok m) ≡ refuse n → (l < m) × (n ≡ no_unit)
not_reached m l n h = ⊎_elim (λ g. ok-not-refuse (sym (rw g at h))) low (either (leb m l))
  where
    low : leb m l ≡ false → (l < m) × (n ≡ no_unit)
    low g = (leb-false m l g, sym (refuse-injective (rw g at h)))

-- ---- Start codes and pack headers

module _ (f : List ℕ) (p : ℕ) where
  -- packet_start_code_prefix
  pub record Prefixed : Type 0 where
    pub at_0 : byte f p ≡ 0
    pub at_1 : byte f (p + 1) ≡ 0
    pub at_2 : byte f (p + 2) ≡ 1

  pub whole-yes : (s : ℕ) → p + s ≤ length f
      → ok (PacketAt.Passes (p + s)) ≡ whole_given (length f) (ok (packet f p (p + s) none))
  whole-yes s h = rw (le-leb (p + s) (length f) h)

  pub whole-no : (s : ℕ) → length f < p + s
      → refuse no_unit ≡ whole_given (length f) (ok (packet f p (p + s) none))
  whole-no s h = rw (lt-leb (p + s) (length f) h)

  module _ (t : byte f (p + 4) / 64 ≡ 1) where
    pub pack-cut : length f < p + 14 → refuse no_unit ≡ whole_given (length f) (pack_at f p)
    unfolding pack_at
    pack-cut h =
        let l : length f < p + 14 + byte f (p + 13) % 8 = omega arith in
        rw (eq-eqb (byte f (p + 4) / 64) 1 t, lt-leb (p + 14 + byte f (p + 13) % 8) (length f) l)

    pub pack-newer : (s : ℕ) → s ≡ 14 + byte f (p + 13) % 8
        → whole_given (length f) (ok (packet f p (p + s) none)) ≡ whole_given (length f) (pack_at f p)
    unfolding pack_at
    pack-newer s e =
        let z : p + s ≡ p + 14 + byte f (p + 13) % 8 = omega arith in
        rw (eq-eqb (byte f (p + 4) / 64) 1 t, z)

  module _ (t : byte f (p + 4) / 64 ≡ 1 → ⊥) where
    pub pack-older : byte f (p + 4) / 16 ≡ 2
        → whole_given (length f) (ok (packet f p (p + 12) none)) ≡ whole_given (length f) (pack_at f p)
    unfolding pack_at
    pack-older u = rw (ne_eqb (byte f (p + 4) / 64) 1 t, eq-eqb (byte f (p + 4) / 16) 2 u)

    pub pack-none : (byte f (p + 4) / 16 ≡ 2 → ⊥) → refuse no_unit ≡ whole_given (length f) (pack_at f p)
    unfolding pack_at
    pack-none u = rw (ne_eqb (byte f (p + 4) / 64) 1 t, ne_eqb (byte f (p + 4) / 16) 2 u)

-- ---- Packets that are refused

module _ (id : ℕ → Bool) (f : List ℕ) (p : ℕ) where
  kind_refuses : (n : ℕ) → kind_at id f p ≡ refuse n → n ≡ no_unit
  unfolding kind_at pack_at private_at
  kind_refuses n q = ⊎_elim pack (λ t. more t (either (eqb (byte f (p + 3)) 0xBD))) (either (eqb (byte f (p + 3)) 0xBA))
    where
      pack : eqb (byte f (p + 3)) 0xBA ≡ true → n ≡ no_unit
      pack t = go (eqb (byte f (p + 4) / 64) 1) (rw t at q)
        where
          go : (v : Bool)
              → cond v (ok (packet f p (p + 14 + byte f (p + 13) % 8) none)) (check (eqb (byte f (p + 4) / 16) 2) no_unit (ok (packet f p (p + 12) none))) ≡ refuse n
              → n ≡ no_unit
          go true g = ok-not-refuse (sym g)
          go false g = ⊎_elim (λ z. z) (λ z. ok-not-refuse (sym z)) (check-refuse (eqb (byte f (p + 4) / 16) 2) no_unit (ok (packet f p (p + 12) none)) g)

      more : eqb (byte f (p + 3)) 0xBA ≡ false
          → (eqb (byte f (p + 3)) 0xBD ≡ true) ⊎ (eqb (byte f (p + 3)) 0xBD ≡ false) → n ≡ no_unit
      more t (inl s) =
          body_refuses f (p + 6) (length_end f p) n (map_res-refuse (λ (b : ℕ). packet f p (length_end f p) (kept_at id f b (length_end f p))) (body_at f (p + 6) (length_end f p)) (rw (t, s) at q))
      more t (inr s) = go (eqb (byte f (p + 3)) 0xB9) (rw (t, s) at q)
        where
          go : (v : Bool) → cond v (refuse no_unit) (ok (packet f p (length_end f p) none)) ≡ refuse n → n ≡ no_unit
          go true g = let z : no_unit ≡ n = cc in sym z
          go false g = ok-not-refuse (sym g)

  pub packet-refuses : (n : ℕ) → packet_at id f p ≡ refuse n → n ≡ no_unit
  unfolding packet_at
  packet-refuses n q =
      ⊎_elim (λ x. x)
      (λ x.
      ⊎_elim (kind_refuses n) (λ y. ⊎_elim (λ z. z) (λ z. ok-not-refuse (sym z)) (check-refuse (leb y.0.end (length f)) no_unit (ok y.0) y.2))
      (and_then-refuse (kind_at id f p) (λ (x : Packet). check (leb x.end (length f)) no_unit (ok x)) x))
      (check-refuse (eqb (byte f p) 0 && eqb (byte f (p + 1)) 0 && eqb (byte f (p + 2)) 1) no_unit _ q)

  -- no packet fits where six bytes do not
  pub packet-short : length f < p + 6 → refuse no_unit ≡ packet_given (packet_at id f p)
  packet-short h = go (packet_at id f p) refl
    where
      go : (r : Res Packet) → packet_at id f p ≡ r → refuse no_unit ≡ packet_given r
      go (ok q) e =
          let x = packet-sound id f p q e in
          let l = packet-longer id f q x.1 in
          let i = x.1.inside in
          let z = x.0 in
          absurd (omega arith)
      go (refuse n) e = ap refuse (sym (packet-refuses n e))

  pub packet-unprefixed : (Prefixed f p → ⊥) → refuse no_unit ≡ packet_given (packet_at id f p)
  unfolding packet_at
  packet-unprefixed h =
      let t : (eqb (byte f p) 0 && eqb (byte f (p + 1)) 0 && eqb (byte f (p + 2)) 1) ≡ false =
      not_so (eqb (byte f p) 0 && eqb (byte f (p + 1)) 0 && eqb (byte f (p + 2)) 1)
      (λ e.
      let a = and-true (eqb (byte f p) 0 && eqb (byte f (p + 1)) 0) (eqb (byte f (p + 2)) 1) e in
      let b = and-true (eqb (byte f p) 0) (eqb (byte f (p + 1)) 0) a.0 in
      h (record { at_0 = eqb-true _ _ b.0; at_1 = eqb-true _ _ b.1; at_2 = eqb-true _ _ a.1 })) in
      rw t

  module _ (h : Prefixed f p) where
    pub packet-kind : whole_given (length f) (kind_at id f p) ≡ packet_given (packet_at id f p)
    unfolding packet_at
    packet-kind = rw (eq-eqb (byte f p) 0 h.at_0, eq-eqb (byte f (p + 1)) 0 h.at_1, eq-eqb (byte f (p + 2)) 1 h.at_2)

    pub packet-pack : byte f (p + 3) ≡ 0xBA → whole_given (length f) (pack_at f p) ≡ packet_given (packet_at id f p)
    unfolding kind_at
    packet-pack c = rw (← packet-kind, eq-eqb (byte f (p + 3)) 0xBA c)

    module _ (c : byte f (p + 3) ≡ 0xBA → ⊥) where
      pub packet-private : byte f (p + 3) ≡ 0xBD
          → whole_given (length f) (private_at id f p) ≡ packet_given (packet_at id f p)
      unfolding kind_at
      packet-private d = rw (← packet-kind, ne_eqb (byte f (p + 3)) 0xBA c, eq-eqb (byte f (p + 3)) 0xBD d)

      module _ (d : byte f (p + 3) ≡ 0xBD → ⊥) where
        pub packet-ending : byte f (p + 3) ≡ 0xB9 → refuse no_unit ≡ packet_given (packet_at id f p)
        unfolding kind_at
        packet-ending e = rw (← packet-kind, ne_eqb (byte f (p + 3)) 0xBA c, ne_eqb (byte f (p + 3)) 0xBD d, eq-eqb (byte f (p + 3)) 0xB9 e)

        pub packet-other : (byte f (p + 3) ≡ 0xB9 → ⊥) → (s : ℕ) → p + s ≡ length_end f p
            → whole_given (length f) (ok (packet f p (p + s) none)) ≡ packet_given (packet_at id f p)
        unfolding kind_at
        packet-other e s q = rw (← packet-kind, ne_eqb (byte f (p + 3)) 0xBA c, ne_eqb (byte f (p + 3)) 0xBD d, ne_eqb (byte f (p + 3)) 0xB9 e, q)

  -- ---- private_stream_1

  pub private-cut : length f < length_end f p → refuse no_unit ≡ whole_given (length f) (private_at id f p)
  unfolding private_at
  private-cut h = go (body_at f (p + 6) (length_end f p)) refl
    where
      go : (r : Res ℕ) → body_at f (p + 6) (length_end f p) ≡ r
          → refuse no_unit ≡ whole_given (length f) (map_res (λ (b : ℕ). packet f p (length_end f p) (kept_at id f b (length_end f p))) r)
      go (ok b) q = rw (lt-leb (length_end f p) (length f) h)
      go (refuse n) q = ap refuse (sym (body_refuses f (p + 6) (length_end f p) n q))

  module _ (e : ℕ) (x : e ≡ length_end f p) (h : e ≤ length f) where
    -- the body b of the packet's own bytes, in the file
    record Bodied (b : List ℕ) : Type 0 where
      start : ℕ
      found : body_at f (p + 6) e ≡ ok start
      reach : start + length b ≡ e
      head : 0 < length b → byte b 0 ≡ byte f start

    -- the packet's own bytes s have the body b, or none
    module _ (s : List ℕ) (o : s ≡ slice (p + 6) e f) (m : Option (List ℕ)) (q : m ≡ body_part s (body_at s 0 (length s))) where
      long : length s ≡ e - (p + 6)
      long = ap length o ∙ length-slice (p + 6) e f h

      placed : body_at f (p + 6) e ≡ map_res (λ (c : ℕ). p + 6 + c) (body_at s 0 (length s))
      placed = rw (long, o) (body_file f (p + 6) e (omega arith))

      bodied : (b : List ℕ) → m ≡ some b → Bodied b
      bodied b y = go (body_at s 0 (length s)) refl (sym y ∙ q)
        where
          go : (u : Res ℕ) → body_at s 0 (length s) ≡ u → some b ≡ body_part s u → Bodied b
          go (refuse n) v z = let y : ◌≡◌ {A = ℕ} 0 1 = cc in absurd (omega arith)
          go (ok c) v z =
              let w : b ≡ drop c s = cc in
              let i = ((body_iff s 0 (length s) c).0 v).within in
              let l : length b ≡ e - (p + 6) - c = ap length w ∙ length-drop c s ∙ ap (λ (n : ℕ). n - c) long in
              let g = long in
              let k : c + 0 ≡ c = omega arith in
              record {
                start = p + 6 + c;
                found = placed ∙ ap (map_res (λ (c : ℕ). p + 6 + c)) v;
                reach = omega arith;
                head = λ m. ap (λ (d : List ℕ). byte d 0) w ∙ get_or-drop c s 0 0 ∙ ap (byte s) k ∙ ap (λ (d : List ℕ). byte d c) o ∙ byte-slice f (p + 6) e c (omega arith);
              }

      pub private-none : m ≡ none → refuse no_unit ≡ whole_given (length f) (private_at id f p)
      unfolding private_at
      private-none y = go (body_at s 0 (length s)) refl (sym y ∙ q)
        where
          go : (u : Res ℕ) → body_at s 0 (length s) ≡ u → none ≡ body_part s u
              → refuse no_unit ≡ whole_given (length f) (private_at id f p)
          go (ok c) v w = let y : ◌≡◌ {A = ℕ} 0 1 = cc in absurd (omega arith)
          go (refuse n) v w =
              let g : body_at f (p + 6) (length_end f p) ≡ refuse n = ap (body_at f (p + 6)) (sym x) ∙ placed ∙ ap (map_res (λ (c : ℕ). p + 6 + c)) v in
              rw g (ap refuse (sym (body_refuses f (p + 6) (length_end f p) n g)))

      -- what the body keeps is what the packet keeps
      shown : (b : List ℕ) (k : Bodied b)
          → packet_given (ok (packet f p e (kept_at id f k.start e))) ≡ whole_given (length f) (private_at id f p)
      unfolding private_at
      shown b k =
          let g : body_at f (p + 6) (length_end f p) ≡ ok k.start = ap (body_at f (p + 6)) (sym x) ∙ k.found in
          rw (g, ← x, le-leb e (length f) h)

      module _ (b : List ℕ) (y : m ≡ some b) where
        pub private_fits : length b ≤ e
        private_fits = let g = (bodied b y).reach in omega arith

        pub private_empty : length b ≡ 0 → ok (PacketAt.Passes e) ≡ whole_given (length f) (private_at id f p)
        unfolding kept_at
        private_empty z =
            let k = bodied b y in
            let g = k.reach in
            let l : e ≤ k.start = omega arith in
            rw (← shown b k, le-ltb k.start e l)

        module _ (z : 0 < length b) where
          pub private_other : id (byte b 0) ≡ false → ok (PacketAt.Passes e) ≡ whole_given (length f) (private_at id f p)
          unfolding kept_at
          private_other d =
              let k = bodied b y in
              let g = k.reach in
              let l : k.start < e = omega arith in
              let u : id (byte f k.start) ≡ false = ap id (sym (k.head z)) ∙ d in
              rw (← shown b k, lt-ltb k.start e l, u)

          pub private_keeps : id (byte b 0) ≡ true
              → ok (PacketAt.Keeps (e - (length b - 1)) e) ≡ whole_given (length f) (private_at id f p)
          unfolding kept_at
          private_keeps d =
              let k = bodied b y in
              let g = k.reach in
              let l : k.start < e = omega arith in
              let u : id (byte f k.start) ≡ true = ap id (sym (k.head z)) ∙ d in
              let w : e - (length b - 1) ≡ k.start + 1 = omega arith in
              rw (← shown b k, lt-ltb k.start e l, u, w)

-- ---- What an answer tells

-- the packet at p keeps the bytes from a up to e, where it ends
pub record Told (id : ℕ → Bool) (f : List ℕ) (p a e : ℕ) : Type 0 where
  pub packet : Packet
  pub found : packet_at id f p ≡ ok packet
  pub ends : packet.end ≡ e
  pub keeps : kept_bytes packet.kept ≡ slice a e f
  pub after : p + 6 ≤ a
  pub upto : a ≤ e
  pub inside : e ≤ length f

module _ (id : ℕ → Bool) (f : List ℕ) (p : ℕ) where
  kept-part : (q : Packet) (k : Part) → IsPacket id f q → q.kept ≡ some k
      → (q.place + 6 ≤ k.place) × (k.place ≤ q.end) × (k.bytes ≡ slice k.place q.end f)
  kept-part q k i e = go i.kind
    where
      nothing : q.kept ≡ none
          → (q.place + 6 ≤ k.place) × (k.place ≤ q.end) × (k.bytes ≡ slice k.place q.end f)
      nothing z = let g : none ≡ some k = sym z ∙ e in let y : ◌≡◌ {A = ℕ} 0 1 = cc in absurd (omega arith)

      go : IsPack f q ⊎ (IsPrivate id f q ⊎ IsOther f q)
          → (q.place + 6 ≤ k.place) × (k.place ≤ q.end) × (k.bytes ≡ slice k.place q.end f)
      go (inl h) = nothing h.1
      go (inr (inr h)) = nothing h.keeps_nothing
      go (inr (inl h)) =
          let w : Keeps id f h.start q.end (some k) = subst (Keeps id f h.start q.end) e h.keeps in
          let l = body-after f (q.place + 6) q.end h.start h.body in
          let g = w.2.place_is in
          let b = w.0 in
          (omega arith, omega arith, w.2.bytes_are ∙ ap (λ (n : ℕ). slice n q.end f) (sym g))

  -- by what it keeps
  given-told : (q : Packet) (r : Res PacketAt) → packet_at id f p ≡ ok q → r ≡ ok (kept_given q.kept q.end)
      → ((a e : ℕ) → r ≡ ok (PacketAt.Keeps a e) → Told id f p a e) × ((e : ℕ) → r ≡ ok (PacketAt.Passes e) → Told id f p e e)
  given-told q r x y = go q.kept refl y
    where
      go : (k : Option Part) → q.kept ≡ k → r ≡ ok (kept_given k q.end)
          → ((a e : ℕ) → r ≡ ok (PacketAt.Keeps a e) → Told id f p a e) × ((e : ℕ) → r ≡ ok (PacketAt.Passes e) → Told id f p e e)
      go none u v = (
        λ a e w. let z : ◌≡◌ {A = ℕ} 0 1 = cc in absurd (omega arith),
        λ e w.
            let s = packet-sound id f p q x in
            let l = packet-longer id f q s.1 in
            let i = s.1.inside in
            let o = s.0 in
            let g : q.end ≡ e = cc in
            record { packet = q; found = x; ends = g; keeps = ap kept_bytes u ∙ sym (slice_empty e f); after = omega arith; upto = omega arith; inside = omega arith },
      )
      go (some k) u v = (
        λ a e w.
            let s = packet-sound id f p q x in
            let t = kept-part q k s.1 u in
            let i = s.1.inside in
            let o = s.0 in
            let g : q.end ≡ e = cc in
            let m : k.place ≡ a = cc in
            let l0 = t.0 in
            let l1 = t.1 in
            record { packet = q; found = x; ends = g; keeps = ap kept_bytes u ∙ t.2 ∙ ap (λ (n : ℕ). slice n q.end f) m ∙ ap (λ (n : ℕ). slice a n f) g; after = omega arith; upto = omega arith; inside = omega arith },
        λ e w. let z : ◌≡◌ {A = ℕ} 0 1 = cc in absurd (omega arith),
      )

  module _ (r : Res PacketAt) (x : r ≡ packet_given (packet_at id f p)) where
    pub keeps-told : (a e : ℕ) → r ≡ ok (PacketAt.Keeps a e) → Told id f p a e
    keeps-told a e y = go (packet_at id f p) refl x
      where
        go : (s : Res Packet) → packet_at id f p ≡ s → r ≡ packet_given s → Told id f p a e
        go (ok q) u v = (given-told q r u v).0 a e y
        go (refuse n) u v = let z : ◌≡◌ {A = ℕ} 0 1 = cc in absurd (omega arith)

    pub passes-told : (e : ℕ) → r ≡ ok (PacketAt.Passes e) → Told id f p e e
    passes-told e y = go (packet_at id f p) refl x
      where
        go : (s : Res Packet) → packet_at id f p ≡ s → r ≡ packet_given s → Told id f p e e
        go (ok q) u v = (given-told q r u v).1 e y
        go (refuse n) u v = let z : ◌≡◌ {A = ℕ} 0 1 = cc in absurd (omega arith)

    pub refused-told : (n : ℕ) → r ≡ refuse n → packet_at id f p ≡ refuse n
    refused-told n y = go (packet_at id f p) refl x
      where
        kept : (k : Option Part) (e : ℕ) → r ≡ ok (kept_given k e) → packet_at id f p ≡ refuse n
        kept none e v = let z : ◌≡◌ {A = ℕ} 0 1 = cc in absurd (omega arith)
        kept (some k) e v = let z : ◌≡◌ {A = ℕ} 0 1 = cc in absurd (omega arith)

        go : (s : Res Packet) → packet_at id f p ≡ s → r ≡ packet_given s → packet_at id f p ≡ refuse n
        go (ok q) u v = kept q.kept q.end v
        go (refuse m) u v = let z : m ≡ n = cc in u ∙ ap refuse z

-- ---- The bytes from a place on, as the code takes them

module _ (f : List ℕ) (p : ℕ) (s : List ℕ) (e : s ≡ slice_range f p (length f)) where
  pub byte_from : (i : ℕ) → byte s i ≡ byte f (p + i)
  byte_from i =
      let l : length (drop p f) ≤ length f - p = rw (length-drop p f) (omega arith) in
      ap (λ (d : List ℕ). byte d i) (e ∙ take_all (length f - p) (drop p f) l) ∙ get_or-drop p f i 0

  first_byte : byte s 0 ≡ byte f p
  first_byte = let k : p + 0 ≡ p = omega arith in byte_from 0 ∙ ap (byte f) k

  pub prefixed_from : not (eqb (byte s 0) 0 && (eqb (byte s 1) 0 && (eqb (byte s 2) 1 && true))) ≡ false → Prefixed f p
  prefixed_from h =
      let a = and-true (eqb (byte s 0) 0) (eqb (byte s 1) 0 && (eqb (byte s 2) 1 && true)) (not-false _ h) in
      let b = and-true (eqb (byte s 1) 0) (eqb (byte s 2) 1 && true) a.1 in
      let d = and-true (eqb (byte s 2) 1) true b.1 in
      record { at_0 = sym first_byte ∙ eqb-true _ _ a.0; at_1 = sym (byte_from 1) ∙ eqb-true _ _ b.0; at_2 = sym (byte_from 2) ∙ eqb-true _ _ d.0 }

  pub unprefixed_from : not (eqb (byte s 0) 0 && (eqb (byte s 1) 0 && (eqb (byte s 2) 1 && true))) ≡ true → Prefixed f p → ⊥
  unprefixed_from h p =
      let n = not-true _ h in
      clash _ (rw (eq-eqb (byte s 0) 0 (first_byte ∙ p.at_0), eq-eqb (byte s 1) 0 (byte_from 1 ∙ p.at_1), eq-eqb (byte s 2) 1 (byte_from 2 ∙ p.at_2))) n

-- ---- What a `?` hands on where there is no unit

pub missing : {A B : Type 0} (o : Option A) (e : Refusal) (r : Result B Refusal) → o ≡ none → Err e ≡ ok_or o NoUnit → IsErr r × IsErrAnd r (λ x. x ≡ e) → answered r ≡ refuse no_unit
missing {A} o e r z h k =
    let y : ◌≡◌ {A = Result A Refusal} (Err e) (Err NoUnit) = rw z at h in
    let w : e ≡ NoUnit = cc in
    handed_on r e k ∙ ap (λ (x : Refusal). refuse (number_of x)) w

-- an answer whose value, or none, is known
pub was_ok : {A : Type 0} (r : Result A Refusal) (a : A) → some a ≡ result_ok r → answered r ≡ ok a
was_ok (Ok b) a h = let z : a ≡ b = cc in ap ok (sym z)
was_ok (Err e) a h = let y : ◌≡◌ {A = ℕ} 0 1 = cc in absurd (omega arith)
