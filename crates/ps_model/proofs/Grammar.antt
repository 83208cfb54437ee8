-- The packets and the unit that are found are the ones that the grammar lists, so that no place has two units. Assumes nothing.
use Prim.Native.Nat.{ℕ, ◌+◌, ◌-◌, ◌<◌}
use native.Mathlib.Omega.{arith}
use mathlib.Core.Path.{◌≡◌, refl, sym, ◌∙◌, subst}
use mathlib.Core.Bool.{Bool, true, false, cond, ◌&&◌}
use mathlib.Core.Logic.{⊎_elim, ◌↔◌}
use mathlib.Core.List.{List, [], ◌∷◌, ◌++◌}
use lib.ListN.{length}
use lib.Dec.{leb, ltb}
use borrow.Author.Tests.{leb-true, ltb-true, le-leb, lt-ltb}
use Rattle.outcome.specs.Outcome.{ok, map_res, past_file}
use Rattle.outcome.specs.Lists.{Listed}
use Rattle.outcome.proofs.Laws.{ok-injective, either, not_so, clash, and-true, check-ok, map_res-ok}
use Rattle.outcome.proofs.Lists.{list_iff}
use Rattle.grammar.specs.Bytes.{word}
use Rattle.grammar.specs.Packets.{Packet, kept_bytes, Complete, Packets, Bare, Form, bare, packets, IsForm}
use Rattle.grammar.proofs.PacketParts.{packet-longer}
use Rattle.ps_model.specs.OnePacket.{part}
use Rattle.ps_model.proofs.PacketGrammar.{packet-sound, packet-complete}
use Rattle.ps_model.specs.Packets.{Stand, stand, complete, stand_done, stand_packet, stand_next, packets_at, is_bare, form_at}

pub complete-sound : (k : List ℕ) → complete k ≡ true → Complete k
complete-sound k t = let g = and-true (leb 2 (length k)) (leb (word k 0) (length k)) t in record { two = leb-true _ _ g.0; enough = leb-true _ _ g.1 }

pub complete-complete : (k : List ℕ) → Complete k → complete k ≡ true
complete-complete k h = rw (le-leb 2 (length k) h.two, le-leb (word k 0) (length k) h.enough)

module _ (f : List ℕ) where
  pub bare-sound : (p : ℕ) → is_bare f p ≡ true → Bare f p
  unfolding is_bare
  bare-sound p t =
      let g = and-true (leb (p + 4) (length f) && leb 4 (word f p)) (leb (p + word f p) (length f)) t in
      let h = and-true (leb (p + 4) (length f)) (leb 4 (word f p)) g.0 in
      record { four = leb-true _ _ h.0; least = leb-true _ _ h.1; fits = leb-true _ _ g.1 }

  bare-complete : (p : ℕ) → Bare f p → is_bare f p ≡ true
  unfolding is_bare
  bare-complete p h = rw (le-leb (p + 4) (length f) h.four, le-leb 4 (word f p) h.least, le-leb (p + word f p) (length f) h.fits)

module _ (id : ℕ → Bool) (f : List ℕ) where
  packets-listed : (at : ℕ) (k : List ℕ) (ps : List Packet) → Packets id f at k ps
      → Listed stand_done (stand_packet id f) stand_next (stand at k) ps
  unfolding Packets Listed
  packets-listed at k [] h = complete-complete k h
  packets-listed at k (p ∷ ps) h = (
    not_so (complete k) (λ t. h.0 (complete-sound k t)),
    rw (← h.1) (packet-complete id f p h.2),
    packets-listed p.end (k ++ kept_bytes p.kept) ps h.3,
  )

  listed-packets : (at : ℕ) (k : List ℕ) (ps : List Packet)
      → Listed stand_done (stand_packet id f) stand_next (stand at k) ps → Packets id f at k ps
  unfolding Packets Listed
  listed-packets at k [] h = complete-sound k h
  listed-packets at k (p ∷ ps) h =
      let x = packet-sound id f at p h.1 in
      (λ c. clash (complete k) (complete-complete k c) h.0, x.0, x.1, listed-packets p.end (k ++ kept_bytes p.kept) ps h.2)

  pub packet-falls : (s : Stand) (p : Packet) → stand_done s ≡ false → stand_packet id f s ≡ ok p
      → length f - p.end < length f - s.place
  packet-falls s p t e =
      let x = packet-sound id f s.place p e in
      let q = x.0 in
      let i = x.1.inside in
      let l = packet-longer id f p x.1 in
      omega arith

  pub packets-iff : (at : ℕ) (k : List ℕ) (ps : List Packet) → (packets_at id f at k ≡ ok ps) ↔ Packets id f at k ps
  unfolding packets_at
  packets-iff at k ps =
      let l = list_iff stand_done (stand_packet id f) stand_next (λ (s : Stand). length f - s.place) packet-falls (stand at k) ps in
      (λ h. listed-packets at k ps (l.0 h), λ h. l.1 (packets-listed at k ps h))

  -- ---- The unit

  pub form_iff : (p : ℕ) (m : Form) → (form_at id f p ≡ ok m) ↔ ((p < length f) × IsForm id f p m)
  unfolding form_at
  form_iff p m = (to, λ h. from m h.0 h.1)
    where
      to : form_at id f p ≡ ok m → (p < length f) × IsForm id f p m
      to e =
          let a = check-ok (ltb p (length f)) past_file _ e in
          (ltb-true _ _ a.0, ⊎_elim (yes a.1) (no a.1) (either (is_bare f p)))
        where
          yes : cond (is_bare f p) (ok (bare (part f p (p + word f p)))) (map_res packets (packets_at id f p [])) ≡ ok m
              → is_bare f p ≡ true → IsForm id f p m
          yes q t = subst (IsForm id f p) (ok-injective (rw t at q)) (bare-sound f p t, record { place_is = refl; bytes_are = refl })

          no : cond (is_bare f p) (ok (bare (part f p (p + word f p)))) (map_res packets (packets_at id f p [])) ≡ ok m
              → is_bare f p ≡ false → IsForm id f p m
          no q t =
              let w = map_res-ok packets (packets_at id f p []) (rw t at q) in
              subst (IsForm id f p) w.2 (λ b. clash (is_bare f p) (bare-complete f p b) t, (packets-iff p [] w.0).0 w.1)

      from : (m : Form) → p < length f → IsForm id f p m → form_at id f p ≡ ok m
      from (bare u) l h = rw (lt-ltb p (length f) l, bare-complete f p h.0) (λ i. ok (bare (record { place = sym h.1.place_is i; bytes = sym h.1.bytes_are i })))
      from (packets ps) l h = rw (lt-ltb p (length f) l, not_so (is_bare f p) (λ t. h.0 (bare-sound f p t)), (packets-iff p [] ps).1 h.1)

  -- no place has two units
  pub form_unique : (p : ℕ) (a b : Form) → p < length f → IsForm id f p a → IsForm id f p b → a ≡ b
  form_unique p a b l x y = ok-injective (sym ((form_iff p a).1 (l, x)) ∙ (form_iff p b).1 (l, y))
