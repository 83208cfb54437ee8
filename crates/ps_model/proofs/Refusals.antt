-- A unit is refused with 32, 12, 13 or 14, in this order. Assumes nothing.
use Prim.Native.Nat.{ℕ, ◌+◌, ◌-◌}
use mathlib.Core.Path.{◌≡◌, refl, sym, subst}
use mathlib.Core.Bool.{Bool, true, false, cond}
use mathlib.Core.List.{List, [], ◌∷◌}
use lib.ListN.{length}
use lib.Dec.{leb, ltb}
use Rattle.outcome.proofs.Numbers.{in_table, AfterText, after-in-table, check-numbered, and_then-numbered}
use Rattle.outcome.specs.Outcome.{Res, ok, refuse, check, map_res, past_file, no_unit, bad_stream, short_scratch, InTable, RefusedWith, Numbered}
use Rattle.outcome.proofs.Laws.{ok-not-refuse, map_res-refuse}
use Rattle.outcome.proofs.Lists.{list_refuses}
use Rattle.grammar.specs.Bytes.{word}
use Rattle.grammar.specs.Packets.{Form, bare, packets, scratch_for, stream_id, top_stream, joined}
use Rattle.ps_model.specs.OnePacket.{part, packet_at, kind_at, private_at, pack_at, kept_at, body_at, header_at, header1_at, leading}
use Rattle.ps_model.specs.Packets.{Stand, stand, stand_done, stand_packet, stand_next, packets_at, is_bare, form_at}
use Rattle.ps_model.specs.Unit.{unit_at, stream_unit}
use Rattle.ps_model.proofs.Grammar.{packet-falls}
use Rattle.ps_model.proofs.Read.{packet-refuses}
use Rattle.outcome.specs.Lists.{list_fuel, list_from}

module _ (id : ℕ → Bool) (f : List ℕ) (p : ℕ) where
  -- 12 at the end of the file and past it, and 13 before it
  pub form_refused : (k : ℕ) → form_at id f p ≡ refuse k → k ≡ cond (ltb p (length f)) no_unit past_file
  unfolding form_at packets_at
  form_refused k e = go (ltb p (length f)) e
    where
      none : (t : Bool) → cond t (ok (bare (part f p (p + word f p)))) (map_res packets (packets_at id f p [])) ≡ refuse k
          → k ≡ no_unit
      none true g = ok-not-refuse (sym g)
      none false g =
          list_refuses stand_done (stand_packet id f) stand_next (λ (s : Stand). length f - s.place) (packet-falls id f) (λ (m : ℕ). m ≡ no_unit) (λ s m r. packet-refuses id f s.place m r) (stand p []) k
          (map_res-refuse packets (packets_at id f p []) g)

      go : (t : Bool)
          → check t past_file (cond (is_bare f p) (ok (bare (part f p (p + word f p)))) (map_res packets (packets_at id f p []))) ≡ refuse k
          → k ≡ cond t no_unit past_file
      go true q = none (is_bare f p) q
      go false q = let z : past_file ≡ k = cc in sym z

  -- over any property of the numbers after those of a text
  pub unit-with : (P : ℕ → Type 0) → AfterText P → (n : ℕ) → RefusedWith P (unit_at id f p n)
  unfolding unit_at
  unit-with P each n =
      and_then-numbered P (form_at id f p) _ (form (form_at id f p) refl)
      (λ m. check-numbered P (leb (scratch_for m) n) short_scratch (ok m) (each short_scratch refl) tt)
    where
      either_number : (t : Bool) → P (cond t no_unit past_file)
      either_number true = each no_unit refl
      either_number false = each past_file refl

      form : (x : Res Form) → form_at id f p ≡ x → RefusedWith P x
      form (ok m) q = tt
      form (refuse k) q = subst P (sym (form_refused k q)) (either_number (ltb p (length f)))

  pub unit-numbered : (n : ℕ) → Numbered (unit_at id f p n)
  unit-numbered = unit-with InTable after-in-table

pub stream_numbered : (s : ℕ) (f : List ℕ) (p n : ℕ) → Numbered (stream_unit s f p n)
unfolding stream_unit
stream_numbered s f p n =
    check-numbered InTable (leb s top_stream) bad_stream (unit_at (stream_id s) f p n) (in_table bad_stream refl) (unit-numbered (stream_id s) f p n)

-- each order of FORMAT 9: a stream, a file, a position and a length of scratch on which both are true, and the number
-- that is given
pub orders :
    -- 32, and 12
    (stream_unit 32 [] 0 0 ≡ refuse bad_stream)
    -- 32, and 13
    × (stream_unit 32 (0x00 ∷ []) 0 0 ≡ refuse bad_stream)
    -- 32, and 14, for a stream that would have the id 40
    × (stream_unit 32 (0x00 ∷ 0x00 ∷ 0x01 ∷ 0xBD ∷ 0x00 ∷ 0x06 ∷ 0x80 ∷ 0x00 ∷ 0x00 ∷ 0x40 ∷ 0x00 ∷ 0x02 ∷ []) 0 0 ≡ refuse bad_stream)
    -- 12, and 13
    × (stream_unit 0 (0x00 ∷ []) 1 0 ≡ refuse past_file)
    -- 13, and 14
    × (stream_unit 0 (0x00 ∷ 0x00 ∷ 0x01 ∷ 0xBD ∷ 0x00 ∷ 0x06 ∷ 0x80 ∷ 0x00 ∷ 0x00 ∷ 0x20 ∷ 0x00 ∷ 0x04 ∷ []) 0 0 ≡ refuse no_unit)
unfolding stream_unit unit_at form_at is_bare packets_at packet_at kind_at private_at pack_at kept_at body_at header_at header1_at leading list_from list_fuel word joined
orders = (refl, refl, refl, refl, refl)
