-- The body of a PES packet and the packet at a place, found: where there is none, refusal 13 (FORMAT 2). The test of ids is a parameter.
-- Assumes nothing: these are definitions.
use Rattle.std.specs.Prelude.{ℕ, zero, suc, ◌+◌, ◌/◌, ◌%◌, Bool, cond, ◌&&◌, List, eqb, leb, ltb, length}
use Rattle.std.specs.Prelude.{Option, Some as some, None as none}
use Rattle.std.proofs.Math.Seq.{slice}
use Rattle.outcome.specs.Outcome.{Res, ok, refuse, check, and_then, map_res, no_unit}
use Rattle.grammar.specs.Bytes.{byte}
use Rattle.grammar.specs.Packets.{Part, Packet, buffer_size, stamp_size, length_end}

abbrev pub part : List ℕ → ℕ → ℕ → Part
part f a e = record { place = a; bytes = slice a e f }

-- ---- The header of a PES packet

-- how many of the j bytes at a are `FF` in front (FORMAT 2.5)
unfoldable pub leading : ℕ → List ℕ → ℕ → ℕ
leading zero f a = 0
leading (suc j) f a = let r = suc (leading j f (a + 1)) in cond (eqb (byte f a) 0xFF) r 0

-- the place after n bytes of stuffing and the buffer size (FORMAT 2.5)
abbrev pub stamp_at : List ℕ → ℕ → ℕ → ℕ
stamp_at f a n = a + n + buffer_size (byte f (a + n))

-- in the form of 11172-1, with n bytes of stuffing (FORMAT 2.5)
unfoldable pub header1_at : List ℕ → ℕ → ℕ → ℕ → Res ℕ
header1_at f a e n =
    check (ltb (a + n) e) no_unit (check (ltb (stamp_at f a n) e) no_unit (ok (stamp_at f a n + stamp_size (byte f (stamp_at f a n)))))

-- where the body of the PES from a up to e starts (FORMAT 2.4, 2.5)
unfoldable pub header_at : List ℕ → ℕ → ℕ → Res ℕ
header_at f a e =
    cond (eqb (byte f a / 64) 2) (check (leb (a + 3) e) no_unit (ok (a + 3 + byte f (a + 2)))) (header1_at f a e (leading 16 f a))

unfoldable pub body_at : List ℕ → ℕ → ℕ → Res ℕ
body_at f a e = check (ltb a e) no_unit (and_then (header_at f a e) (λ b. check (leb b e) no_unit (ok b)))

-- ---- Packets

abbrev pub packet : List ℕ → ℕ → ℕ → Option Part → Packet
packet f p e k = record { place = p; code = byte f (p + 3); end = e; kept = k }

-- a pack header, not yet known to be whole (FORMAT 2.3)
unfoldable pub pack_at : List ℕ → ℕ → Res Packet
pack_at f p =
    cond (eqb (byte f (p + 4) / 64) 1) (ok (packet f p (p + 14 + byte f (p + 13) % 8) none))
    (check (eqb (byte f (p + 4) / 16) 2) no_unit (ok (packet f p (p + 12) none)))

module _ (id : ℕ → Bool) where
  -- what a body from b up to e keeps (FORMAT 2.6)
  unfoldable pub kept_at : List ℕ → ℕ → ℕ → Option Part
  kept_at f b e = cond (ltb b e && id (byte f b)) (some (part f (b + 1) e)) none

  -- a private_stream_1 packet, not yet known to be whole (FORMAT 2.4 to 2.6)
  unfoldable pub private_at : List ℕ → ℕ → Res Packet
  private_at f p = map_res (λ (b : ℕ). packet f p (length_end f p) (kept_at f b (length_end f p))) (body_at f (p + 6) (length_end f p))

  -- the packet at p by its code (FORMAT 2.3 to 2.7)
  unfoldable pub kind_at : List ℕ → ℕ → Res Packet
  kind_at f p =
      cond (eqb (byte f (p + 3)) 0xBA) (pack_at f p)
      (cond (eqb (byte f (p + 3)) 0xBD) (private_at f p) (cond (eqb (byte f (p + 3)) 0xB9) (refuse no_unit) (ok (packet f p (length_end f p) none))))

  -- the packet at p (FORMAT 2.2)
  unfoldable pub packet_at : List ℕ → ℕ → Res Packet
  packet_at f p =
      check (eqb (byte f p) 0 && eqb (byte f (p + 1)) 0 && eqb (byte f (p + 2)) 1) no_unit
      (and_then (kind_at f p) (λ q. check (leb q.end (length f)) no_unit (ok q)))
