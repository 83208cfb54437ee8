-- Closed inputs on which each edit of this crate's definitions gives another value. Assumes nothing.
use Prim.Native.Nat.{ℕ}
use mathlib.Core.Path.{◌≡◌, refl}
use mathlib.Core.Bool.{true, false}
use Rattle.std.specs.Prelude.{Some as some}
use mathlib.Core.List.{List, [], ◌∷◌}
use Rattle.outcome.specs.Outcome.{ok, refuse, refusal_of, map_res, no_unit, bad_stream}
use Rattle.outcome.specs.Lists.{list_fuel, list_from}
use Rattle.grammar.specs.Bytes.{word}
use Rattle.grammar.specs.Packets.{Packet, stream_id, unit_of, joined}
use Rattle.ps_model.specs.OnePacket.{leading, stamp_at, header1_at, header_at, body_at, kept_at, pack_at, private_at, kind_at, packet_at}
use Rattle.ps_model.specs.Packets.{complete, packets_at, is_bare, form_at}
use Rattle.ps_model.specs.Unit.{unit_at, stream_unit}
use Rattle.ps_model.specs.Answers.{unit_stored}

-- a first word of 0 is no bare unit
pub no_bare : is_bare (0x00 ∷ 0x00 ∷ 0x00 ∷ 0x00 ∷ []) 0 ≡ false
unfolding is_bare word
no_bare = refl

-- a newer header with no data has 3 bytes
pub short-header : header_at (0x80 ∷ 0x00 ∷ 0x00 ∷ []) 0 3 ≡ ok 3
unfolding header_at
short-header = refl

-- 16 bytes of stuffing, and a header of one byte after them
pub all-stuffing : header_at (0xFF ∷ 0xFF ∷ 0xFF ∷ 0xFF ∷ 0xFF ∷ 0xFF ∷ 0xFF ∷ 0xFF ∷ 0xFF ∷ 0xFF ∷ 0xFF ∷ 0xFF ∷ 0xFF ∷ 0xFF ∷ 0xFF ∷ 0xFF ∷ 0x0F ∷ []) 0 17 ≡ ok 17
unfolding header_at header1_at leading
all-stuffing = refl

-- one byte of stuffing, and two of a buffer size
pub after-stuffing : stamp_at (0xFF ∷ 0x40 ∷ []) 0 1 ≡ 3
after-stuffing = refl

-- a body of an id and one byte keeps that byte
pub after-id : kept_at (stream_id 0) (0x20 ∷ 0x07 ∷ []) 0 2 ≡ some (record { place = 1; bytes = 0x07 ∷ [] })
unfolding kept_at
after-id = refl

-- an older pack header ends after 12 bytes
pub older-pack : map_res (λ (p : Packet). p.end) (pack_at (0x00 ∷ 0x00 ∷ 0x01 ∷ 0xBA ∷ 0x20 ∷ []) 0) ≡ ok 12
unfolding pack_at
older-pack = refl

-- two bytes are a whole unit where they say 2
pub whole-unit : complete (0x00 ∷ 0x02 ∷ []) ≡ true
unfolding word
whole-unit = refl

-- a packet that keeps `00 04 00 04` gives a unit
pub in-packets : refusal_of (form_at (stream_id 0) (0x00 ∷ 0x00 ∷ 0x01 ∷ 0xBD ∷ 0x00 ∷ 0x08 ∷ 0x80 ∷ 0x00 ∷ 0x00 ∷ 0x20 ∷ 0x00 ∷ 0x04 ∷ 0x00 ∷ 0x04 ∷ []) 0) ≡ 0
unfolding form_at is_bare packets_at packet_at kind_at private_at pack_at kept_at body_at header_at header1_at leading list_from list_fuel word
in-packets = refl

-- a packet that keeps `00 02` under id 21: nothing for stream 0, a unit for stream 1, and the same for 3F and stream 31
abbrev under : ℕ → List ℕ
under x = 0x00 ∷ 0x00 ∷ 0x01 ∷ 0xBD ∷ 0x00 ∷ 0x06 ∷ 0x80 ∷ 0x00 ∷ 0x00 ∷ x ∷ 0x00 ∷ 0x02 ∷ []

pub own_id :
    (refusal_of (stream_unit 0 (under 0x21) 0 2) ≡ no_unit)
    × (refusal_of (stream_unit 1 (under 0x21) 0 2) ≡ 0)
    × (refusal_of (stream_unit 30 (under 0x3F) 0 2) ≡ no_unit)
    × (refusal_of (stream_unit 31 (under 0x3F) 0 2) ≡ 0)
unfolding stream_unit unit_at form_at is_bare packets_at packet_at kind_at private_at pack_at kept_at body_at header_at header1_at leading list_from list_fuel unit_of joined word
own_id = (refl, refl, refl, refl)

-- a bare unit is found for stream 31, and for no stream above it
pub bare-streams : (refusal_of (stream_unit 31 (0x00 ∷ 0x04 ∷ 0x00 ∷ 0x04 ∷ []) 0 0) ≡ 0) × (refusal_of (stream_unit 32 (0x00 ∷ 0x04 ∷ 0x00 ∷ 0x04 ∷ []) 0 0) ≡ bad_stream)
unfolding stream_unit unit_at form_at is_bare word
bare-streams = (refl, refl)

-- a refusal stores nothing
pub as_found : unit_stored (refuse no_unit) ≡ []
as_found = refl
