-- The packets from a place on and the unit that they hold, found: where there is none, refusal 13 (FORMAT 2). The test of ids is a parameter.
-- Assumes nothing: these are definitions.
use Rattle.std.specs.Prelude.{ℕ, ◌+◌, ◌-◌, Bool, cond, ◌&&◌, List, [], ◌++◌, leb, ltb, length}
use Rattle.outcome.specs.Outcome.{Res, ok, check, map_res, past_file}
use Rattle.outcome.specs.Lists.{list_from}
use Rattle.grammar.specs.Bytes.{word}
use Rattle.grammar.specs.Packets.{Packet, kept_bytes, Form, bare, packets}
use Rattle.ps_model.specs.OnePacket.{part, packet_at}

-- where the next packet stands, and what was kept before it
pub record Stand : Type 0 where
  pub place : ℕ
  pub kept : List ℕ

abbrev pub stand : ℕ → List ℕ → Stand
stand p k = record { place = p; kept = k }

-- a whole unit is kept (FORMAT 2.8)
abbrev pub complete : List ℕ → Bool
complete k = leb 2 (length k) && leb (word k 0) (length k)

abbrev pub stand_done : Stand → Bool
stand_done s = complete s.kept

abbrev pub stand_next : Stand → Packet → Stand
stand_next s p = stand p.end (s.kept ++ kept_bytes p.kept)

-- whether a bare unit stands at p (FORMAT 2.1)
unfoldable pub is_bare : List ℕ → ℕ → Bool
is_bare f p = leb (p + 4) (length f) && leb 4 (word f p) && leb (p + word f p) (length f)

module _ (id : ℕ → Bool) where
  abbrev pub stand_packet : List ℕ → Stand → Res Packet
  stand_packet f s = packet_at id f s.place

  unfoldable pub packets_at : List ℕ → ℕ → List ℕ → Res (List Packet)
  packets_at f p k = list_from stand_done (stand_packet f) stand_next (λ (s : Stand). length f - s.place) (stand p k)

  -- the unit at p, in its form
  unfoldable pub form_at : List ℕ → ℕ → Res Form
  form_at f p =
      check (ltb p (length f)) past_file (cond (is_bare f p) (ok (bare (part f p (p + word f p)))) (map_res packets (packets_at f p [])))
