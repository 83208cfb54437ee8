-- The unit of a stream at a place, with room for the one that packets give: refusals 32, 12, 13, 14 (FORMAT 2).
-- Assumes nothing: these are definitions.
use Rattle.std.specs.Prelude.{ℕ, Bool, List, [], leb}
use Rattle.outcome.specs.Outcome.{Res, ok, check, and_then, map_res, bad_stream, short_scratch}
use Rattle.grammar.specs.Packets.{Form, packets, scratch_for, stream_id, top_stream}
use Rattle.ps_model.specs.Packets.{packets_at, form_at}

-- a form for which n bytes of scratch are enough
abbrev pub with_scratch : ℕ → Res Form → Res Form
with_scratch n r = and_then r (λ m. check (leb (scratch_for m) n) short_scratch (ok m))

module _ (id : ℕ → Bool) where
  unfoldable pub unit_at : List ℕ → ℕ → ℕ → Res Form
  unit_at f p n = with_scratch n (form_at id f p)

  -- the same of packets alone
  unfoldable pub joined_at : List ℕ → ℕ → ℕ → Res Form
  joined_at f p n = with_scratch n (map_res packets (packets_at id f p []))

-- the unit of stream s: 32 comes first (FORMAT 2.6)
unfoldable pub stream_unit : ℕ → List ℕ → ℕ → ℕ → Res Form
stream_unit s f p n = check (leb s top_stream) bad_stream (unit_at (stream_id s) f p n)
