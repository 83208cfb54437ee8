-- What the answers of reading a body and a packet mean. Assumes nothing: these are definitions.
use Rattle.std.specs.Prelude.{ℕ, List, leb, drop}
use Rattle.std.specs.Prelude.{Option, Some as some, None as none}
use Rattle.outcome.specs.Outcome.{Res, ok, refuse, check, and_then, map_res, no_unit}
use Rattle.grammar.specs.Packets.{Part, Packet}
use Rattle.ps_model.specs.declared.PacketAt.{PacketAt}

-- where a body starts
abbrev pub body_given : Res ℕ → Res ℕ
body_given r = r

-- and that within e bytes
abbrev pub body_answer : ℕ → Res ℕ → Res ℕ
body_answer e r = body_given (and_then r (λ b. check (leb b e) no_unit (ok b)))

-- the rest of the PES s from its body on, where it has one
abbrev pub body_part : List ℕ → Res ℕ → Option (List ℕ)
body_part s (ok b) = some (drop b s)
body_part s (refuse n) = none

-- where a packet's kept part starts, if it has one, and where the packet ends
abbrev pub kept_given : Option Part → ℕ → PacketAt
kept_given none e = PacketAt.Passes e
kept_given (some k) e = PacketAt.Keeps k.place e

abbrev pub packet_given : Res Packet → Res PacketAt
packet_given r = map_res (λ p. kept_given p.kept p.end) r

-- the same of a packet that must end within n bytes (FORMAT 2.2)
abbrev pub whole_given : ℕ → Res Packet → Res PacketAt
whole_given n r = packet_given (and_then r (λ p. check (leb p.end n) no_unit (ok p)))
