-- `ps::join_packets` meets its contract: each turn is one packet more, and the last is cut where the unit ends. Assumes nothing.
use mathlib.Core.Path.{◌≡◌}
use mathlib.Core.List.{List, []}
use Prim.Native.Nat.{◌-◌}
use lib.ListN.{length}
use Rattle.outcome.specs.Outcome.{ok}
use Rattle.grammar.specs.Packets.{Packet, packets, unit_of, joined, is_id}
use Rattle.ps_model.specs.Packets.{packets_at}
use Rattle.ps_model.proofs.Loops.{Joining}
use Rattle.ps.proofs.join_packets.Given as goal

abbrev pub invariant-loop-have : goal.invariant-loop-have
invariant-loop-have l =
    (ps : List Packet) → packets_at (is_id l.id) l.file l.from [] ≡ ok ps → l.t ≡ length (unit_of (packets ps)) → Joining (is_id l.id) l.file (joined ps) l.t l.initial.scratch l.scratch l.at l.have

abbrev pub decreases-loop-have : goal.decreases-loop-have
decreases-loop-have l = length l.file - l.at
