-- `ps::measure_packets` meets its contract: each turn is one packet more. Assumes nothing.
use mathlib.Core.List.{[]}
use Prim.Native.Nat.{◌-◌}
use lib.ListN.{length}
use Rattle.grammar.specs.Packets.{is_id}
use Rattle.ps_model.specs.Packets.{packets_at}
use Rattle.ps_model.specs.Answers.{joined_given}
use Rattle.ps_model.proofs.Loops.{Measuring}
use Rattle.ps.proofs.measure_packets.Given as goal

abbrev pub invariant-loop-end : goal.invariant-loop-end
invariant-loop-end l = Measuring (is_id l.id) l.file (joined_given (packets_at (is_id l.id) l.file l.from [])) l.at l.have l.first l.second

abbrev pub decreases-loop-end : goal.decreases-loop-end
decreases-loop-end l = length l.file - l.at
