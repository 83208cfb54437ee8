-- `ps::join_packets` meets its contract: each turn is one packet more, and the last is cut where the unit ends. Assumes nothing.
use native.Mathlib.Omega.{arith}
use mathlib.Core.Path.{sym, ap, ◌∙◌, refl}
use mathlib.Core.List.{List}
use lib.ListN.{length}
use Rattle.std.specs.Prelude.{Ok}
use Rattle.outcome.specs.Outcome.{answered}
use Rattle.outcome.proofs.Laws.{ok-injective}
use Rattle.grammar.specs.Packets.{Packet, packets, unit_of, joined, is_id}
use Rattle.ps_model.proofs.Read.{Told, keeps-told, passes-told, refused-told}
use Rattle.ps_model.proofs.Loops.{joining_ends, joining_refused, joining_passes, joining_goes, unit-within}
use Rattle.ps.proofs.join_packets.Goals.{In-Keeps, In-Passes}
use Rattle.ps.proofs.join_packets.Goals as goal

passes : (c : In-Passes) → (Told (is_id c.args.id) c.args.file.now c.loop-have.at c.in-Passes.end c.in-Passes.end)
passes c = passes-told _ _ _ _ c.read_packet.ensures _ (ap answered c.in-Ok.is ∙ ap (λ r. answered (Ok r)) c.in-Passes.is)

keeps : (c : In-Keeps) → (Told (is_id c.args.id) c.args.file.now c.loop-have.at c.in-Keeps.a c.in-Keeps.end)
keeps c = keeps-told _ _ _ _ c.read_packet.ensures _ _ (ap answered c.in-Ok.is ∙ ap (λ r. answered (Ok r)) c.in-Keeps.is)

-- ---- The needs
pub returns-in_default : goal.returns-in_default
returns-in_default c =
    let g = c.requires in
    absurd (joining_refused _ _ (joined g.0) c.args.t (omega (arith, g.2, unit-within _ _ _ g.0 g.1)) _ _ _ _ (c.loop-have.invariant g.0 g.1 g.2) c.loop-have-test.true _
    (refused-told _ _ _ _ c.read_packet.ensures _ (ap answered c.in_default.is)))

pub loop-have-smaller-in-Passes : goal.loop-have-smaller-in-Passes
loop-have-smaller-in-Passes c = omega (arith, (passes (goal.at.loop-have-smaller-in-Passes c).In-Passes).after, (passes (goal.at.loop-have-smaller-in-Passes c).In-Passes).inside)

pub loop-have-preserved-in-Passes : goal.loop-have-preserved-in-Passes
loop-have-preserved-in-Passes c =
    λ ps q e. joining_passes _ _ (joined ps) c.args.t (omega (arith, e, unit-within _ _ _ ps q)) _ _ _ _ (c.loop-have.invariant ps q e) c.loop-have-test.true _ _ (passes (goal.at.loop-have-preserved-in-Passes c).In-Passes) refl

pub overflow_sub-end : goal.overflow_sub-end
overflow_sub-end c = (keeps (goal.at.overflow_sub-end c).In-Keeps).upto

pub copy-requires : goal.copy-requires
copy-requires c =
    let k = keeps (goal.at.copy-requires c).In-Keeps in
    let g = c.requires in
    let i = k.inside in
    let o = k.upto in
    let z = (c.loop-have.invariant g.0 g.1 g.2).size in
    let p = g.3 in
    let m = c.lesser-m.ensures in
    (omega (arith, c.loop-have-test.true), omega (arith, c.loop-have-test.true))

pub loop-have-smaller : goal.loop-have-smaller
loop-have-smaller c =
    let k = keeps (goal.at.loop-have-smaller c).In-Keeps in
    omega (arith, k.after, k.inside, k.upto)

pub loop-have-preserved : goal.loop-have-preserved
loop-have-preserved c =
    λ ps q e. joining_goes _ _ (joined ps) c.args.t (omega (arith, e, unit-within _ _ _ ps q)) _ _ _ _ (c.loop-have.invariant ps q e) c.loop-have-test.true _ _ (keeps (goal.at.loop-have-preserved c).In-Keeps) _
    c.lesser-m.ensures _ c.copy.ensures

pub returns : goal.returns
returns c =
    let g = c.requires in
    λ ps q. let e = g.2 ∙ ap (λ (l : List Packet). length (unit_of (packets l))) (ok-injective (sym g.1 ∙ q)) in
    joining_ends _ _ _ ps q _ _ _ _ _ e (c.loop-have.invariant ps q e) c.loop-have-test.false
