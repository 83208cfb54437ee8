-- `ps::measure_packets` meets its contract: each turn is one packet more. Assumes nothing.
use native.Mathlib.Omega.{arith}
use mathlib.Core.Path.{ap, ◌∙◌}
use Rattle.outcome.specs.Outcome.{answered}
use Rattle.std.specs.Prelude.{Ok}
use Rattle.std.proofs.lemmas.Result.{err_from_is_err_and}
use Rattle.grammar.specs.Packets.{is_id}
use Rattle.ps_model.proofs.Read.{Told, keeps-told, passes-told, refused-told}
use Rattle.ps_model.proofs.Loops.{measuring-starts, measuring_refused, measuring_passes, measuring_done, measuring_few, measuring_more}
use Rattle.ps.proofs.measure_packets.Goals.{In-Keeps, In-Passes}
use Rattle.ps.proofs.measure_packets.Goals as goal

passes : (c : In-Passes) → (Told (is_id c.args.id) c.args.file.now c.loop-end.at c.in-Passes.end c.in-Passes.end)
passes c = passes-told _ _ _ _ c.read_packet.ensures _ (ap answered c.in_ok-end.was ∙ ap (λ r. answered (Ok r)) c.in-Passes.is)

keeps : (c : In-Keeps) → (Told (is_id c.args.id) c.args.file.now c.loop-end.at c.in-Keeps.a c.in-Keeps.end)
keeps c = keeps-told _ _ _ _ c.read_packet.ensures _ _ (ap answered c.in_ok-end.was ∙ ap (λ r. answered (Ok r)) c.in-Keeps.is)

-- ---- The needs
pub loop-end-init : goal.loop-end-init
loop-end-init c = measuring-starts _ _ _

pub returns-in_err-end : goal.returns-in_err-end
returns-in_err-end c =
    let p = err_from_is_err_and c.from_residual.result c.from_residual.ensures.1 in rw (p.1, p.2) (measuring_refused _ _ _ _ _ _ _ c.loop-end.invariant _ (refused-told _ _ _ _ c.read_packet.ensures _ (ap answered c.in_err-end.was)))

pub loop-end-smaller-in-Passes : goal.loop-end-smaller-in-Passes
loop-end-smaller-in-Passes c = omega (arith, (passes (goal.at.loop-end-smaller-in-Passes c).In-Passes).after, (passes (goal.at.loop-end-smaller-in-Passes c).In-Passes).inside)

pub loop-end-preserved-in-Passes : goal.loop-end-preserved-in-Passes
loop-end-preserved-in-Passes c = measuring_passes _ _ _ _ _ _ _ c.loop-end.invariant _ (passes (goal.at.loop-end-preserved-in-Passes c).In-Passes)

pub joined_byte-first-requires : goal.joined_byte-first-requires
joined_byte-first-requires c = ((keeps (goal.at.joined_byte-first-requires c).In-Keeps).upto, (keeps (goal.at.joined_byte-first-requires c).In-Keeps).inside)

pub joined_byte-second-requires : goal.joined_byte-second-requires
joined_byte-second-requires c = ((keeps (goal.at.joined_byte-second-requires c).In-Keeps).upto, (keeps (goal.at.joined_byte-second-requires c).In-Keeps).inside)

pub overflow_sub-have : goal.overflow_sub-have
overflow_sub-have c = (keeps (goal.at.overflow_sub-have c).In-Keeps).upto

pub overflow_add-have : goal.overflow_add-have
overflow_add-have c =
    let k = keeps (goal.at.overflow_add-have c).In-Keeps in
    let l = k.inside in
    let m = k.after in
    let o = c.loop-end.invariant.low in
    omega arith

pub returns-then-t-have : goal.returns-then-t-have
returns-then-t-have c =
    measuring_done _ _ _ _ _ _ _ c.loop-end.invariant _ _ (keeps (goal.at.returns-then-t-have c).In-Keeps) _ _ c.joined_byte-first.ensures c.joined_byte-second.ensures c.if-have-ge2.true _
    c.word_of-t.ensures c.if-t-have.true

pub loop-end-smaller-else-t-have : goal.loop-end-smaller-else-t-have
loop-end-smaller-else-t-have c =
    let k = keeps (goal.at.loop-end-smaller-else-t-have c).In-Keeps in
    omega (arith, k.after, k.inside, k.upto)

pub loop-end-preserved-else-t-have : goal.loop-end-preserved-else-t-have
loop-end-preserved-else-t-have c =
    measuring_more _ _ _ _ _ _ _ c.loop-end.invariant _ _ (keeps (goal.at.loop-end-preserved-else-t-have c).In-Keeps) _ _ c.joined_byte-first.ensures c.joined_byte-second.ensures c.if-have-ge2.true _
    c.word_of-t.ensures c.if-t-have.false

pub loop-end-smaller : goal.loop-end-smaller
loop-end-smaller c =
    let k = keeps (goal.at.loop-end-smaller c).In-Keeps in
    omega (arith, k.after, k.inside, k.upto)

pub loop-end-preserved : goal.loop-end-preserved
loop-end-preserved c =
    measuring_few _ _ _ _ _ _ _ c.loop-end.invariant _ _ (keeps (goal.at.loop-end-preserved c).In-Keeps) _ _ c.joined_byte-first.ensures c.joined_byte-second.ensures c.if-have-ge2.false
