-- `ps::extract_spu_from_ps` meets its contract: measured, and joined where scratch is long enough. Assumes nothing.
use mathlib.Core.Path.{sym, ap, ◌∙◌}
use Rattle.outcome.specs.Outcome.{answered}
use Rattle.std.proofs.lemmas.Result.{err_from_is_err_and}
use Rattle.grammar.specs.Packets.{is_id}
use Rattle.ps_model.proofs.Unit.{joined-refused, joined-short, joined-fits}
use Rattle.ps.proofs.extract_spu_from_ps.Goals as goal

pub returns-in_err-t : goal.returns-in_err-t
returns-in_err-t c =
    let p = err_from_is_err_and c.from_residual.result c.from_residual.ensures.1 in rw (p.1, p.2) (joined-refused (is_id c.args.id) c.args.file.now c.args.from c.args.scratch.now _ (sym (ap answered c.in_err-t.was) ∙ c.measure_packets.ensures))

pub returns-then-scratch-t : goal.returns-then-scratch-t
returns-then-scratch-t c =
    joined-short (is_id c.args.id) c.args.file.now c.args.from c.args.scratch.now _ (sym (ap answered c.in_ok-t.was) ∙ c.measure_packets.ensures) c.if-scratch-t.true

pub returns : goal.returns
returns c =
    joined-fits (is_id c.args.id) c.args.file.now c.args.from c.args.scratch.now _ (sym (ap answered c.in_ok-t.was) ∙ c.measure_packets.ensures) c.if-scratch-t.false _ c.join_packets.ensures
