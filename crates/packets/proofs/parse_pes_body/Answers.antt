-- `packets::parse_pes_body` meets its contract: the rest of the PES, or none of it. Assumes nothing.
use native.Mathlib.Omega.{arith}
use mathlib.Core.Path.{sym, ◌∙◌}
use Rattle.ps_model.proofs.Body.{rest_at}
use Rattle.ps_model.proofs.Read.{was_ok}
use Rattle.packets.proofs.parse_pes_body.Goals as goal

pub slice_bounds-result-count : goal.slice_bounds-result-count
slice_bounds-result-count c = omega (arith, (rest_at _ _ (sym (was_ok _ _ c.in_ok-body.ensures.value) ∙ c.body_start.ensures)).inside)

pub slice_bounds-result-start : goal.slice_bounds-result-start
slice_bounds-result-start c = omega (arith, (rest_at _ _ (sym (was_ok _ _ c.in_ok-body.ensures.value) ∙ c.body_start.ensures)).inside)
