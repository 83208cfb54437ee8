-- `packets::pack` meets its contract: by the form of the header. Assumes nothing.
use mathlib.Core.Path.{sym, ap, ◌∙◌, refl}
use Rattle.outcome.specs.Outcome.{answered}
use Rattle.outcome.proofs.Refusals.{handed_on}
use Rattle.ps_model.proofs.Read.{not_reached, pack-cut, pack-newer, pack-older, pack-none}
use Rattle.packets.proofs.pack.Goals as goal

pub returns-in_err-after : goal.returns-in_err-after
returns-in_err-after c =
    let n = not_reached _ _ _ (sym c.after.ensures ∙ ap answered c.in_err-after.was) in
    rw (handed_on c.from_residual.result _ c.from_residual.ensures, n.1) (pack-cut _ _ c.if-file-at-eq1.true n.0)

pub returns-then-file-at-eq1 : goal.returns-then-file-at-eq1
returns-then-file-at-eq1 c = c.passing.ensures ∙ pack-newer _ _ c.if-file-at-eq1.true _ refl

pub returns-then-file-at-eq2 : goal.returns-then-file-at-eq2
returns-then-file-at-eq2 c = c.passing-then-file-at-eq2.ensures ∙ pack-older _ _ c.if-file-at-eq1.false c.if-file-at-eq2.true

pub returns : goal.returns
returns c = pack-none _ _ c.if-file-at-eq1.false c.if-file-at-eq2.false
