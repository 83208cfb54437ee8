-- `idx_numbers::whole` meets its contract: by what was read. Assumes nothing.
use mathlib.Core.Path.{◌∙◌}
use Rattle.idx_numbers_model.proofs.Numbers.{whole-over, whole-none, whole-short, whole-good}
use Rattle.idx_numbers.proofs.whole.Goals as goal
use Rattle.idx_numbers.proofs.whole.Goals.{then-found-eq0-via-then-found-eq0, then-found-eq0-via-else-found-eq0+then-found-n}

pub returns-in_err-found : goal.returns-in_err-found
returns-in_err-found c = λ base top s h e l. c.from_residual.ensures ∙ whole-over c.args.r c.args.n base top s h e l c.in_err-found.was

pub returns-then-found-eq0 : goal.returns-then-found-eq0
returns-then-found-eq0 c =
    λ base top s h e l.
    elim c.then-found-eq0.branch [
      | then-found-eq0-via-then-found-eq0 w ↦ whole-none c.args.r c.args.n base top s h e l _ _ c.in_ok-found.was w.if-found-eq0.true
      | then-found-eq0-via-else-found-eq0+then-found-n w ↦ whole-short c.args.r c.args.n base top s h e l _ _ c.in_ok-found.was w.if-found-n.true
    ]

pub returns : goal.returns
returns c = λ base top s h e l. whole-good c.args.r c.args.n base top s h e l _ _ c.in_ok-found.was c.if-found-eq0.false c.if-found-n.false
