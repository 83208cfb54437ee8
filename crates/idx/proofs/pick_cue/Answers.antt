-- `idx::pick_cue` meets its contract: by what was measured. Assumes nothing.
use borrow.Author.Rules.{rules}
use native.Mathlib.Omega.{arith}
use mathlib.Core.Path.{refl}
use Rattle.outcome.specs.Outcome.{answered}
use Rattle.idx_model.proofs.Claim.{cue-claimed}
use Rattle.idx_model.proofs.Whole.{cue-refused, cue-picked}
use Rattle.idx.proofs.pick_cue.Goals as goal

pub returns-in_err-seen : goal.returns-in_err-seen
returns-in_err-seen c =
    cue-claimed _ _
    (cue-refused c.args.text.now c.args.cue 18446744073709551615 (omega (arith, c.well_formed.0.1))
    _ _ c.in_err-seen.ensures _ refl
    (answered c.from_residual.result) (search rules))

pub returns : goal.returns
returns c =
    cue-claimed _ _
    (cue-picked c.args.text.now c.args.cue 18446744073709551615 (omega (arith, c.well_formed.0.1))
    _ _ c.in_ok-seen.ensures _ refl
    _ c.picked_cue.ensures)
