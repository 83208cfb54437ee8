-- `idx::parse_idx` meets its contract: by what was measured. Assumes nothing.
use borrow.Author.Rules.{rules}
use mathlib.Core.Path.{refl}
use Rattle.outcome.specs.Outcome.{ok, answered}
use Rattle.idx_model.proofs.Claim.{idx_claimed}
use Rattle.idx_model.proofs.Whole.{idx_refused, idx_accepted}
use Rattle.idx.proofs.parse_idx.Goals as goal

pub returns-in_err-seen : goal.returns-in_err-seen
returns-in_err-seen c =
    idx_claimed
    (idx_refused c.args.text.now c.args.starts.now c.args.positions.now
    c.min-room.result c.min-room.ensures
    _ _ c.in_err-seen.ensures _ refl
    (answered c.from_residual.result) (search rules))

pub returns : goal.returns
returns c =
    idx_claimed
    (idx_accepted c.args.text.now c.args.starts.now c.args.positions.now
    c.min-room.result c.min-room.ensures
    _ _ c.in_ok-seen.ensures _ refl
    (ok c.accepted_idx.result) c.accepted_idx.ensures _ _ c.fill_idx.ensures)
