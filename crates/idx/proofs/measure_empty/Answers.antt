-- `idx::measure_empty` meets its contract: no place, or one cue. Assumes nothing.
use native.Mathlib.Omega.{arith}
use mathlib.Core.Path.{refl}
use Rattle.idx_model.proofs.Whole.{empty_refused, empty_seen}
use Rattle.idx.proofs.measure_empty.Goals as goal

pub returns-then-room-eq0 : goal.returns-then-room-eq0
returns-then-room-eq0 c =
    λ cue. empty_refused cue c.args.room c.args.palette.now c.if-room-eq0.true

pub returns : goal.returns
returns c =
    λ cue.
    empty_seen cue c.args.room c.args.palette.now (omega (arith, c.if-room-eq0.false))
    _ refl c.grey_palette-greys.result c.grey_palette-greys.ensures
