-- `idx::picked_cue` meets its contract: no such cue, the last one, or one with a duration. Assumes nothing.
use mathlib.Core.Path.{ap₂, ◌∙◌}
use lib.IntN.{ℤ, pos, ◌-ℤ◌}
use native.Mathlib.Omega.{arith}
use mir.Syntax.{w64}
use mir.Facts.{to_z-of_z}
use Rattle.grammar.specs.IndexCues.{clip}
use Rattle.idx_model.proofs.Picks.{pick-none, pick_there}
use Rattle.idx.proofs.picked_cue.Goals as goal

pub returns-then-cue-seen : goal.returns-then-cue-seen
returns-then-cue-seen c = λ t e f. pick-none c.args.cue t c.args.seen e c.args.palette f c.if-cue-seen.true

pub returns : goal.returns
returns c =
    let z = to_z-of_z {w = w64} {z = c.args.seen.start} (record { sfits = omega arith }) in
    let y = to_z-of_z {w = w64} {z = c.args.seen.next} (record { sfits = omega arith }) in
    λ t e f.
    pick_there c.args.cue t c.args.seen e c.args.palette f
    c.if-cue-seen.false _ z
    c.duration_of.result.0 (c.duration_of.ensures ∙ ap₂ (λ (a b : ℤ). pos (clip (a -ℤ b))) y z)
    _ c.then_some-duration.ensures
