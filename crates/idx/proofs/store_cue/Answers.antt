-- `idx::store_cue` meets its contract: a cue's places are there. Assumes nothing.
use native.Mathlib.Omega.{arith}
use mathlib.Core.Path.{◌≡◌, ap, ◌∙◌}
use Rattle.std.specs.Prelude.{Some as some, Ok}
use lib.ListN.{length}
use Prim.Native.Nat.{◌<◌}
use borrow.Author.Rules.{scaled_Fits}
use Rattle.idx_lines_model.specs.declared.Directive.TheVariants.{Cue}
use Rattle.idx_model.proofs.Stores.{cue-fits}
use Rattle.idx.proofs.store_cue.Goals as goal
use Rattle.idx.proofs.store_cue.Goals.{In-Ok-Some-Cue}

room : (c : In-Ok-Some-Cue) → (c.args.n < length c.args.starts.now) × (c.args.n < length c.args.positions.now)
room c =
    let k = c.in-Ok-Some-Cue in
    let o : k.field-0 ≡ some k.field-0-0 = rw (k.is) at k.field-0-is in
    let d : k.field-0-0 ≡ Cue k.start k.position = rw (k.is, o) at k.field-0-0-is in
    cue-fits c.args.line c.args.n c.args.starts.now c.args.positions.now _ _ (k.is ∙ ap Ok (o ∙ ap some d)) c.requires

pub offset_bounds-starts-n : goal.offset_bounds-starts-n
offset_bounds-starts-n c =
    scaled_Fits c.args.n (length c.args.starts.now) 8 (room (goal.at.offset_bounds-starts-n c).In-Ok-Some-Cue).0 c.well_formed.1.1.0.1

pub bounds-starts-n : goal.bounds-starts-n
bounds-starts-n c = (room (goal.at.bounds-starts-n c).In-Ok-Some-Cue).0

pub offset_bounds-positions-n : goal.offset_bounds-positions-n
offset_bounds-positions-n c =
    scaled_Fits c.args.n (length c.args.positions.now) 4 (room (goal.at.offset_bounds-positions-n c).In-Ok-Some-Cue).1 c.well_formed.1.1.1.0.1

pub bounds-positions-n : goal.bounds-positions-n
bounds-positions-n c = (room (goal.at.bounds-positions-n c).In-Ok-Some-Cue).1

pub overflow_add-result : goal.overflow_add-result
overflow_add-result c = omega (arith, (room (goal.at.overflow_add-result c).In-Ok-Some-Cue).1)
