-- `idx::fill_idx` meets its contract: the cue of no bytes, or those of the lines. Assumes nothing.
use native.Mathlib.Omega.{arith}
use mathlib.Core.Path.{refl, sym, ◌∙◌}
use borrow.Author.Tests.{eqb-true, eqb-false}
use lib.ListN.{length}
use Rattle.idx_model.proofs.Whole.{empty_room, empty-stored, bytes_ok, bytes-stored}
use Rattle.idx.proofs.fill_idx.Goals as goal

pub returns-then-is_empty : goal.returns-then-is_empty
returns-then-is_empty c =
    empty-stored c.args.text.now c.args.starts.now c.args.positions.now
    c.requires (eqb-true (length c.args.text.now) 0 (sym c.is_empty.ensures ∙ c.if-is_empty.true)) _ refl

pub returns : goal.returns
returns c =
    bytes-stored c.args.text.now c.args.starts.now c.args.positions.now
    c.requires (eqb-false (length c.args.text.now) 0 (sym c.is_empty.ensures ∙ c.if-is_empty.false)) _ _ c.fill.ensures

pub slice_set_of-starts : goal.slice_set_of-starts
slice_set_of-starts c =
    let room = empty_room c.args.text.now c.args.starts.now c.args.positions.now
    c.requires (eqb-true (length c.args.text.now) 0 (sym c.is_empty.ensures ∙ c.if-is_empty.true)) in
    omega (arith, room)

pub bounds-positions-0 : goal.bounds-positions-0
bounds-positions-0 c =
    let room = empty_room c.args.text.now c.args.starts.now c.args.positions.now
    c.requires (eqb-true (length c.args.text.now) 0 (sym c.is_empty.ensures ∙ c.if-is_empty.true)) in
    omega (arith, room)

pub fill-requires : goal.fill-requires
fill-requires c =
    bytes_ok c.args.text.now c.args.starts.now c.args.positions.now
    c.requires (eqb-false (length c.args.text.now) 0 (sym c.is_empty.ensures ∙ c.if-is_empty.false))
