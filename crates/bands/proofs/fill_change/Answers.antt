-- `bands::fill_change` meets its contract: bands that fit are stored. Assumes nothing.
use native.Mathlib.Omega.{arith}
use Prim.Native.Nat.{◌+◌, ◌≤◌}
use mathlib.Core.Path.{sym, ◌∙◌, ap, subst}
use lib.ListN.{length}
use Rattle.grammar.specs.Control.{Order}
use Rattle.control_model.specs.Fill.{order_words}
use lib.Seq.{slice}
use Rattle.outcome.specs.Outcome.{answered}
use Rattle.outcome.proofs.Laws.{part_slice, ok-injective}
use Rattle.control_model.proofs.Fill.{change-is, change_known, change_count, change_filled, change-kept}
use Rattle.bands.proofs.fill_change.Goals as goal

pub word_at-size-requires : goal.word_at-size-requires
word_at-size-requires c = omega (arith, (change-is _ _ _ c.requires.0 c.args.blocks.inside c.requires.1).head)

pub overflow_add-next : goal.overflow_add-next
overflow_add-next c =
    let d = change-is _ _ _ c.requires.0 c.args.blocks.inside c.requires.1 in omega (arith, c.word_at-size.ensures, d.head, d.small, d.fits)

pub overflow_add-p : goal.overflow_add-p
overflow_add-p c =
    let d = change-is _ _ _ c.requires.0 c.args.blocks.inside c.requires.1 in omega (arith, c.word_at-size.ensures, d.head, d.small, d.fits)

pub slice_bounds-store_words-count : goal.slice_bounds-store_words-count
slice_bounds-store_words-count c =
    let d = change-is _ _ _ c.requires.0 c.args.blocks.inside c.requires.1 in omega (arith, c.word_at-size.ensures, d.head, d.small, d.fits)

pub store_words-requires : goal.store_words-requires
store_words-requires c =
    change_known _ _ _ _ (change-is _ _ _ c.requires.0 c.args.blocks.inside c.requires.1) _ (part_slice (c.args.p + 2) _ c.args.blocks.unit.now ∙ ap (λ z. slice (c.args.p + 2) (c.args.p + z) c.args.blocks.unit.now) c.word_at-size.ensures) _ c.args.words.now c.requires.2

pub overflow_add-result : goal.overflow_add-result
overflow_add-result c =
    omega (arith, change_count _ _ _ _ (change-is _ _ _ c.requires.0 c.args.blocks.inside c.requires.1) _ (part_slice (c.args.p + 2) _ c.args.blocks.unit.now ∙ ap (λ z. slice (c.args.p + 2) (c.args.p + z) c.args.blocks.unit.now) c.word_at-size.ensures) _ _ c.requires.2 _ _ _ c.store_words.ensures (ap answered c.in-Ok.is), c.requires.2)

pub returns-in-Ok : goal.returns-in-Ok
returns-in-Ok c =
    λ o e.
    let d = change-is _ _ _ o c.args.blocks.inside e in
    change_filled _ _ _ o d _ (part_slice (c.args.p + 2) _ c.args.blocks.unit.now ∙ ap (λ z. slice (c.args.p + 2) (c.args.p + z) c.args.blocks.unit.now) c.word_at-size.ensures) _ _ (subst (λ (q : Order). c.args.to + length (order_words q) ≤ length c.args.words.now) (ok-injective (sym c.requires.1 ∙ e)) c.requires.2) _ _ _ _ c.word_at-size.ensures c.store_words.ensures (ap answered c.in-Ok.is)

pub returns-in-Err : goal.returns-in-Err
returns-in-Err c =
    λ o e. absurd (change-kept _ _ _ _ (change-is _ _ _ c.requires.0 c.args.blocks.inside c.requires.1) _ (part_slice (c.args.p + 2) _ c.args.blocks.unit.now ∙ ap (λ z. slice (c.args.p + 2) (c.args.p + z) c.args.blocks.unit.now) c.word_at-size.ensures) _ _ c.requires.2 _ _ _ c.store_words.ensures (ap answered c.in-Err.is))

pub slice_bounds-store_words-start : goal.slice_bounds-store_words-start
slice_bounds-store_words-start c =
    let d = change-is _ _ _ c.requires.0 c.args.blocks.inside c.requires.1 in omega (arith, c.word_at-size.ensures, d.head, d.small, d.fits)

pub slice_bounds-store_words-end : goal.slice_bounds-store_words-end
slice_bounds-store_words-end c =
    let d = change-is _ _ _ c.requires.0 c.args.blocks.inside c.requires.1 in omega (arith, c.word_at-size.ensures, d.head, d.small, d.fits)
