-- `rle::fill_row` meets its contract: what is left of the row, painted from its place on, is the whole row. Assumes nothing.
use mathlib.Core.Path.{refl, sym, ap, ◌∙◌, subst}
use Rattle.outcome.specs.Outcome.{IsOk, answered}
use native.Mathlib.Omega.{arith}
use lib.ListN.{length}
use Rattle.grammar.specs.Rows.{code}
use Rattle.grammar.proofs.Lengths.{paints-le}
use Rattle.rle_model.proofs.Grammar.{paints-pos}
use Rattle.rle_model.proofs.CodeLoops.{Coded, coded, uncoded}
use Rattle.rle_model.proofs.Loops.{row-short, ok-more, after_more, paint_more, paint_end, after-end}
use Rattle.rle.proofs.fill_row.Goals.{In-Ok}
use Rattle.rle.proofs.fill_row.Goals as goal

pub returns-in_default : goal.returns-in_default
returns-in_default c =
    let n = row-short _ _ _ _ c.loop-left-test.true _ (uncoded _ _ _ _ _ (sym (ap answered c.in_default.is) ∙ rw c.loop-left.invariant.0 at c.read_code.ensures.code)) in
    absurd (subst IsOk n c.loop-left.invariant.1.there)

pub fill_run-requires : goal.fill_run-requires
fill_run-requires c = omega (arith, paints-le c.loop-left.left (code 0 c.in-Ok.code.size c.in-Ok.code.value), c.painted-n.ensures 0)

got : (c : In-Ok) → Coded c.args.reader.now.buf.now (length c.args.reader.now.buf.now) c.loop-left.reader.pos
    c.in-Ok.code.size c.in-Ok.code.value c.read_code.new.reader.pos
got c =
    coded _ _ _ _ _ _ _ _ (sym (ap answered c.in-Ok.is) ∙ rw c.loop-left.invariant.0 at c.read_code.ensures.code)
    (rw c.loop-left.invariant.0 at c.read_code.ensures.place)

pub overflow_sub-left : goal.overflow_sub-left
overflow_sub-left c = omega (arith, paints-le c.loop-left.left (code 0 c.in-Ok.code.size c.in-Ok.code.value), c.painted-n.ensures 0)

pub overflow_add-to : goal.overflow_add-to
overflow_add-to c = omega (arith, paints-le c.loop-left.left (code 0 c.in-Ok.code.size c.in-Ok.code.value), c.painted-n.ensures 0)

pub loop-left-smaller : goal.loop-left-smaller
loop-left-smaller c = omega (arith, paints-pos _ _ c.loop-left.left _ (got (goal.at.loop-left-smaller c).In-Ok).is (omega arith), c.painted-n.ensures c.loop-left.reader.pos)

pub loop-left-preserved : goal.loop-left-preserved
loop-left-preserved c =
    let i = c.loop-left in
    let g = got (goal.at.loop-left-preserved c).In-Ok in
    let e = c.painted-n.ensures i.reader.pos in (
      c.read_code.ensures.field ∙ i.invariant.0,
      record {
        fits = omega (arith, paints-le i.left (code 0 c.in-Ok.code.size c.in-Ok.code.value), c.painted-n.ensures 0);
        long = c.fill_run.auto.pixels ∙ i.invariant.1.long;
        there = ok-more _ _ _ _ (omega arith) _ _ _ _ g e i.invariant.1.there;
        ends = after_more _ _ _ _ (omega arith) _ _ _ _ g e i.invariant.1.there ∙ i.invariant.1.ends;
        goes = paint_more _ _ _ _ (omega arith) _ _ _ _ g e i.invariant.1.there _ _ _ _ refl c.fill_run.ensures ∙ i.invariant.1.goes;
      },
    )

pub returns-clause-row : goal.returns-clause-row
returns-clause-row c =
    let i = c.loop-left in
    record { next = after-end _ _ _ _ (omega arith) ∙ i.invariant.1.ends; pixels = paint_end _ _ _ _ _ _ (omega arith) ∙ i.invariant.1.goes }
