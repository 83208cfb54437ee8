-- `rle::measure_kept` meets its contract: the rows left, counted and kept behind what was counted and kept, are all rows. Assumes nothing.
use Prim.Native.Nat.{◌+◌, ◌-◌, ◌<◌}
use native.Mathlib.Omega.{arith}
use mathlib.Core.Path.{◌≡◌, sym, ap, ◌∙◌}
use mathlib.Core.List.{List}
use lib.ListN.{length}
use Rattle.outcome.specs.Outcome.{Res, answered}
use Rattle.outcome.proofs.Refusals.{handed_on}
use Rattle.grammar.specs.Rows.{Code}
use Rattle.rle_model.specs.Answers.{field_answer, plus_field}
use Rattle.rle_model.specs.declared.Counts.{Counts}
use Rattle.rle_model.proofs.Loops.{Rowed, rowed, row-aligned, unrowed, field-more, field-short, field_end, blank-counts, at-most_le, at-most-align}
use Rattle.rle_model.proofs.Kept.{keep-rows, keep-rows-short, keep-rows-end, blank-keeps}
use Rattle.rle.proofs.measure_kept.Goals.{In_ok-row}
use Rattle.rle.proofs.measure_kept.Goals as goal

pub returns-then-width-eq0 : goal.returns-then-width-eq0
returns-then-width-eq0 c =
    record { answer = blank-counts _ _ _ _ c.if-width-eq0.true; keeps = blank-keeps _ _ _ _ _ c.if-width-eq0.true }

-- the row that a turn measured
got : (c : In_ok-row) → Rowed c.args.field.now (length c.args.field.now)
    c.args.width c.loop.reader.pos c.in_ok-row.row c.measure_row.new.reader.pos
got c =
    let m = rw (c.loop.invariant.0 ∙ c.new-reader.ensures.0) at c.measure_row.ensures.row in
    rowed _ _ _ _ _ _ (sym (ap answered c.in_ok-row.was) ∙ m.answer) m.next

pub plus_counts-counts-requires : goal.plus_counts-counts-requires
plus_counts-counts-requires c =
    let i = c.loop.invariant.1 in
    at-most_le _ _ _ (omega (arith, (got (goal.at.plus_counts-counts-requires c).In_ok-row).inside i.wide)) ((got (goal.at.plus_counts-counts-requires c).In_ok-row).few _ i.few)

pub loop-preserved : goal.loop-preserved
loop-preserved c =
    let i = c.loop in
    let h : 0 < c.args.rows - i.counter = omega (arith, c.loop-test.true) in
    let z : c.args.rows - (i.counter + 1) ≡ c.args.rows - i.counter - 1 = omega arith in
    let g = got (goal.at.loop-preserved c).In_ok-row in
    let b = c.plus_counts-counts.ensures in
    let e = c.loop.invariant.0 ∙ c.new-reader.ensures.0 in
    let r = rw e at c.measure_row.ensures.row in
    let a = row-aligned _ _ _ _ _ c.well_formed.0.1 g i.invariant.1.wide _ c.align.ensures.1 in (
      c.align.ensures.0 ∙ c.measure_row.ensures.field ∙ c.loop.invariant.0,
      rw z (record {
        wide = i.invariant.1.wide;
        few = rw (b, a, g.goes) (at-most-align _ _ (g.few _ i.invariant.1.few));
        long = c.measure_row.auto.kept ∙ i.invariant.1.long;
        goes = field-more _ _ _ _ _ h _ _ _ _ _ g a b ∙ i.invariant.1.goes;
        keeps = keep-rows _ _ _ _ _ h _ _ g _ _ _ _ _ r.keeps (ap (λ (a : Counts). a.codes) b) a ∙ i.invariant.1.keeps;
      }),
    )

pub returns-in_err-row : goal.returns-in_err-row
returns-in_err-row c =
    let i = c.loop in
    let l : 0 < c.args.rows - i.counter = omega (arith, c.loop-test.true) in
    let m = rw (c.loop.invariant.0 ∙ c.new-reader.ensures.0) at c.measure_row.ensures.row in
    let r = unrowed _ _ _ _ _ (sym (ap answered c.in_err-row.was) ∙ m.answer) in
    let n = field-short _ _ _ _ _ l _ r in
    record {
      answer = handed_on c.from_residual.result _ c.from_residual.ensures ∙ sym (ap (λ (o : Res (List (List Code))). plus_field i.counts (field_answer c.args.width o)) n) ∙ i.invariant.1.goes;
      keeps = keep-rows-short _ _ _ _ _ _ _ _ _ l r m.keeps ∙ i.invariant.1.keeps;
    }

pub returns : goal.returns
returns c =
    let i = c.loop in
    record {
      answer = sym (field_end _ _ _ _ _ _ (omega arith)) ∙ i.invariant.1.goes;
      keeps = keep-rows-end _ _ _ _ _ _ _ (omega arith) ∙ i.invariant.1.keeps;
    }
