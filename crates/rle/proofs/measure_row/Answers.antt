-- `rle::measure_row` meets its contract: what is left of the row, counted and kept behind what was counted and kept, is the whole row.
-- Assumes nothing.
use Prim.Native.Nat.{◌+◌}
use native.Mathlib.Omega.{arith}
use mathlib.Core.Path.{◌≡◌, sym, ap, ◌∙◌, subst}
use mathlib.Core.List.{List}
use lib.ListN.{length}
use Rattle.outcome.specs.Outcome.{Res, ok, IsOk, answered}
use Rattle.outcome.proofs.Refusals.{handed_on}
use Rattle.grammar.specs.Rows.{Code, code, overshoots}
use Rattle.rle_model.specs.Answers.{last_counts, row_answer}
use Rattle.grammar.proofs.Lengths.{paints-le}
use Rattle.rle_model.proofs.Grammar.{paints-pos}
use Rattle.rle_model.proofs.CodeLoops.{Coded, coded, coded-clipped, uncoded}
use Rattle.rle_model.proofs.Loops.{plus_row, row_more, row-short, row-end, ok-more, after_more, after-end, last_more, last-over}
use Rattle.rle_model.proofs.Kept.{keep-more, keep-short, keep-end}
use Rattle.rle.proofs.measure_row.Goals.{In_ok-code}
use Rattle.rle.proofs.measure_row.Goals as goal

-- the code that a turn read
got : (c : In_ok-code)
    → Coded c.args.reader.now.buf.now (length c.args.reader.now.buf.now) c.loop-left.reader.pos
    c.in_ok-code.code.size c.in_ok-code.code.value c.read_code.new.reader.pos
got c =
    coded _ _ _ _ _ _ _ _ (sym (ap answered c.in_ok-code.was) ∙ rw c.loop-left.invariant.0 at c.read_code.ensures.code)
    (rw c.loop-left.invariant.0 at c.read_code.ensures.place)

-- whether it is clipped
flag : (c : In_ok-code)
    → c.in_ok-code.code.clipped
    ≡ overshoots c.loop-left.left (code c.loop-left.reader.pos c.in_ok-code.code.size c.in_ok-code.code.value)
flag c = coded-clipped _ _ _ _ _ _ _ (sym (ap answered c.in_ok-code.was) ∙ rw c.loop-left.invariant.0 at c.read_code.ensures.code)

pub overflow_add-at : goal.overflow_add-at
overflow_add-at c = omega (arith, (got (goal.at.overflow_add-at c).In_ok-code).is.inside, c.loop-left.invariant.1.behind)

pub overflow_add-codes : goal.overflow_add-codes
overflow_add-codes c = omega (arith, (got (goal.at.overflow_add-codes c).In_ok-code).is.inside, (got (goal.at.overflow_add-codes c).In_ok-code).is.one, c.loop-left.invariant.1.behind)

pub overflow_sub-left : goal.overflow_sub-left
overflow_sub-left c =
    omega (arith, c.painted-n.ensures 0, paints-le c.loop-left.left (code 0 c.in_ok-code.code.size c.in_ok-code.code.value))

pub loop-left-smaller : goal.loop-left-smaller
loop-left-smaller c =
    let i = c.loop-left in
    omega (arith, c.painted-n.ensures i.reader.pos, paints-pos _ _ i.left _ (got (goal.at.loop-left-smaller c).In_ok-code).is (omega arith))

pub loop-left-preserved : goal.loop-left-preserved
loop-left-preserved c =
    let i = c.loop-left in
    let l = c.loop-left-test.true in
    let g = got (goal.at.loop-left-preserved c).In_ok-code in
    let m = c.painted-n.ensures i.reader.pos in
    let k = c.keep in
    let z : c.args.from + (i.codes + 1) ≡ c.args.from + i.codes + 1 = omega arith in (
      c.read_code.ensures.field ∙ i.invariant.0,
      record {
        behind = omega (arith, g.goes, g.is.one, i.invariant.1.behind);
        over = last-over _ _ _ _ _ _ (flag (goal.at.loop-left-preserved c).In_ok-code) m;
        long = k.auto.kept ∙ i.invariant.1.long;
        goes = row_more _ _ _ _ l _ _ _ _ _ _ g m (last_more _ _ _ _ _ i.invariant.1.over l (flag (goal.at.loop-left-preserved c).In_ok-code)) ∙ i.invariant.1.goes;
        ends = λ h.
            let e = i.invariant.1.ends h in
            (ok-more _ _ _ _ l _ _ _ _ g m e.0, after_more _ _ _ _ l _ _ _ _ g m e.0 ∙ e.1);
        keeps = rw z (keep-more _ _ _ _ l _ _ _ _ g m _ _ _ k.ensures ∙ i.invariant.1.keeps);
      },
    )

pub returns-in_err-code-clause-row : goal.returns-in_err-code-clause-row
returns-in_err-code-clause-row c =
    let i = c.loop-left in
    let l = c.loop-left-test.true in
    let r = uncoded _ _ _ _ _ (sym (ap answered c.in_err-code.was) ∙ rw c.loop-left.invariant.0 at c.read_code.ensures.code) in
    let n = row-short _ _ _ _ l _ r in
    record {
      answer =
          handed_on c.from_residual.result _ c.from_residual.ensures ∙ sym (ap (λ (o : Res (List Code)). plus_row (last_counts i.codes i.clipped) (row_answer i.left o)) n)
          ∙ i.invariant.1.goes;
      next = λ h. absurd (subst IsOk n (i.invariant.1.ends h).0);
      keeps = keep-short _ _ _ _ _ _ _ l r ∙ i.invariant.1.keeps;
    }

pub returns-clause-row : goal.returns-clause-row
returns-clause-row c =
    let i = c.loop-left in
    record {
      answer =
          ap ok c.row_counts.ensures
          ∙ sym (row-end _ _ _ _ _ (omega arith)) ∙ i.invariant.1.goes;
      next = λ h. after-end _ _ _ _ (omega arith) ∙ (i.invariant.1.ends h).1;
      keeps = keep-end _ _ _ _ _ _ (omega arith) ∙ i.invariant.1.keeps;
    }
