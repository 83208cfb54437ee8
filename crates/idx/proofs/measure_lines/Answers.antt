-- `idx::measure_lines` meets its contract: each turn is one line more. Assumes nothing.
use borrow.Author.Rules.{rules}
use native.Mathlib.Omega.{arith}
use mathlib.Core.Path.{refl, sym, ap, ◌∙◌}
use Rattle.std.specs.Prelude.{Result, Option}
use Rattle.outcome.specs.declared.Refusal.{Refusal}
use Rattle.idx_lines_model.specs.declared.Directive.{Directive}
use Rattle.idx_lines_model.specs.Answers.{line_says}
use Rattle.idx_model.specs.Answers.{see_line}
use Rattle.idx_model.proofs.Loops.{line-in, measuring_refused, measuring_done, measuring-next}
use Rattle.idx.proofs.measure_lines.Goals as goal

pub returns-in_err-line : goal.returns-in_err-line
returns-in_err-line c =
    let told = ap (λ (x : Result (Option Directive) Refusal). see_line c.args.cue c.args.room c.loop-line.seen (line_says x)) (sym c.in_err-line.was) in
    let w = measuring_refused c.args.text.now c.loop-line.i c.until.result c.loop-line.invariant.inside c.until.ensures c.trim-l.result.now c.trim-l.ensures c.args.room c.args.cue c.args.palette.now c.loop-line.seen c.loop-line.palette c.loop-line.invariant c.read_line.result _ c.read_line.ensures _ told _ refl in
    record { says = rw (← w.says) (search rules); palette = w.palette }

pub returns-in_err-seen : goal.returns-in_err-seen
returns-in_err-seen c =
    let told = ap (λ (x : Result (Option Directive) Refusal). see_line c.args.cue c.args.room c.loop-line.seen (line_says x)) (sym c.in_ok-line.was) in
    let w = measuring_refused c.args.text.now c.loop-line.i c.until.result c.loop-line.invariant.inside c.until.ensures c.trim-l.result.now c.trim-l.ensures c.args.room c.args.cue c.args.palette.now c.loop-line.seen c.loop-line.palette c.loop-line.invariant c.read_line.result _ c.read_line.ensures _ (c.in_err-seen.ensures ∙ told) _ refl in
    record { says = rw (← w.says) (search rules); palette = w.palette }

pub returns-then-e-text : goal.returns-then-e-text
returns-then-e-text c =
    let told = ap (λ (x : Result (Option Directive) Refusal). see_line c.args.cue c.args.room c.loop-line.seen (line_says x)) (sym c.in_ok-line.was) in
    measuring_done c.args.text.now c.loop-line.i c.until.result c.loop-line.invariant.inside c.until.ensures c.trim-l.result.now c.trim-l.ensures c.args.room c.args.cue c.args.palette.now c.loop-line.seen c.loop-line.palette c.loop-line.invariant c.read_line.result _ c.read_line.ensures _ (c.in_ok-seen.ensures ∙ told) _ refl c.if-e-text.true

pub loop-line-preserved : goal.loop-line-preserved
loop-line-preserved c =
    let told = ap (λ (x : Result (Option Directive) Refusal). see_line c.args.cue c.args.room c.loop-line.seen (line_says x)) (sym c.in_ok-line.was) in
    measuring-next c.args.text.now c.loop-line.i c.until.result c.loop-line.invariant.inside c.until.ensures c.trim-l.result.now c.trim-l.ensures c.args.room c.args.cue c.args.palette.now c.loop-line.seen c.loop-line.palette c.loop-line.invariant c.read_line.result _ c.read_line.ensures _ (c.in_ok-seen.ensures ∙ told) _ refl c.if-e-text.false

pub overflow_add-e : goal.overflow_add-e
overflow_add-e c = omega (arith, line-in c.args.text.now c.loop-line.i c.until.result c.loop-line.invariant.inside c.until.ensures)

pub slice_bounds-trim-end : goal.slice_bounds-trim-end
slice_bounds-trim-end c = line-in c.args.text.now c.loop-line.i c.until.result c.loop-line.invariant.inside c.until.ensures
