-- `control::read_change` meets its contract: its size, then what the size counts. Assumes nothing.
use native.Mathlib.Omega.{arith}
use Prim.Native.Nat.{◌+◌}
use mathlib.Core.Path.{refl, sym, ◌∙◌, ap}
use Rattle.std.proofs.lemmas.Result.{err_from_is_err_and}
use Rattle.outcome.specs.Outcome.{answered}
use Rattle.outcome.proofs.Laws.{part_slice}
use Rattle.control_model.proofs.Loops.{change-cut, change-small, change_past, change-none, change-bands, change-told}
use Rattle.control.proofs.read_change.Goals as goal

pub returns-then-blocks-p-lt2 : goal.returns-then-blocks-p-lt2
returns-then-blocks-p-lt2 c = λ t d e. change-cut c.args.blocks.unit.now c.args.blocks.end c.args.p _ refl d t (omega arith)

pub returns-then-size-lt2 : goal.returns-then-size-lt2
returns-then-size-lt2 c =
    λ t d e. change-small c.args.blocks.unit.now c.args.blocks.end c.args.p _ c.word_at-size.ensures d t (omega arith) c.if-size-lt2.true

pub returns-then-blocks-p : goal.returns-then-blocks-p
returns-then-blocks-p c =
    λ t d e. change_past c.args.blocks.unit.now c.args.blocks.end c.args.p _ c.word_at-size.ensures d t (omega arith) c.if-size-lt2.false (omega arith)

pub with_bands-requires : goal.with_bands-requires
with_bands-requires c =
    omega (arith, (change-bands c.args.blocks.unit.now c.args.blocks.end c.args.p _ c.word_at-size.ensures (omega arith) c.if-size-lt2.false (omega arith) _ _ c.args.blocks.inside (part_slice (c.args.p + 2) _ c.args.blocks.unit.now) (sym (ap answered c.in_ok-words.was) ∙ c.count_words.ensures)).few)

pub returns : goal.returns
returns c =
    λ t d e.
    let b = change-bands c.args.blocks.unit.now c.args.blocks.end c.args.p _ c.word_at-size.ensures (omega arith) c.if-size-lt2.false (omega arith) _ _ c.args.blocks.inside (part_slice (c.args.p + 2) _ c.args.blocks.unit.now) (sym (ap answered c.in_ok-words.was) ∙ c.count_words.ensures) in
    change-told _ _ _ _ _ d t _ b (c.with_bands.ensures t d c.word_at-size.result b.bs b.count e)

pub returns-in_err-words : goal.returns-in_err-words
returns-in_err-words c =
    λ t d e. let p = err_from_is_err_and c.from_residual.result c.from_residual.ensures.1 in rw (p.1, p.2) (change-none c.args.blocks.unit.now c.args.blocks.end c.args.p _ c.word_at-size.ensures (omega arith) c.if-size-lt2.false (omega arith) _ _ d t (part_slice (c.args.p + 2) _ c.args.blocks.unit.now) (sym (ap answered c.in_err-words.was) ∙ c.count_words.ensures))
