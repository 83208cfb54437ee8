-- `control::read_chain` meets its contract: each turn is one block more. Assumes nothing.
use native.Mathlib.Omega.{arith}
use mathlib.Core.Path.{sym, ◌∙◌, ap}
use Rattle.std.proofs.lemmas.Result.{err_from_is_err_and}
use Rattle.outcome.specs.Outcome.{answered}
use Rattle.grammar.specs.Bands.{band_words}
use Rattle.control_model.specs.Fold.{untold}
use Rattle.control_model.specs.Answers.{spu_of}
use Rattle.control_model.proofs.Loops.{chaining-starts, chaining_ends, chaining_refuses, chaining-last, chaining_goes}
use Rattle.control.proofs.read_chain.Goals as goal

pub loop-pos-init : goal.loop-pos-init
unfolding spu_of untold band_words
loop-pos-init c = chaining-starts _ _ _ c.args.blocks.inside c.requires.1

pub returns-then-next-pos : goal.returns-then-next-pos
returns-then-next-pos c = chaining-last _ _ _ c.args.blocks.inside _ _ c.loop-pos.invariant c.loop-pos-test.true _ _ c.word_at-delay.ensures c.word_at-next.ensures _ (λ t e. sym (ap answered c.in_ok-told.was) ∙ c.read_commands.ensures t e) c.if-next-pos.true

pub loop-pos-preserved : goal.loop-pos-preserved
loop-pos-preserved c =
    chaining_goes _ _ _ c.args.blocks.inside _ _ c.loop-pos.invariant c.loop-pos-test.true _ _ c.word_at-delay.ensures c.word_at-next.ensures _ (λ t e. sym (ap answered c.in_ok-told.was) ∙ c.read_commands.ensures t e) (omega arith) c.requires.0 (omega arith)

pub returns-in_err-told : goal.returns-in_err-told
returns-in_err-told c = let p = err_from_is_err_and c.from_residual.result c.from_residual.ensures.1 in rw (p.1, p.2) (chaining_refuses _ _ _ c.args.blocks.inside _ _ c.loop-pos.invariant c.loop-pos-test.true _ _ c.word_at-delay.ensures c.word_at-next.ensures _ (λ t e. sym (ap answered c.in_err-told.was) ∙ c.read_commands.ensures t e))

pub returns : goal.returns
returns c = chaining_ends _ _ _ c.args.blocks.inside _ _ c.loop-pos.invariant (omega arith)
