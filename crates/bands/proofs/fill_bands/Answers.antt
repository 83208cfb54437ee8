-- `bands::fill_bands` meets its contract: the words of all blocks, from the first word on. Assumes nothing.
use native.Mathlib.Omega.{arith}
use mathlib.Core.Path.{◌≡◌, sym, ◌∙◌, ap}
use Rattle.std.specs.Prelude.{Some as some}
use lib.ListN.{length}
use lib.Seq.{sets}
use Rattle.control_model.specs.Chain.{blocks_at}
use Rattle.control_model.proofs.Fill.{unit-read}
use Rattle.control_model.specs.Fill.{chain_words, unit_words}
use Rattle.bands.proofs.fill_bands.Goals as goal

pub word_at-end-requires : goal.word_at-end-requires
word_at-end-requires c = omega (arith, (unit-read _ c.requires.0).is.head)

pub word_at-from-requires : goal.word_at-from-requires
word_at-from-requires c = omega (arith, (unit-read _ c.requires.0).is.head)

pub invariant_of-fill_chain : goal.invariant_of-fill_chain
invariant_of-fill_chain c = omega (arith, (unit-read _ c.requires.0).is.inside, c.word_at-end.ensures)

pub fill_chain-requires : goal.fill_chain-requires
fill_chain-requires c =
    let n = unit-read _ c.requires.0 in
    let l : length (unit_words c.args.unit.now) ≡ length (chain_words n.bs) = ap length n.words in
    (omega arith, omega arith, (n.bs, ((λ j. blocks_at c.args.unit.now (c.word_at-end.ensures j) (some (c.word_at-from.ensures j))) ∙ n.found), omega (arith, c.requires.1, l)))

pub returns : goal.returns
returns c =
    let n = unit-read _ c.requires.0 in
    c.fill_chain.ensures n.bs ((λ j. blocks_at c.args.unit.now (c.word_at-end.ensures j) (some (c.word_at-from.ensures j))) ∙ n.found) ∙ ap (sets c.args.words.now 0) (sym n.words)
