-- `bands::fill_chain` meets its contract: each turn stores one block's words. Assumes nothing.
use native.Mathlib.Omega.{arith}
use Rattle.control_model.proofs.Fill.{chain_ends, chain_has, chain-last, chain_goes}
use Rattle.bands.proofs.fill_chain.Goals as goal

pub fill_commands-to-requires : goal.fill_commands-to-requires
fill_commands-to-requires c =
    chain_has _ _ _ _ c.args.blocks.inside _ _ _ c.loop-pos.invariant c.loop-pos-test.true c.requires.2.0 c.requires.2.1 c.requires.2.2

pub returns-then-next-pos : goal.returns-then-next-pos
returns-then-next-pos c = chain-last _ _ _ _ c.args.blocks.inside _ _ _ c.loop-pos.invariant c.loop-pos-test.true _ _ c.fill_commands-to.ensures _ c.word_at-next.ensures c.if-next-pos.true

pub loop-pos-preserved : goal.loop-pos-preserved
loop-pos-preserved c = chain_goes _ _ _ _ c.args.blocks.inside _ _ _ c.loop-pos.invariant c.loop-pos-test.true _ _ c.fill_commands-to.ensures _ c.word_at-next.ensures (omega arith) (omega arith)

pub returns : goal.returns
returns c = chain_ends _ _ _ _ c.args.blocks.inside _ _ _ c.loop-pos.invariant (omega arith)
