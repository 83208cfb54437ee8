-- `bands::fill_commands` meets its contract: each turn stores one command's words. Assumes nothing.
use native.Mathlib.Omega.{arith}
use Rattle.control_model.proofs.Fill.{filling_has, filling_falls, filling_goes, filling_ends}
use Rattle.bands.proofs.fill_commands.Goals as goal

pub returns-then-blocks-at : goal.returns-then-blocks-at
returns-then-blocks-at c = filling_ends _ _ _ _ _ c.args.blocks.inside _ _ _ c.loop-at.invariant (λ l. c.if-blocks-at.true)

pub fill_command-next-requires : goal.fill_command-next-requires
fill_command-next-requires c =
    (c.loop-at-test.true, filling_has _ _ _ _ _ c.args.blocks.inside _ _ _ c.loop-at.invariant c.loop-at-test.true c.if-blocks-at.false c.requires.0 c.requires.1 c.requires.2)

pub loop-at-smaller : goal.loop-at-smaller
loop-at-smaller c =
    omega (arith, (filling_falls _ _ _ _ _ c.args.blocks.inside _ _ _ c.loop-at.invariant c.loop-at-test.true c.if-blocks-at.false _ _ c.fill_command-next.ensures).0, (filling_falls _ _ _ _ _ c.args.blocks.inside _ _ _ c.loop-at.invariant c.loop-at-test.true c.if-blocks-at.false _ _ c.fill_command-next.ensures).1)

pub loop-at-preserved : goal.loop-at-preserved
loop-at-preserved c = filling_goes _ _ _ _ _ c.args.blocks.inside _ _ _ c.loop-at.invariant c.loop-at-test.true c.if-blocks-at.false _ _ c.fill_command-next.ensures

pub returns : goal.returns
returns c = filling_ends _ _ _ _ _ c.args.blocks.inside _ _ _ c.loop-at.invariant (λ l. absurd (omega arith))
