-- `chg_colcon::inner_entries` meets its contract: each turn reads an entry more, and what is read so far stands in front. Assumes nothing.
use native.Mathlib.Omega.{arith}
use mathlib.Core.Path.{sym, ◌∙◌}
use mathlib.Core.List.{[]}
use Rattle.bands_model.proofs.Loops.{inner_room, inner_step}
use Rattle.chg_colcon.proofs.inner_entries.Goals as goal

pub put3-requires : goal.put3-requires
put3-requires c =
    omega (arith, inner_room c.args.p.now 0 [] c.loop-left.i _ _ _ _ (sym c.read_entry.ensures ∙ c.in-Some.is) c.loop-left.invariant.1.there, c.loop-left.invariant.1.room)

pub overflow_add-at : goal.overflow_add-at
overflow_add-at c =
    omega (arith, inner_room c.args.p.now 0 [] c.loop-left.i _ _ _ _ (sym c.read_entry.ensures ∙ c.in-Some.is) c.loop-left.invariant.1.there, c.loop-left.invariant.1.room)

pub loop-left-preserved : goal.loop-left-preserved
loop-left-preserved c =
    (let h = c.loop-left-test.true in omega arith, inner_step _ _ _ _ _ _ _ _ _ _ _ _ _ _ (sym c.read_entry.ensures ∙ c.in-Some.is) c.loop-left-test.true c.put3.ensures c.loop-left.invariant.1)
