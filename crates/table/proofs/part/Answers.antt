-- `table::part` meets its contract: each turn passes one mark. Assumes nothing.
use mathlib.Core.Path.{◌∙◌}
use Rattle.table.proofs.Laws.{before-inside, part-turn, part_end, part-long}
use native.Mathlib.Omega.{arith}
use Rattle.table.proofs.part.Goals as goal
use Prim.Native.Nat.{◌-◌, ◌+◌}
use mathlib.Core.Path.{◌≡◌}

pub overflow_add-from : goal.overflow_add-from
overflow_add-from c = omega (arith, before-inside _ c.args.s.now _ _ c.loop.invariant.0 c.until-n.ensures, c.well_formed.0)

pub overflow_add-from-in-loop : goal.overflow_add-from-in-loop
overflow_add-from-in-loop c = omega (arith, before-inside _ c.args.s.now _ _ c.loop.invariant.0 c.until-n.ensures, c.well_formed.0)

pub loop-preserved : goal.loop-preserved
loop-preserved c =
    let q : c.args.k - (c.loop.counter + 1) ≡ c.args.k - c.loop.counter - 1 = omega arith in
    (omega (arith, c.lesser-from.ensures), rw q (part-turn _ c.args.s.now _ _ c.loop.invariant.0 c.until-n.ensures (c.args.k - c.loop.counter) _ (omega arith) c.lesser-from.ensures ∙ c.loop.invariant.1))

pub slice_bounds-result-end : goal.slice_bounds-result-end
slice_bounds-result-end c = part-long _ c.args.s.now _ _ c.loop.invariant.0 c.until-n-2.ensures

pub returns : goal.returns
returns c = part_end _ c.args.s.now _ _ c.loop.invariant.0 c.until-n-2.ensures (c.args.k - c.loop.counter) (omega arith) ∙ c.loop.invariant.1
