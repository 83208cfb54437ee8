-- `chg_colcon::bare_bands` meets its contract: each turn reads a band more, and what is read so far stands in front. Assumes nothing.
use native.Mathlib.Omega.{arith}
use Prim.Native.Nat.{◌+◌}
use mathlib.Core.Path.{◌≡◌, sym, ◌∙◌}
use mathlib.Core.List.{[]}
use lib.ListN.{set}
use Rattle.bands_model.proofs.Loops.{bare-room, bare_step}
use Rattle.chg_colcon.proofs.bare_bands.Goals as goal

pub put3-requires : goal.put3-requires
put3-requires c =
    omega (arith, bare-room c.args.p.now 0 [] c.loop-first.i _ _ _ (sym c.read_head.ensures ∙ c.in-Band-default-default-eq0.is) c.loop-first.invariant.there, c.loop-first.invariant.room)

pub overflow_add-at : goal.overflow_add-at
overflow_add-at c =
    omega (arith, bare-room c.args.p.now 0 [] c.loop-first.i _ _ _ (sym c.read_head.ensures ∙ c.in-Band-default-default-eq0.is) c.loop-first.invariant.there, c.loop-first.invariant.room)

pub loop-first-smaller : goal.loop-first-smaller
loop-first-smaller c =
    omega (arith, bare-room c.args.p.now 0 [] c.loop-first.i _ _ _ (sym c.read_head.ensures ∙ c.in-Band-default-default-eq0.is) c.loop-first.invariant.there)

pub loop-first-preserved : goal.loop-first-preserved
loop-first-preserved c =
    let b = c.in-Band-default-default-eq0 in
    let z : b.field-2 ≡ 0 = b.field-2-test in
    let w : c.put3.new.out ≡ set (set (set c.loop-first.out c.loop-first.at b.first) (c.loop-first.at + 1) b.last) (c.loop-first.at + 2) b.field-2 = rw z c.put3.ensures in
    bare_step _ _ _ _ _ _ _ _ _ _ (sym c.read_head.ensures ∙ b.is) z w c.loop-first.invariant
