-- `rle::fill_kept` meets its contract: the codes left, painted from their place on, are all codes. Assumes nothing.
use Prim.Native.Nat.{◌+◌, ◌/◌, ◌≤◌}
use native.Mathlib.Omega.{arith}
use mathlib.Core.Path.{refl, ◌∙◌}
use lib.ListN.{length, get_or}
use Rattle.rle_model.proofs.Kept.{fits-now, fits_more, paints-more, paints-end}
use Rattle.rle.proofs.fill_kept.Goals.{In-loop-code}
use Rattle.rle.proofs.fill_kept.Goals as goal

-- a turn's run ends within its row and within the map
inside : (c : In-loop-code)
    → (get_or c.args.kept.now c.loop-code.code-index 0 / 4 ≤ c.loop-code.left)
    × (c.loop-code.to + get_or c.args.kept.now c.loop-code.code-index 0 / 4 ≤ length c.args.pixels.now)
inside c = fits-now _ _ _ _ _ _ c.loop-code-test.true c.loop-code.invariant.fits

pub fill_run-requires : goal.fill_run-requires
fill_run-requires c = omega (arith, inside (goal.at.fill_run-requires c).In-loop-code, c.loop-code.invariant.long)

pub overflow_sub-rest : goal.overflow_sub-rest
overflow_sub-rest c = (inside (goal.at.overflow_sub-rest c).In-loop-code).0

pub overflow_add-to : goal.overflow_add-to
overflow_add-to c = omega (arith, inside (goal.at.overflow_add-to c).In-loop-code)

pub place_after-to-requires : goal.place_after-to-requires
place_after-to-requires c =
    omega (arith, inside (goal.at.place_after-to-requires c).In-loop-code, c.requires.0, c.well_formed)

pub loop-code-preserved : goal.loop-code-preserved
loop-code-preserved c =
    let i = c.loop-code in
    let h = c.loop-code-test.true in
    record {
      long = c.fill_run.auto.pixels ∙ i.invariant.long;
      fits = fits_more _ _ _ _ _ _ h i.invariant.fits _ _ _ refl c.left_after-left.ensures c.place_after-to.ensures;
      goes = paints-more (length c.args.pixels.now) _ _ _ _ _ h _ _ _ _ _ refl c.left_after-left.ensures c.place_after-to.ensures c.fill_run.ensures ∙ i.invariant.goes;
    }

pub returns : goal.returns
returns c = paints-end _ _ _ _ _ _ c.loop-code-test.false ∙ c.loop-code.invariant.goes
