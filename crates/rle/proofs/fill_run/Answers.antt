-- `rle::fill_run` meets its contract: what is left of the run, stored from its place on, is the whole run. Assumes nothing.
use Prim.Native.Nat.{ℕ, suc, ◌+◌, ◌-◌, ◌≤◌, ◌<◌}
use mathlib.Core.Path.{◌≡◌, ◌∙◌}
use mathlib.Core.List.{List}
use native.Mathlib.Omega.{arith}
use lib.ListN.{replicate, set, length-set}
use lib.Seq.{sets}
use Rattle.rle.proofs.fill_run.Goals as goal

run_more : (px : List ℕ) (o i n v : ℕ) → i < n
    → sets (set px (o + i) v) (o + (i + 1)) (replicate (n - (i + 1)) v) ≡ sets px (o + i) (replicate (n - i) v)
run_more px o i n v h =
    let z : n - i ≡ suc (n - (i + 1)) = omega arith in
    let y : o + (i + 1) ≡ suc (o + i) = omega arith in
    rw (z, y)

run_end : (px : List ℕ) (o i n v : ℕ) → n ≤ i → px ≡ sets px (o + i) (replicate (n - i) v)
run_end px o i n v h = let z : n - i ≡ 0 = omega arith in rw z

pub loop-i-preserved : goal.loop-i-preserved
loop-i-preserved c =
    let i = c.loop-i in
    record { below = omega arith; long = simp length-set i.invariant.long; goes = run_more _ _ i.i c.args.count _ (omega arith) ∙ i.invariant.goes }
