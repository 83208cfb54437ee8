-- `look::look_entries` meets its contract: the entries left, after what was found, are all entries. Assumes nothing.
use native.Mathlib.Omega.{arith}
use Prim.Native.Nat.{◌+◌, ◌-◌, ◌*◌}
use mathlib.Core.Path.{◌≡◌, ◌∙◌}
use Rattle.bands_model.proofs.Look.{entries-more, entries-end}
use Rattle.look.proofs.look_entries.Goals as goal

pub loop-i-preserved : goal.loop-i-preserved
loop-i-preserved c =
    let i = c.loop-i.i in
    let h = c.loop-i-test.true in
    let z : c.args.n - (i + 1) ≡ c.args.n - i - 1 = omega arith in
    let y : 3 * (i + 1) ≡ 3 * i + 3 = omega arith in
    rw (z, y, c.pick_entry-look.ensures) (entries-more c.args.x (c.args.n - i) (3 * i) _ c.args.words.now (omega (arith, h)) (omega (arith, h, c.requires)) ∙ c.loop-i.invariant)

pub returns : goal.returns
returns c =
    let h = c.loop-i-test.false in
    entries-end c.args.x (c.args.n - c.loop-i.i) _ _ (omega (arith, h)) ∙ c.loop-i.invariant
