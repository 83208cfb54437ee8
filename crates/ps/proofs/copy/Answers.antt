-- `ps::copy` meets its contract: each turn is one byte more. Assumes nothing.
use native.Mathlib.Omega.{arith}
use mathlib.Core.Path.{ap}
use Prim.Native.Nat.{ℕ, ◌+◌}
use lib.ListN.{set}
use Rattle.outcome.proofs.Laws.{copying-starts, copying_goes, copying_ends}
use Rattle.ps_model.proofs.Loops.{part_length, part-byte}
use Rattle.ps.proofs.copy.Goals as goal

pub loop-i-init : goal.loop-i-init
loop-i-init c = copying-starts _ _ _

pub loop-i-preserved : goal.loop-i-preserved
loop-i-preserved c = copying_goes _ _ _ _ _ c.loop-i.invariant (omega (arith, c.loop-i-test.true, part_length c.args.file.now c.args.a c.args.m c.requires.0)) _ (ap (λ (x : ℕ). set c.loop-i.scratch (c.args.to + c.loop-i.i) x) (part-byte c.args.file.now c.args.a c.args.m c.requires.0 _ c.loop-i-test.true))

pub returns : goal.returns
returns c = copying_ends _ _ _ _ _ c.loop-i.invariant (omega (arith, c.loop-i-test.false, part_length c.args.file.now c.args.a c.args.m c.requires.0))
