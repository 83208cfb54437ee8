-- `ps::part` meets its contract: clipped where the slice ends. Assumes nothing.
use native.Mathlib.Omega.{arith}
use Rattle.ps_model.proofs.Unit.{part_clipped}
use Rattle.ps.proofs.part.Goals as goal

pub returns : goal.returns
returns c = part_clipped c.args.s.now c.args.a c.args.n _ _ c.min-start.ensures (omega (arith, c.min.ensures))
