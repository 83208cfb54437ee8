-- `idx_numbers::eight_at` meets its contract: eight reads. Assumes nothing.
use native.Mathlib.Omega.{arith}
use Rattle.idx_numbers_model.proofs.Steps.{eight_is}
use Rattle.idx_numbers.proofs.eight_at.Goals as goal

pub returns : goal.returns
returns c =
    eight_is c.args.s.now c.args.i c.requires c.from_le_bytes.result (omega (arith, c.from_le_bytes.ensures))
