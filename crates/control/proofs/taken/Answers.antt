-- `control::taken` meets its contract: by the table of commands. Assumes nothing.
use native.Mathlib.Omega.{arith}
use Rattle.control_model.proofs.Told.{taken_none, taken_two, taken-six, taken_four}
use Rattle.control.proofs.taken.Goals as goal

pub returns-in-0-to-2 : goal.returns-in-0-to-2
returns-in-0-to-2 c = let h = c.in-0-to-2 in λ u p. taken_none u p _ (omega (arith, h))

pub returns-in-3 : goal.returns-in-3
returns-in-3 c = let h = c.in-3 in λ u p. taken_two u p _ (omega (arith, h)) (omega (arith, h))

pub returns-in-5 : goal.returns-in-5
returns-in-5 c = λ u p. taken-six u p _ c.in-5.is

pub returns-in_default : goal.returns-in_default
returns-in_default c = λ u p. taken_four u p _ (omega (arith, c.in_default, c.requires))
