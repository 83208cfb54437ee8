-- A part of the file or of the index text: conditions on its bytes say nothing of what stands around it.
-- Assumes nothing: these are definitions.
use Rattle.std.specs.Prelude.{ℕ, List}

-- where it starts, and its bytes
pub record Part : Type 0 where
  pub place : ℕ
  pub bytes : List ℕ
