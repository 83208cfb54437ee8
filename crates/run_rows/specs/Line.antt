-- What reading a line takes from a reader. Assumes nothing: these are definitions.
use Rattle.std.specs.Prelude.{ℕ, ◌+◌, ◌≡◌, ◌⊎◌, List, take, get_or, Option}
use Rattle.std.specs.Io.KnownBytes.{Consumes}

-- the n bytes at the front of text are those that the reader had first, where these are known; it has lost them, and a line end behind them
abbrev pub TakesLine : Option (List ℕ) → Option (List ℕ) → List ℕ → ℕ → Type 0
TakesLine old new text n = Consumes old new (take n text) ⊎ ((get_or text n 0 ≡ 10) × Consumes old new (take (n + 1) text))
