-- What the answer of reading a code means: the code at the place, with whether it is clipped, or the number of the
-- refusal; and where the reader stands then. Assumes nothing: these are definitions.
use Rattle.std.specs.Prelude.{ℕ, ◌+◌, ◌-◌, ◌*◌, Bool, List, length}
use Rattle.outcome.specs.Outcome.{Res, ok, refuse}
use Rattle.grammar.specs.Rows.{Code, overshoots}
use Rattle.rle_model.specs.declared.CodeRead.{CodeRead}

-- a code of k nibbles that make v, and whether it is clipped
abbrev pub code_found : ℕ → ℕ → Bool → CodeRead
code_found k v b = record { size = k; value = v; clipped = b }

-- with `left` pixels of its row to go (FORMAT 5.11)
abbrev pub code_answer : ℕ → Res Code → Res CodeRead
code_answer left (ok c) = ok (code_found c.size c.value (overshoots left c))
code_answer left (refuse n) = refuse n

-- where a reader of the field s that was at p stands after a code: behind it, or where the field ran out
abbrev pub code_end : List ℕ → ℕ → Res Code → ℕ
code_end s p (ok c) = c.place + c.size
code_end s p (refuse n) = p + (2 * length s - p)
