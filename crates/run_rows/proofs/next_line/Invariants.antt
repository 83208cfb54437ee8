-- `run_rows::next_line` meets its contract: no byte before place n is a line end, and all of them are the reader's. Assumes nothing.
use Rattle.std.proofs.Common.{◌<◌, ◌≢◌, ℕ, get_or, take}
use Rattle.std.specs.Io.KnownBytes.{Consumes}
use Rattle.run_rows.proofs.next_line.Given as goal

abbrev pub invariant-loop-n : goal.invariant-loop-n
invariant-loop-n g l =
    record {
      plain : (k : ℕ) → k < l.n → get_or l.text k 0 ≢ 10;
      taken : Consumes (g.R.Read.remaining l.initial.input) (g.R.Read.remaining l.input) (take l.n l.text);
    }
