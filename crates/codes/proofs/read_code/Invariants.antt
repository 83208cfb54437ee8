-- `codes::read_code` meets its contract: with the lengths tried so far too short, the code found from the next length on is the code. Assumes nothing.
use Prim.Native.Nat.{ℕ, ◌+◌, ◌-◌, ◌*◌, ◌^◌, ◌≤◌, ◌<◌}
use mathlib.Core.Path.{◌≡◌}
use mathlib.Core.List.{List}
use lib.ListN.{length}
use Rattle.outcome.specs.Outcome.{ok}
use Rattle.grammar.specs.Bytes.{nibbles}
use Rattle.rle_model.specs.Codes.{code_from, code_at, made}
use Rattle.codes.proofs.read_code.Given as goal

-- what is known with the first `size` nibbles read, of a reader that was at `from`
pub record Inv (field : List ℕ) (from pos value size least : ℕ) : Type 0 where
  pub few : size ≤ 4
  pub place : pos ≡ from + size
  pub inside : 0 < size → pos ≤ 2 * length field
  pub number : value ≡ nibbles field from size
  pub power : least ≡ 4 ^ size
  pub small : value < least
  pub goes : size < 4 → code_from field (length field) from (4 - (size + 1)) (size + 1) ≡ code_at field (length field) from
  pub last : size ≡ 4 → code_at field (length field) from ≡ ok (made field from 4)

abbrev pub invariant-loop-before : goal.invariant-loop-before
invariant-loop-before l = (l.reader.buf ≡ l.initial.reader.buf) × Inv l.initial.reader.buf.now l.initial.reader.pos l.reader.pos l.value l.before l.least
