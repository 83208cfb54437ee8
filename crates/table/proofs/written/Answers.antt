-- `table::written` meets its contract. Assumes nothing.
use native.Mathlib.Omega.{arith}
use mathlib.Core.Path.{refl}
use Rattle.std.proofs.Common.{rules}
use Rattle.table.proofs.Laws.{left_first, written-other, written-short, written-hex}
use Rattle.table.proofs.written.Goals.{in_default-via-then-s-i-lt3, in_default-via-else-s-i-lt3+in_default-1}
use Rattle.table.proofs.written.Goals as goal

pub returns-in-92 : goal.returns-in-92
returns-in-92 c = written-hex c.args.s.now _ c.requires _ _ (omega (arith, left_first c.args.s.now _ c.requires)) (omega (arith, c.in-92.len_at_least)) c.hex_of.ensures refl

pub returns-in_default : goal.returns-in_default
returns-in_default c =
    elim c.in_default.branch [
      | in_default-via-then-s-i-lt3 w ↦ written-short c.args.s.now _ c.requires _ (search rules) refl
      | in_default-via-else-s-i-lt3+in_default-1 w ↦ written-other c.args.s.now _ c.requires _ (λ q. absurd (omega (arith, q, left_first c.args.s.now _ c.requires))) refl
    ]
