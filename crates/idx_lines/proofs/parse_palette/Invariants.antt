-- `idx_lines::parse_palette` meets its contract: each turn is one token more. Assumes nothing.
use mathlib.Core.Path.{◌≡◌}
use Rattle.idx_lines_model.proofs.Palettes.{Colouring}
use Rattle.idx_lines.proofs.parse_palette.Given as goal

abbrev pub invariant-loop-k : goal.invariant-loop-k
invariant-loop-k l = (l.palette ≡ l.initial.palette) × Colouring l.s l.initial.palette l.colours l.k l.i
