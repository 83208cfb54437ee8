-- `idx_lines::store` meets its contract: three bytes in one copy. Assumes nothing.
use native.Mathlib.Omega.{arith}
use Prim.Native.Nat.{ℕ, ◌+◌, ◌-◌, ◌*◌}
use mathlib.Core.List.{List, [], ◌∷◌}
use mathlib.Core.Path.{ap, ◌∙◌}
use lib.ListN.{length, get_or}
use Rattle.std.proofs.lemmas.List.Edits.{sets}
use Rattle.outcome.proofs.Laws.{part_stored}
use Rattle.idx_lines.proofs.store.Goals as goal

pub returns : goal.returns
returns c =
    part_stored (3 * c.args.k) (3 * c.args.k + 3 - 3 * c.args.k) c.args.palette.now c.copy_from_slice.new.self (omega (arith, ap length c.copy_from_slice.ensures.after)) (omega (arith, c.told-palette))
    ∙ ap (λ (l : List ℕ). sets c.args.palette.now (3 * c.args.k) l) c.copy_from_slice.ensures.after
    ∙ ap (λ (b : List ℕ). sets c.args.palette.now (3 * c.args.k) (get_or b 5 0 ∷ get_or b 6 0 ∷ get_or b 7 0 ∷ [])) c.to_be_bytes.ensures
