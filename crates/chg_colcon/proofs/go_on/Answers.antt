-- `chg_colcon::go_on` meets its contract: a header is next where no entry is to go. Assumes nothing.
use mathlib.Core.List.{List}
use Prim.Native.Nat.{ℕ}
use Rattle.bands_model.specs.Bands.{bands_of, entries_of}
use Rattle.bands_model.proofs.Loops.{goes_same, goes_after, rest-bands, rest-entries}
use Rattle.chg_colcon.proofs.go_on.Goals as goal

pub returns-then-left-eq0 : goal.returns-then-left-eq0
returns-then-left-eq0 c = goes_same _ _ _ _ _ _ _ _ (rest-bands _ _ _ c.if-left-eq0.true) (goes_after _ _ _ _ bands_of _ _ _ _ _ _ c.bare_bands-run.ensures c.bands_from.ensures)

pub returns : goal.returns
returns c =
    goes_same _ _ _ _ _ _ _ _ (rest-entries _ _ _ c.if-left-eq0.false) (goes_after _ _ _ _ (λ (t : List ℕ). entries_of t c.inner_entries-run.result.left c.inner_entries-run.result.lo) _ _ _ _ _ _ c.inner_entries-run.ensures.1 c.entries_from.ensures)
