-- Where the grammar lists a unit's blocks and its picture has a size, 34 is returned exactly where it has more than 32
-- bands. Assumes nothing.
use Prim.Native.Nat.{ℕ, ◌*◌, ◌≤◌, ◌<◌}
use native.Mathlib.Omega.{arith}
use mathlib.Core.Path.{◌≡◌, sym, ap, ◌∙◌}
use mathlib.Core.Logic.{◌↔◌, ⊎_elim}
use mathlib.Core.List.{List}
use lib.Dec.{leb}
use lib.ListN.{length}
use borrow.Author.Tests.{le-leb}
use Rattle.outcome.specs.Outcome.{Res, ok, refuse, RefusedWith, many_bands, short_pixels}
use Rattle.outcome.proofs.Laws.{le_or_lt, ok-not-refuse, refuse-injective}
use Rattle.outcome.proofs.Numbers.{check-numbered, map_res-numbered}
use Rattle.grammar.specs.Bands.{most_bands}
use Rattle.grammar.specs.Control.{Block, IsChain}
use Rattle.grammar.specs.Record.{told, width, height}
use Rattle.grammar.specs.Picture.{ListedUnit}
use Rattle.control_model.specs.Chain.{control_at}
use Rattle.control_model.proofs.Grammar.{chain_iff}
use Rattle.control_model.proofs.Few.{few_iff, few_refused}
use Rattle.spu_model.specs.Unit.{rows_at, listed_unit, unit_in}
use Rattle.spu_model.specs.Answers.{record_given, Decoded}
use Rattle.spu_model.specs.declared.Record.{Record}
use Rattle.spu_model.proofs.Refusals.{rows-with}

-- any other number
abbrev pub Other : ℕ → Type 0
Other n = n ≡ many_bands → ⊥

module _ (u : List ℕ) (bs : List Block) (chain : IsChain u bs) (wide : (told bs).at.x1 ≤ (told bs).at.x2) (high : (told bs).at.y1 ≤ (told bs).at.y2) where
  pub control-is : control_at u ≡ ok bs
  unfolding control_at
  control-is = rw ((chain_iff u bs).1 chain, le-leb (told bs).at.x1 (told bs).at.x2 wide, le-leb (told bs).at.y1 (told bs).at.y2 high)

  others : (n : ℕ) → length (told bs).bands ≤ most_bands → RefusedWith Other (unit_in u n)
  unfolding unit_in
  others n h =
      rw ((few_iff u bs).1 (control-is, h))
      (check-numbered Other (leb (width (told bs) * height (told bs)) n) short_pixels _ (λ q. omega arith)
      (map_res-numbered Other (listed_unit bs) (rows_at u (told bs)) (rows-with Other (λ q. omega arith) (λ q. omega arith) u (told bs))))

  pub unit-many : (px : List ℕ) (r : Res Record) (px' : List ℕ) → Decoded u px r px'
      → (r ≡ refuse many_bands) ↔ (most_bands < length (told bs).bands)
  unfolding unit_in
  unit-many px r px' d = (λ e. ⊎_elim (λ h. absurd (go (unit_in u (length px)) (others (length px) h) (sym e ∙ d.answer))) (λ h. h) (le_or_lt (length (told bs).bands) most_bands), from)
    where
      go : (x : Res ListedUnit) → RefusedWith Other x → refuse many_bands ≡ record_given x → ⊥
      go (ok l) o f = ok-not-refuse f
      go (refuse n) o f = o (sym (refuse-injective f))

      from : most_bands < length (told bs).bands → r ≡ refuse many_bands
      from h = let q : unit_in u (length px) ≡ refuse many_bands = rw (few_refused u bs control-is h) in d.answer ∙ ap record_given q
