-- `idx::grey_palette` meets its contract: entry by entry. Assumes nothing.
use mathlib.Core.Path.{refl, ◌∙◌}
use Prim.Native.Nat.{ℕ, ◌*◌, ◌/◌}
use Rattle.std.proofs.Common.{rules}
use Rattle.std.proofs.lemmas.List.FromFn.{fill_by_all}
use Rattle.grammar.specs.Index.{greys_from}
use Rattle.idx.proofs.grey_palette.Goals as goal

pub returns : goal.returns
unfolding greys_from
returns c =
    fill_by_all (λ (i : ℕ). i / 3 * 17) c.from_fn.result 48 0 c.from_fn.ensures.items.long (λ k l. let h = c.from_fn.ensures.items.at k 0 l in search rules) ∙ refl
