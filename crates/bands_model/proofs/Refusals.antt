-- A payload is refused with 19 or 34, in this order. Assumes nothing.
use Prim.Native.Nat.{ℕ, ◌+◌, ◌-◌}
use mathlib.Core.Path.{◌≡◌, refl, sym, ap}
use mathlib.Core.Bool.{Bool, true, false, cond}
use mathlib.Core.List.{List, [], ◌∷◌}
use lib.Dec.{leb, eqb}
use lib.ListN.{replicate}
use Rattle.outcome.proofs.Numbers.{in_table, check-numbered, and_then-numbered, only-numbered}
use Rattle.std.specs.Prelude.{Option, Some as some, None as none}
use Rattle.outcome.specs.Outcome.{InTable, Res, ok, refuse, no_band_list, many_bands, Numbered}
use Rattle.outcome.proofs.Laws.{ok-not-refuse, refuse-injective}
use Rattle.bands_model.specs.Bands.{push3, word_of, header, entry_of, on_head, on_entry, bands_of, entries_of}
use Rattle.grammar.specs.Bands.{most_bands}
use Rattle.bands_model.specs.Count.{bands_held}
use Rattle.bands_model.specs.Answers.{stored}
use Rattle.bands_model.specs.declared.Header.{Header}
use Rattle.bands_model.specs.declared.Header.TheVariants as H
use Rattle.bands_model.specs.declared.EntryWords.{EntryWords}

push-refuses : (x y z k : ℕ) (r : Res (List ℕ)) → push3 x y z r ≡ refuse k → r ≡ refuse k
push-refuses x y z k (ok v) q = ok-not-refuse (sym q)
push-refuses x y z k (refuse n) q = ap refuse (refuse-injective q)

either : (t : Bool) (k : ℕ) (r s : Res (List ℕ)) → (r ≡ refuse k → k ≡ no_band_list) → (s ≡ refuse k → k ≡ no_band_list) → cond t r s ≡ refuse k → k ≡ no_band_list
either true k r s f g q = f q
either false k r s f g q = g q

mutual
  unfolding bands_of entries_of

  pub bands-refuses : (s : List ℕ) (k : ℕ) → bands_of s ≡ refuse k → k ≡ no_band_list
  bands-refuses [] k q = ok-not-refuse (sym q)
  bands-refuses (a ∷ []) k q = sym (refuse-injective q)
  bands-refuses (a ∷ b ∷ []) k q = sym (refuse-injective q)
  bands-refuses (a ∷ b ∷ c ∷ []) k q = sym (refuse-injective q)
  bands-refuses (a ∷ b ∷ c ∷ d ∷ s) k q = go (λ f. bands-refuses s k f) (λ n f. entries-refuses s n 0 k f) (header (word_of a b) (word_of c d)) q
    where
      go : (bands_of s ≡ refuse k → k ≡ no_band_list) → ((n : ℕ) → entries_of s n 0 ≡ refuse k → k ≡ no_band_list)
          → (h : Header) → on_head h (λ n. cond (eqb n 0) (bands_of s) (entries_of s n 0)) ≡ refuse k → k ≡ no_band_list
      go f g H.End q = ok-not-refuse (sym q)
      go f g H.Bad q = sym (refuse-injective q)
      go f g (H.Band x y n) q = either (eqb n 0) k (bands_of s) (entries_of s n 0) f (g n) (push-refuses x y n k (cond (eqb n 0) (bands_of s) (entries_of s n 0)) q)

  entries-refuses : (s : List ℕ) (n lo k : ℕ) → entries_of s n lo ≡ refuse k → k ≡ no_band_list
  entries-refuses [] n lo k q = sym (refuse-injective q)
  entries-refuses (a ∷ []) n lo k q = sym (refuse-injective q)
  entries-refuses (a ∷ b ∷ []) n lo k q = sym (refuse-injective q)
  entries-refuses (a ∷ b ∷ c ∷ []) n lo k q = sym (refuse-injective q)
  entries-refuses (a ∷ b ∷ c ∷ d ∷ []) n lo k q = sym (refuse-injective q)
  entries-refuses (a ∷ b ∷ c ∷ d ∷ e ∷ []) n lo k q = sym (refuse-injective q)
  entries-refuses (a ∷ b ∷ c ∷ d ∷ e ∷ f ∷ s) n lo k q =
      go (λ i. bands-refuses s k i) (λ c i. entries-refuses s (n - 1) (c + 1) k i) (entry_of (a ∷ b ∷ c ∷ d ∷ e ∷ f ∷ s) lo) q
    where
      go : (bands_of s ≡ refuse k → k ≡ no_band_list) → ((c : ℕ) → entries_of s (n - 1) (c + 1) ≡ refuse k → k ≡ no_band_list)
          → (r : Option EntryWords) → on_entry r (λ col. cond (eqb n 1) (bands_of s) (entries_of s (n - 1) (col + 1))) ≡ refuse k → k ≡ no_band_list
      go f g none q = sym (refuse-injective q)
      go f g (some e) q = either (eqb n 1) k (bands_of s) (entries_of s (n - 1) (e.column + 1)) f (g e.column) (push-refuses e.column e.selectors e.alphas k (cond (eqb n 1) (bands_of s) (entries_of s (n - 1) (e.column + 1))) q)

pub stored-numbered : (s : List ℕ) → Numbered (stored s)
unfolding stored
stored-numbered s =
    and_then-numbered InTable (bands_of s) _ (only-numbered InTable no_band_list (in_table no_band_list refl) (bands_of s) (bands-refuses s))
    (λ v. check-numbered InTable (leb (bands_held v) most_bands) many_bands (ok v) (in_table many_bands refl) tt)

-- 19 before 34: 33 headers, and a byte that is none
pub orders :
    -- 19, and 34
    (stored (replicate 133 0) ≡ refuse no_band_list)
unfolding stored bands_of header
orders = refl
