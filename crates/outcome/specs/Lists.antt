-- A list that is found item by item, from a state on: one definition for codes, commands, blocks and packets.
-- Assumes nothing: these are definitions.
use Rattle.std.specs.Prelude.{ℕ, zero, suc, ◌≡◌, Bool, true, false, cond, List, [], ◌∷◌}
use Rattle.outcome.specs.Outcome.{Res, ok, refuse, and_then, cons_res, listed_by}

module _ {S A : Type 0} (stop : S → Bool) (item : S → Res A) (next : S → A → S) where
  -- f turns at most; with none left the answer is refusal 0, which is no item's and is never given where each item lowers a number (`list_refuses`)
  unfoldable pub list_fuel : ℕ → S → Res (List A)
  list_fuel zero s = refuse 0
  list_fuel (suc f) s = let r = and_then (item s) (λ a. cons_res a (list_fuel f (next s a))) in cond (stop s) (ok []) r

  -- the items from s on until the list stops; `left s` falls with each
  unfoldable pub list_from : (S → ℕ) → S → Res (List A)
  list_from left s = list_fuel (suc (left s)) s

  -- the items from s on until the list stops or one is refused
  unfoldable pub read_fuel : ℕ → S → List A
  read_fuel zero s = []
  read_fuel (suc f) s = cond (stop s) [] (listed_by (item s) (λ a. a ∷ read_fuel f (next s a)))

  unfoldable pub read_from : (S → ℕ) → S → List A
  read_from left s = read_fuel (suc (left s)) s

  -- l is the whole list: each item stands where the one before it leaves off, and the list stops after the last and not before
  unfoldable pub Listed : S → List A → Type 0
  Listed s [] = stop s ≡ true
  Listed s (a ∷ l) = (stop s ≡ false) × (item s ≡ ok a) × Listed (next s a) l
