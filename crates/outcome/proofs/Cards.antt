-- Closed inputs on which each edit of this crate's definitions gives another value. Assumes nothing.
use Prim.Native.Nat.{ℕ, ◌-◌}
use mathlib.Core.Path.{◌≡◌, refl}
use mathlib.Core.List.{[], ◌∷◌}
use lib.Dec.{eqb}
use Rattle.std.specs.Prelude.{Err}
use Rattle.outcome.specs.declared.Refusal.TheVariants.{BadWidth}
use Rattle.outcome.specs.Outcome.{ok, refuse, cons_res, answered}
use Rattle.outcome.specs.Lists.{list_fuel, list_from}

-- an item in front of none
pub one-item : cons_res {A = ℕ} 1 (ok []) ≡ ok (1 ∷ [])
one-item = refl

-- from 2 down to 0, where the list stops
pub two_items : list_from (λ (n : ℕ). eqb n 0) (λ n. ok n) (λ n a. n - 1) (λ n. n) 2 ≡ ok (2 ∷ 1 ∷ [])
unfolding list_from list_fuel
two_items = refl

-- a refusal is answered by its number
pub width_answered : answered {A = ℕ} (Err BadWidth) ≡ refuse 2
width_answered = refl
