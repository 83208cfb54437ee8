-- A field is refused with 26 for running out, and with 22 before that for a short map. Assumes nothing.
use Prim.Native.Nat.{ℕ, zero, suc, ◌+◌, ◌*◌, ◌^◌}
use mathlib.Core.Path.{◌≡◌, refl, sym}
use mathlib.Core.Bool.{Bool, true, false, cond}
use mathlib.Core.Logic.{⊎_elim}
use mathlib.Core.List.{List, [], ◌∷◌}
use lib.ListN.{length}
use lib.Dec.{leb}
use Rattle.outcome.proofs.Numbers.{in_table, check-numbered, only-numbered}
use Rattle.outcome.specs.Outcome.{InTable, ok, refuse, cons_res, short_pixels, field_ran_out, Numbered}
use Rattle.outcome.proofs.Laws.{ok-not-refuse, and_then-refuse, cons_res-refuse, check-refuse}
use Rattle.outcome.proofs.Lists.{list_refuses}
use Rattle.grammar.specs.Bytes.{nibbles}
use Rattle.grammar.specs.Rows.{after_codes, align}
use Rattle.rle_model.specs.Codes.{made, code_from, code_at, Standing, standing, row_done, row_code, row_next, row_at, field_at}
use Rattle.rle_model.specs.Field.{rows_from, decoded}
use Rattle.rle_model.proofs.Grammar.{row-falls}

from-refuses : (u : List ℕ) (e p k j m : ℕ) → code_from u e p j m ≡ refuse k → k ≡ field_ran_out
unfolding code_from
from-refuses u e p k zero m q = ⊎_elim (λ f. f) (λ f. ok-not-refuse (sym f)) (check-refuse (leb (p + m) (2 * e)) field_ran_out (ok (made u p m)) q)
from-refuses u e p k (suc j) m q =
    ⊎_elim (λ f. f) (λ f. go (leb (4 ^ m) (nibbles u p m)) (λ g. from-refuses u e p k j (suc m) g) f)
    (check-refuse (leb (p + m) (2 * e)) field_ran_out (cond (leb (4 ^ m) (nibbles u p m)) (ok (made u p m)) (code_from u e p j (suc m))) q)
  where
    go : (t : Bool) → (code_from u e p j (suc m) ≡ refuse k → k ≡ field_ran_out) → cond t (ok (made u p m)) (code_from u e p j (suc m)) ≡ refuse k → k ≡ field_ran_out
    go true i g = ok-not-refuse (sym g)
    go false i g = i g

code-refuses : (u : List ℕ) (e p k : ℕ) → code_at u e p ≡ refuse k → k ≡ field_ran_out
unfolding code_at
code-refuses u e p k q = from-refuses u e p k 3 1 q

row-refuses : (u : List ℕ) (e left p k : ℕ) → row_at u e left p ≡ refuse k → k ≡ field_ran_out
unfolding row_at
row-refuses u e left p k q =
    list_refuses row_done (row_code u e) row_next (λ (s : Standing). s.left) (row-falls u e) (λ n. n ≡ field_ran_out) (λ s n f. code-refuses u e s.place n f)
    (standing left p) k q

pub field-refuses : (u : List ℕ) (e w n p k : ℕ) → field_at u e w n p ≡ refuse k → k ≡ field_ran_out
unfolding field_at
field-refuses u e w zero p k q = ok-not-refuse (sym q)
field-refuses u e w (suc n) p k q =
    ⊎_elim (λ f. row-refuses u e w p k f)
    (λ f. field-refuses u e w n (align (after_codes p f.0)) k (cons_res-refuse f.0 (field_at u e w n (align (after_codes p f.0))) f.2))
    (and_then-refuse (row_at u e w p) (λ r. cons_res r (field_at u e w n (align (after_codes p r)))) q)

pub field-numbered : (u : List ℕ) (e w n p : ℕ) → Numbered (field_at u e w n p)
field-numbered u e w n p = only-numbered InTable field_ran_out (in_table field_ran_out refl) (field_at u e w n p) (field-refuses u e w n p)

pub decoded-numbered : (s : List ℕ) (w h start : ℕ) (px : List ℕ) → Numbered (decoded s w h start px)
unfolding decoded
decoded-numbered s w h start px =
    check-numbered InTable (leb (w * h) (length px)) short_pixels _ (in_table short_pixels refl) (field-numbered s (length s) w (rows_from start h) 0)

-- 22 before 26: an empty field, and a map of one pixel for two
pub orders :
    -- 22, and 26
    (decoded [] 2 1 0 (0 ∷ []) ≡ refuse short_pixels)
unfolding decoded
orders = refl
