-- A picture is refused with a number of the table. Assumes nothing.
use Prim.Native.Nat.{ℕ, ◌*◌, ◌<◌}
use native.Mathlib.Omega.{arith}
use mathlib.Core.Path.{◌≡◌, refl, sym, ◌∙◌}
use mathlib.Core.Bool.{◌&&◌}
use mathlib.Core.List.{List, [], ◌∷◌}
use lib.Dec.{leb, eqb}
use lib.ListN.{length}
use borrow.Author.Tests.{lt-leb}
use Rattle.outcome.specs.Outcome.{InTable, Res, ok, Numbered, bad_side, not_all_indices, bad_index, long_unit, short_output, refuse}
use Rattle.outcome.proofs.Numbers.{not-0, in_table, check-numbered, and_then-numbered}
use Rattle.demo_model.specs.Codes.{last_marks}
use Rattle.demo_model.specs.Answers.{demo_given}
use Rattle.demo_model.specs.Unit.{unit_of, is_side, all_colours, picture_ok, sized_unit, demo_at}

pub demo_numbered : (w h : ℕ) (px : List ℕ) (n : ℕ) → Numbered (demo_at w h px n)
unfolding demo_at picture_ok sized_unit
demo_numbered w h px n =
    and_then-numbered InTable (picture_ok w h px) _
    (check-numbered InTable (is_side w && is_side h) bad_side _ (in_table bad_side refl)
    (check-numbered InTable (eqb (length px) (w * h)) not_all_indices _ (in_table not_all_indices refl)
    (check-numbered InTable (all_colours px) bad_index (ok tt) (in_table bad_index refl) tt)))
    (λ t. check-numbered InTable (leb (length (unit_of last_marks w h px)) 65535) long_unit _ (in_table long_unit refl)
    (check-numbered InTable (leb (length (unit_of last_marks w h px)) n) short_output (ok (unit_of last_marks w h px)) (in_table short_output refl) tt))

-- so no picture is refused with 0
pub refused-not : (w h : ℕ) (px : List ℕ) (n k : ℕ) → refuse k ≡ demo_given (demo_at w h px n) → k ≡ 0 → ⊥
refused-not w h px n k e z = go (demo_at w h px n) (demo_numbered w h px n) e
  where
    go : (x : Res (List ℕ)) → Numbered x → refuse k ≡ demo_given x → ⊥
    go (ok u) i q = let y : ◌≡◌ {A = ℕ} 0 1 = cc in omega arith
    go (refuse m) i q = let y : k ≡ m = cc in not-0 m i (sym y ∙ z)

-- each order of FORMAT 9 but that of 30 and 31: a picture and a length of output on which both are true, and the number that is given
pub orders :
    -- 27, and 28
    (demo_at 0 1 (0 ∷ []) 0 ≡ refuse bad_side)
    -- 28, and 29
    × (demo_at 2 1 (4 ∷ []) 0 ≡ refuse not_all_indices)
    -- 29, and 31
    × (demo_at 1 1 (4 ∷ []) 0 ≡ refuse bad_index)
unfolding demo_at picture_ok all_colours
orders = (refl, refl, refl)

-- 30 before 31: a unit of more than 65,535 bytes, whatever the length of the output
pub long-first : (w h : ℕ) (px : List ℕ) (n : ℕ) → picture_ok w h px ≡ ok tt → 65535 < length (unit_of last_marks w h px) → demo_at w h px n ≡ refuse long_unit
unfolding demo_at sized_unit
long-first w h px n e l = rw (e, lt-leb (length (unit_of last_marks w h px)) 65535 l)
