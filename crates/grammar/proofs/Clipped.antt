-- What a clipped code paints, and how many there are: one ends its row, so a row has one at most, and a picture no more
-- than it has lines (FORMAT 5.11). Assumes nothing.
use Prim.Native.Nat.{ℕ, suc, ◌+◌, ◌-◌, ◌≤◌, ◌<◌}
use native.Mathlib.Omega.{arith}
use mathlib.Core.Path.{◌≡◌, refl}
use mathlib.Core.Bool.{Bool, true, false, not, cond, ◌&&◌}
use mathlib.Core.Logic.{⊎_elim}
use mathlib.Core.List.{List, [], ◌∷◌}
use lib.Dec.{ltb}
use lib.ListN.{length}
use borrow.Author.Tests.{ltb-true, ltb-false}
use Rattle.grammar.specs.Rows.{Code, fills, run, paints, overshoots, RowCodes, after_codes, align, FieldRows}
use Rattle.grammar.specs.Pixels.{codes_in, clipped_row, clipped_in}
use Rattle.grammar.specs.Record.{Told, width, height}
use Rattle.grammar.specs.Picture.{evens, odds, Stay0, IsPicture}
use Rattle.grammar.specs.Reading.{Wanted, Reading, IsReading, shown}

-- a clipped code is no fill, and its run is longer than what is left
overshot : (left : ℕ) (c : Code) → overshoots left c ≡ true → (fills c ≡ false) × (left < run c)
unfolding overshoots
overshot left c h = go (fills c) (ltb left (run c)) refl refl h
  where
    go : (f t : Bool) → fills c ≡ f → ltb left (run c) ≡ t → (not f && t) ≡ true → (fills c ≡ false) × (left < run c)
    go true t p q e = let z : ◌≡◌ {A = ℕ} 0 1 = cc in absurd (omega arith)
    go false true p q e = (p, ltb-true left (run c) q)
    go false false p q e = let z : ◌≡◌ {A = ℕ} 0 1 = cc in absurd (omega arith)

-- it paints all that is left, and less than its run; any other code that is no fill paints its whole run
pub clipped-paints : (left : ℕ) (c : Code) → overshoots left c ≡ true → paints left c ≡ left
unfolding paints
clipped-paints left c h = let o = overshot left c h in rw o.0 (omega (arith, o.1))

pub clipped-cut : (left : ℕ) (c : Code) → overshoots left c ≡ true → paints left c < run c
clipped-cut left c h = omega (arith, clipped-paints left c h, (overshot left c h).1)

pub unclipped-whole : (left : ℕ) (c : Code) → fills c ≡ false → overshoots left c ≡ false → paints left c ≡ run c
unfolding overshoots paints
unclipped-whole left c f h =
    let l : ltb left (run c) ≡ false = rw f at h in
    let m = ltb-false left (run c) l in
    rw f (omega arith)

module _ (u : List ℕ) (e : ℕ) where
  -- nothing follows where nothing is left
  row-over : (left p : ℕ) (cs : List Code) → left ≡ 0 → RowCodes u e left p cs → clipped_row left cs ≡ 0
  unfolding RowCodes clipped_row
  row-over left p [] z h = refl
  row-over left p (c ∷ cs) z h = absurd (omega (arith, h.0))

  pub clipped_row-most : (left p : ℕ) (cs : List Code) → RowCodes u e left p cs → clipped_row left cs ≤ 1
  unfolding RowCodes clipped_row
  clipped_row-most left p [] h = omega arith
  clipped_row-most left p (c ∷ cs) h =
      go (overshoots left c) refl (clipped_row-most (left - paints left c) (p + c.size) cs h.3)
    where
      go : (b : Bool) → overshoots left c ≡ b → clipped_row (left - paints left c) cs ≤ 1
          → cond b 1 0 + clipped_row (left - paints left c) cs ≤ 1
      go true q i =
          let z : left - paints left c ≡ 0 = omega (arith, clipped-paints left c q) in
          omega (arith, row-over (left - paints left c) (p + c.size) cs z h.3)
      go false q i = omega arith

  pub clipped-rows-most : (w p : ℕ) (rs : List (List Code)) → FieldRows u e w p rs → clipped_in w rs ≤ length rs
  unfolding FieldRows clipped_in
  clipped-rows-most w p [] h = omega arith
  clipped-rows-most w p (r ∷ rs) h =
      omega (arith, clipped_row-most w p r h.0, clipped-rows-most w (align (after_codes p r)) rs h.1)

-- no more codes are clipped than are listed
row_listed : (left : ℕ) (cs : List Code) → clipped_row left cs ≤ length cs
unfolding clipped_row
row_listed left [] = omega arith
row_listed left (c ∷ cs) = go (overshoots left c) (row_listed (left - paints left c) cs)
  where
    go : (b : Bool) → clipped_row (left - paints left c) cs ≤ length cs
        → cond b 1 0 + clipped_row (left - paints left c) cs ≤ suc (length cs)
    go true i = omega arith
    go false i = omega arith

pub clipped-listed : (w : ℕ) (rs : List (List Code)) → clipped_in w rs ≤ codes_in rs
unfolding clipped_in codes_in
clipped-listed w [] = omega arith
clipped-listed w (r ∷ rs) = omega (arith, row_listed w r, clipped-listed w rs)

-- rows that stay 0 have none
pub blank_none : (w : ℕ) (rs : List (List Code)) → Stay0 rs → clipped_in w rs ≡ 0
unfolding Stay0 clipped_in clipped_row
blank_none w [] h = refl
blank_none w (r ∷ rs) h = rw h.0 (omega (arith, blank_none w rs h.1))

-- ---- Both fields

clipped-halved : (w : ℕ) (rs : List (List Code)) → clipped_in w rs ≡ clipped_in w (evens rs) + clipped_in w (odds rs)
unfolding evens clipped_in
clipped-halved w [] = refl
clipped-halved w (r ∷ []) = omega arith
clipped-halved w (r ∷ q ∷ []) = omega arith
clipped-halved w (r ∷ q ∷ s ∷ rs) = omega (arith, clipped-halved w (s ∷ rs))

rows-halved : (rs : List (List Code)) → length rs ≡ length (evens rs) + length (odds rs)
unfolding evens
rows-halved [] = refl
rows-halved (r ∷ []) = omega arith
rows-halved (r ∷ q ∷ []) = omega arith
rows-halved (r ∷ q ∷ s ∷ rs) = omega (arith, rows-halved (s ∷ rs))

pub clipped_picture_most : (u : List ℕ) (t : Told) (rs : List (List Code)) → IsPicture u t rs
    → clipped_in (width t) rs ≤ height t
clipped_picture_most u t rs h =
    let a = clipped-rows-most u _ (width t) _ (evens rs) h.top in
    let b : clipped_in (width t) (odds rs) ≤ length (odds rs) =
    ⊎_elim (λ f. clipped-rows-most u _ (width t) _ (odds rs) f.2)
    (λ f. omega (arith, blank_none (width t) (odds rs) f.1)) h.bottom in
    omega (arith, clipped-halved (width t) rs, rows-halved rs, h.all)

pub clipped-reading-most : (text file : List ℕ) (q : Wanted) (x : Reading) → IsReading text file q x
    → ((shown x).clipped ≤ (shown x).height) × ((shown x).clipped ≤ (shown x).codes)
unfolding shown
clipped-reading-most text file q x h =
    (clipped_picture_most _ _ x.unit.rows h.unit_is.picture, clipped-listed _ x.unit.rows)
