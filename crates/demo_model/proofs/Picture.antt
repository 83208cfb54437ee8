-- The pixels of a picture, and its rows as the code finds them. Assumes nothing.
use Prim.Native.Nat.{ℕ, zero, suc, ◌+◌, ◌-◌, ◌*◌, ◌%◌, ◌≤◌, ◌<◌}
use native.Mathlib.Nat.{suc-mul, mul_comm, mul-le-mul_right}
use native.Mathlib.Omega.{arith}
use mathlib.Core.Path.{◌≡◌, refl, sym, ap, ◌∙◌}
use mathlib.Core.Bool.{Bool, true, cond, ◌&&◌}
use mathlib.Core.List.{List, [], ◌∷◌, ◌++◌, append_assoc, append-nil}
use lib.ListN.{length, take, drop, length-drop, length-append}
use lib.Seq.{drop-drop, length-take-le}
use lib.Dec.{leb, eqb}
use borrow.Author.Tests.{leb-true}
use Rattle.outcome.proofs.Laws.{and-true}
use Rattle.grammar.specs.Picture.{evens}
use Rattle.demo_model.specs.Codes.{last_marks, nibbles_of, evened, picture_rows, row_marks, row_nibbles, field_nibbles}
use Rattle.demo_model.specs.Unit.{all_colours, Four}
use Rattle.demo_model.specs.Answers.{Inked}
use Rattle.demo_model.specs.declared.NibbleWriter.{NibbleWriter}
use Rattle.demo_model.proofs.Fields.{evened-length}
use Rattle.std.specs.List.{list_all}
use Rattle.demo_model.proofs.Unit.{four-take, four-drop}
use Rattle.demo_model.proofs.Ink.{inked_as}

-- ---- Colours

-- each index is a colour where each passes the test
pub colours-all : (px : List ℕ) → list_all (λ x. leb x 3) px ≡ all_colours px
unfolding all_colours
colours-all [] = refl
colours-all (x ∷ px) = ap (λ (b : Bool). leb x 3 && b) (colours-all px)

pub colours-four : (px : List ℕ) → all_colours px ≡ true → Four px
unfolding all_colours Four
colours-four [] h = tt
colours-four (x ∷ px) h = let a = and-true (leb x 3) (all_colours px) h in let l = leb-true x 3 a.0 in (omega arith, colours-four px a.1)

-- ---- Rows of a field

-- a row lies in the picture
pub row_fits : (w h row : ℕ) → row < h → row * w + w ≤ w * h
row_fits w h row l = let a : suc row * w ≤ h * w = mul-le-mul_right w l in let b = suc-mul row w in let c = mul_comm w h in omega arith

pub rows-tail : (w n : ℕ) (px : List ℕ) → drop 1 (picture_rows w n px) ≡ picture_rows w (n - 1) (drop w px)
unfolding picture_rows
rows-tail w zero px = refl
rows-tail w (suc n) px = let z : suc n - 1 ≡ n = omega arith in rw z

evens-step : {A : Type 0} (r : A) (rs : List A) → evens (r ∷ rs) ≡ r ∷ evens (drop 1 rs)
unfolding evens
evens-step r [] = refl
evens-step r (q ∷ rs) = refl

-- the field's row at hand, and those after it
rows_step : (w n : ℕ) (px : List ℕ) → 0 < n → evens (picture_rows w n px) ≡ take w px ∷ evens (picture_rows w (n - 2) (drop w (drop w px)))
unfolding picture_rows
rows_step w zero px h = absurd (omega arith)
rows_step w (suc n) px h =
    let z : n - 1 ≡ suc n - 2 = omega arith in
    evens-step (take w px) (picture_rows w n (drop w px)) ∙ ap (λ (l : List (List ℕ)). take w px ∷ evens l) (rows-tail w n (drop w px) ∙ ap (λ (k : ℕ). picture_rows w k (drop w (drop w px))) z)

-- nibbles after an even number of them
evened-after : (a b : List ℕ) → length a % 2 ≡ 0 → evened (a ++ b) ≡ a ++ evened b
evened-after a b h =
    let l = length-append a b in
    let z : length (a ++ b) % 2 ≡ length b % 2 = omega arith in
    rw z (append_assoc a b (cond (eqb (length b % 2) 0) [] (0 ∷ [])))

-- the nibbles of the rows from `row` on, every second one
abbrev pub from_row : ℕ → ℕ → List ℕ → ℕ → List ℕ
from_row w h px row = field_nibbles last_marks (evens (picture_rows w (h - row) (drop (row * w) px)))

abbrev pub row_at : ℕ → List ℕ → ℕ → List ℕ
row_at w px row = take w (drop (row * w) px)

from_step : (w h : ℕ) (px : List ℕ) (row : ℕ) → row < h → from_row w h px row ≡ row_nibbles last_marks (row_at w px row) ++ from_row w h px (row + 2)
unfolding field_nibbles
from_step w h px row l =
    let z : h - row - 2 ≡ h - (row + 2) = omega arith in
    let a = suc-mul row w in
    let b = suc-mul (suc row) w in
    let y : row + 2 ≡ suc (suc row) = omega arith in
    let x : row * w + (w + w) ≡ (row + 2) * w = rw y (omega arith) in
    let d : drop w (drop w (drop (row * w) px)) ≡ drop ((row + 2) * w) px = drop-drop w w (drop (row * w) px) ∙ drop-drop (w + w) (row * w) px ∙ ap (λ (k : ℕ). drop k px) x in
    ap (field_nibbles last_marks) (rows_step w (h - row) (drop (row * w) px) (omega arith) ∙ ap (λ (k : ℕ). row_at w px row ∷ evens (picture_rows w k (drop w (drop w (drop (row * w) px))))) z ∙ ap (λ (k : List ℕ). row_at w px row ∷ evens (picture_rows w (h - (row + 2)) k)) d)

from_past : (w h : ℕ) (px : List ℕ) (row : ℕ) → h ≤ row → from_row w h px row ≡ []
unfolding field_nibbles picture_rows evens
from_past w h px row l = let z : h - row ≡ 0 = omega arith in rw z

-- where writing a field stands
pub record Fielding (px : List ℕ) (w h start : ℕ) (w₀ : NibbleWriter) (out₀ : List ℕ) (pen : NibbleWriter) (out : List ℕ) (row : ℕ) : Type 0 where
  pub upto : row ≤ h + 1
  pub bound : pen.pos ≤ w₀.pos + 16385 * row
  pub goes : (ns o : List ℕ) → length ns % 2 ≡ 0 → Inked ns o w₀ out₀ → (done : List ℕ) × (length done % 2 ≡ 0) × Inked done o pen out × (done ++ from_row w h px row ≡ ns ++ from_row w h px start)

module _ (px : List ℕ) (w h start : ℕ) (w₀ : NibbleWriter) (out₀ : List ℕ) (pen : NibbleWriter) (out : List ℕ) (row : ℕ) (j : Fielding px w h start w₀ out₀ pen out row) where
  pub fielding_ends : h ≤ row → (ns o : List ℕ) → length ns % 2 ≡ 0 → Inked ns o w₀ out₀ → Inked (ns ++ from_row w h px start) o pen out
  fielding_ends l ns o e i =
      let g = j.goes ns o e i in
      inked_as g.0 (ns ++ from_row w h px start) o pen out (sym (append-nil g.0) ∙ ap (λ (k : List ℕ). g.0 ++ k) (sym (from_past w h px row l)) ∙ g.3) g.2

  pub fielding_goes : row < h → (r : NibbleWriter) (out' : List ℕ) → r.pos ≤ pen.pos + 16385
      → ((ns o : List ℕ) → Inked ns o pen out → Inked (evened (ns ++ nibbles_of (row_marks last_marks (row_at w px row)))) o r out')
      → Fielding px w h start w₀ out₀ r out' (row + 2)
  fielding_goes l r out' p f =
      let b = j.bound in
      let n : List ℕ = nibbles_of (row_marks last_marks (row_at w px row)) in
      let v = evened-length (nibbles_of (row_marks last_marks (row_at w px row))) in
      record {
        upto = omega arith;
        bound = omega arith;
        goes = λ ns o e i.
            let g = j.goes ns o e i in
            let q = evened-after g.0 (nibbles_of (row_marks last_marks (row_at w px row))) g.1 in
            let y = length-append g.0 (row_nibbles last_marks (row_at w px row)) in
            let c = g.1 in (
              g.0 ++ row_nibbles last_marks (row_at w px row),
              omega arith,
              inked_as (evened (g.0 ++ nibbles_of (row_marks last_marks (row_at w px row)))) (g.0 ++ row_nibbles last_marks (row_at w px row)) o r out' q (f g.0 o g.2),
              append_assoc g.0 (row_nibbles last_marks (row_at w px row)) (from_row w h px (row + 2)) ∙ ap (λ (k : List ℕ). g.0 ++ k) (sym (from_step w h px row l)) ∙ g.3,
            );
      }

-- the part of the picture that a row is, as the code takes it
pub row-part : (w : ℕ) (px : List ℕ) (row : ℕ) → take (row * w + w - row * w) (drop (row * w) px) ≡ row_at w px row
row-part w px row = let z : row * w + w - row * w ≡ w = omega arith in ap (λ (k : ℕ). take k (drop (row * w) px)) z

pub row-part-length : (w : ℕ) (px : List ℕ) (row : ℕ) → row * w + w ≤ length px → length (take (row * w + w - row * w) (drop (row * w) px)) ≡ w
row-part-length w px row h = ap length (row-part w px row) ∙ length-take-le w (drop (row * w) px) (rw (length-drop (row * w) px) (omega arith))

pub row-part-four : (w : ℕ) (px : List ℕ) (row : ℕ) → Four px → Four (take (row * w + w - row * w) (drop (row * w) px))
row-part-four w px row k = four-take (row * w + w - row * w) (drop (row * w) px) (four-drop (row * w) px k)
