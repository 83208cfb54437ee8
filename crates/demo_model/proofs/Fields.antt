-- The rows of a field, one after the other on whole bytes. Assumes nothing.
use Prim.Native.Nat.{ℕ, zero, suc, ◌+◌, ◌*◌, ◌%◌, ◌≤◌, ◌<◌}
use native.Mathlib.Omega.{arith}
use mathlib.Core.Path.{◌≡◌, refl, ap, ◌∙◌, subst}
use mathlib.Core.Bool.{true, false, cond}
use mathlib.Core.Logic.{⊎_elim}
use mathlib.Core.List.{List, [], ◌∷◌}
use lib.ListN.{length, length-append}
use lib.Dec.{eqb}
use borrow.Author.Tests.{eqb-true, eqb-false}
use Rattle.outcome.proofs.Laws.{either}
use Rattle.grammar.specs.Rows.{Code, after_codes, align, FieldRows}
use Rattle.grammar.specs.Pixels.{row_pixels, codes_in, clipped_in}
use Rattle.demo_model.specs.Codes.{Mark, nibbles_of, evened, row_marks, row_nibbles, field_nibbles, marks_in}
use Rattle.demo_model.specs.Unit.{Four}
use Rattle.demo_model.proofs.Read.{Spells, spells-front, spells-rest, placed, Reads, marks-read}
use Rattle.demo_model.proofs.Marks.{Closes, row-draws}

-- rows of width w in four colours
unfoldable pub Rows : ℕ → List (List ℕ) → Type 0
Rows w [] = Unit {0}
Rows w (r ∷ rs) = (length r ≡ w) × Four r × Rows w rs

-- the pixels that rows of codes paint, row by row
unfoldable pub painted_rows : ℕ → List (List Code) → List (List ℕ)
painted_rows w [] = []
painted_rows w (r ∷ rs) = row_pixels w r ∷ painted_rows w rs

not-zero : (m : ℕ) → (m ≡ 0 → ⊥) → m < 2 → m ≡ 1
not-zero zero h l = absurd (h refl)
not-zero (suc zero) h l = refl
not-zero (suc (suc m)) h l = absurd (omega arith)

pub evened-length : (ns : List ℕ) → length (evened ns) ≡ length ns + length ns % 2
evened-length ns = ⊎_elim even odd (either (eqb (length ns % 2) 0))
  where
    even : eqb (length ns % 2) 0 ≡ true → length (evened ns) ≡ length ns + length ns % 2
    even t = let q = eqb-true (length ns % 2) 0 t in let l = length-append ns [] in rw t (omega arith)

    odd : eqb (length ns % 2) 0 ≡ false → length (evened ns) ≡ length ns + length ns % 2
    odd t = let q = not-zero (length ns % 2) (eqb-false (length ns % 2) 0 t) (omega arith) in let l = length-append ns (0 ∷ []) in rw t (omega arith)

module _ (last : ℕ → ℕ → List Mark) (closes : Closes last) where
  -- the codes of rows from half byte p on
  unfoldable pub placed_rows : ℕ → List (List ℕ) → List (List Code)
  placed_rows p [] = []
  placed_rows p (r ∷ rs) = placed p (row_marks last r) ∷ placed_rows (p + length (row_nibbles last r)) rs

  pub record FieldReads (u : List ℕ) (e w p : ℕ) (rs : List (List ℕ)) : Type 0 where
    pub rows : FieldRows u e w p (placed_rows p rs)
    pub pixels : painted_rows w (placed_rows p rs) ≡ rs
    pub count : codes_in (placed_rows p rs) ≡ marks_in last rs
    pub clipped : clipped_in w (placed_rows p rs) ≡ 0
    pub all : length (placed_rows p rs) ≡ length rs

  pub even-length : (rs : List (List ℕ)) → length (field_nibbles last rs) % 2 ≡ 0
  unfolding field_nibbles
  even-length [] = omega arith
  even-length (r ∷ rs) =
      let a = evened-length (nibbles_of (row_marks last r)) in
      let b = even-length rs in
      let l = length-append (row_nibbles last r) (field_nibbles last rs) in
      omega arith

  pub field-reads : (u : List ℕ) (e w p : ℕ) (rs : List (List ℕ)) → p % 2 ≡ 0 → Rows w rs → Spells u p (field_nibbles last rs) → p + length (field_nibbles last rs) ≤ 2 * e → FieldReads u e w p rs
  unfolding Rows placed_rows field_nibbles FieldRows painted_rows codes_in clipped_in marks_in align
  field-reads u e w p [] v h s b = record { rows = tt; pixels = refl; count = refl; clipped = refl; all = refl }
  field-reads u e w p (r ∷ rs) v h s b =
      let n : List ℕ = nibbles_of (row_marks last r) in
      let a = evened-length (nibbles_of (row_marks last r)) in
      let l = length-append (row_nibbles last r) (field_nibbles last rs) in
      let f = spells-front u p (row_nibbles last r) (field_nibbles last rs) s in
      let g = spells-front u p (nibbles_of (row_marks last r)) (cond (eqb (length (nibbles_of (row_marks last r)) % 2) 0) [] (0 ∷ [])) f in
      let t = spells-rest u p (row_nibbles last r) (field_nibbles last rs) s in
      let d = subst (λ (k : ℕ). Reads u e k p (row_marks last r) r) h.0 (marks-read u e (length r) p (row_marks last r) r (row-draws last closes r h.1) g (omega arith)) in
      let q = field-reads u e w (p + length (row_nibbles last r)) rs (omega arith) h.2 t (omega arith) in
      let y = d.after in
      let x : after_codes p (placed p (row_marks last r)) + after_codes p (placed p (row_marks last r)) % 2 ≡ p + length (row_nibbles last r) = rw y (omega arith) in
      record {
        rows = (d.codes, rw x q.rows);
        pixels = ap (λ (k : List ℕ). k ∷ painted_rows w (placed_rows (p + length (row_nibbles last r)) rs)) d.pixels ∙ ap (λ (k : List (List ℕ)). r ∷ k) q.pixels;
        count = omega (arith, d.count, q.count);
        clipped = omega (arith, d.clipped, q.clipped);
        all = ap suc q.all;
      }
