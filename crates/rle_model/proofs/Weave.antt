-- Rows of two fields woven: they count what both count, and painted they are stores of one map. Assumes nothing.
use Prim.Native.Nat.{ℕ, suc, ◌+◌, ◌*◌, ◌≤◌}
use native.Mathlib.Omega.{arith}
use mathlib.Core.Path.{◌≡◌, refl, sym, ap, ◌∙◌}
use mathlib.Core.List.{List, [], ◌∷◌, ◌++◌, append-nil}
use lib.ListN.{length, set}
use lib.Seq.{sets, set_comm}
use Rattle.outcome.proofs.Laws.{sets-append}
use Rattle.grammar.specs.Rows.{Code}
use Rattle.grammar.specs.Pixels.{row_pixels, index_map}
use Rattle.rle_model.specs.Field.{paint_field}
use Rattle.rle_model.specs.Fields.{weave}
use Rattle.rle_model.specs.Answers.{nothing, plus, row_counts, field_counts}
use Rattle.rle_model.specs.declared.Counts.{Counts}
use Rattle.grammar.proofs.Lengths.{row-length}
use Rattle.rle_model.proofs.Loops.{counts_eq, plus-nothing}

-- ---- Stores at places apart, in either order

set-sets : (l : List ℕ) (k v j : ℕ) (b : List ℕ) → j + length b ≤ k → sets (set l k v) j b ≡ set (sets l j b) k v
set-sets l k v j [] h = refl
set-sets l k v j (x ∷ b) h =
    let q : k ≡ j → ⊥ = λ e. omega arith in
    ap (λ (m : List ℕ). sets m (suc j) b) (set_comm l k j v x q) ∙ set-sets (set l j x) k v (suc j) b (omega arith)

sets-sets : (l : List ℕ) (i : ℕ) (a : List ℕ) (j : ℕ) (b : List ℕ) → j + length b ≤ i → sets (sets l i a) j b ≡ sets (sets l j b) i a
sets-sets l i [] j b h = refl
sets-sets l i (x ∷ a) j b h =
    sets-sets (set l i x) (suc i) a j b (omega arith) ∙ ap (λ (m : List ℕ). sets m (suc i) a) (set-sets l i x j b h)

-- rows further on, painted before or after
paint-sets : (w o : ℕ) (rs : List (List Code)) (px : List ℕ) (j : ℕ) (b : List ℕ) → j + length b ≤ o
    → sets (paint_field w o rs px) j b ≡ paint_field w o rs (sets px j b)
unfolding paint_field
paint-sets w o [] px j b h = refl
paint-sets w o (r ∷ rs) px j b h =
    paint-sets w (o + 2 * w) rs (sets px o (row_pixels w r)) j b (omega arith)
    ∙ ap (paint_field w (o + 2 * w) rs) (sets-sets px o (row_pixels w r) j b h)

-- ---- Woven rows

plus-swap : (a b c d : Counts) → plus (plus a b) (plus c d) ≡ plus a (plus c (plus b d))
plus-swap a b c d = counts_eq (plus (plus a b) (plus c d)) (plus a (plus c (plus b d))) (omega arith) (omega arith)

pub weave-counts : (w : ℕ) (a b : List (List Code)) → length b ≤ length a → length a ≤ length b + 1
    → plus (field_counts w a) (field_counts w b) ≡ field_counts w (weave a b)
unfolding weave field_counts
weave-counts w [] [] h l = refl
weave-counts w [] (y ∷ b) h l = absurd (omega arith)
weave-counts w (x ∷ []) [] h l = plus-nothing (plus (row_counts w x) nothing)
weave-counts w (x ∷ x' ∷ a) [] h l = absurd (omega arith)
weave-counts w (x ∷ a) (y ∷ b) h l =
    plus-swap (row_counts w x) (field_counts w a) (row_counts w y) (field_counts w b)
    ∙ ap (λ (c : Counts). plus (row_counts w x) (plus (row_counts w y) c)) (weave-counts w a b (omega arith) (omega arith))

pub weave-pixels : (w o : ℕ) (a b : List (List Code)) (px : List ℕ) → length b ≤ length a → length a ≤ length b + 1
    → paint_field w (o + w) b (paint_field w o a px) ≡ sets px o (index_map w (weave a b))
unfolding weave paint_field index_map
weave-pixels w o [] [] px h l = refl
weave-pixels w o [] (y ∷ b) px h l = absurd (omega arith)
weave-pixels w o (x ∷ []) [] px h l = ap (sets px o) (sym (append-nil (row_pixels w x)))
weave-pixels w o (x ∷ x' ∷ a) [] px h l = absurd (omega arith)
weave-pixels w o (x ∷ a) (y ∷ b) px h l =
    let z : o + w + 2 * w ≡ o + 2 * w + w = omega arith in
    let z' : o + w + w ≡ o + 2 * w = omega arith in
    let m : o + w + length (row_pixels w y) ≤ o + 2 * w = omega (arith, row-length w y) in
    ap (paint_field w (o + w + 2 * w) b) (paint-sets w (o + 2 * w) a (sets px o (row_pixels w x)) (o + w) (row_pixels w y) m)
    ∙ ap (λ (k : ℕ). paint_field w k b (paint_field w (o + 2 * w) a (sets (sets px o (row_pixels w x)) (o + w) (row_pixels w y)))) z
    ∙ weave-pixels w (o + 2 * w) a b (sets (sets px o (row_pixels w x)) (o + w) (row_pixels w y)) (omega arith) (omega arith)
    ∙ sym
    (sets-append px o (row_pixels w x) (row_pixels w y ++ index_map w (weave a b))
    ∙ sets-append (sets px o (row_pixels w x)) (o + length (row_pixels w x)) (row_pixels w y) (index_map w (weave a b))
    ∙ rw (row-length w x, row-length w y, z'))
