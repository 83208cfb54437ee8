-- The arms of `parse_size`, over plain variables. Assumes nothing.
use Prim.Native.Nat.{ℕ, suc, ◌+◌, ◌-◌, ◌≤◌, ◌<◌}
use mathlib.Core.Path.{◌≡◌, ap, ◌∙◌}
use Rattle.std.specs.Prelude.{Option, Some as some, None as none}
use mathlib.Core.List.{List}
use native.Mathlib.Omega.{arith}
use native.Mathlib.Numerals.{add-one}
use lib.ListN.{length, take, drop, drop_of_length-le, length-drop}
use lib.Seq.{drop-cons, take_all}
use Rattle.outcome.specs.Outcome.{ok, refuse, bad_width, bad_height}
use Rattle.grammar.specs.Index.{top_side}
use Rattle.grammar.specs.IndexParts.{unlike, letter_x}
use Rattle.grammar.specs.Parts.{Part}
use Rattle.idx_numbers_model.specs.Numbers.{unsigned}
use Rattle.idx_numbers_model.specs.Parts.{part, front, rest, trim, trimmed}
use Rattle.idx_lines_model.specs.Answers.{lean, sized}
use Rattle.idx_lines_model.specs.Lines.{halves, size_or}
use Rattle.idx_numbers_model.proofs.Loops.{take-front, drop-front}

-- the first byte x of s is at a
module _ (x : ℕ) (s : List ℕ) (a : ℕ) (lead : a ≡ length (front (unlike x) s)) where
  rest-is : drop a s ≡ rest (unlike x) s
  rest-is = ap (λ (n : ℕ). drop n s) lead ∙ drop-front (unlike x) s

  front-is : take a s ≡ front (unlike x) s
  front-is = ap (λ (n : ℕ). take n s) lead ∙ take-front (unlike x) s

  pub halves-off : (at : ℕ) → length s ≤ a → halves x (part at s) ≡ none
  halves-off at h = rw (← rest-is, drop_of_length-le s h)

  pub halves-at : (at : ℕ) → a < length s
      → halves x (part at s) ≡ some (record { left = part at (take a s); right = part (at + suc (length (take a s))) (drop (a + 1) s) })
  halves-at at h = rw (← rest-is, ← front-is, drop-cons s a 0 h, add-one)

module _ (s : List ℕ) (a : ℕ) (lead : a ≡ length (front (unlike letter_x) s)) (i : Part) (at : ℕ) where
  pub size-nothing : length s ≤ a → ok none ≡ lean (size_or i (halves letter_x (part at s)))
  size-nothing h = rw (halves-off letter_x s a lead at h)

  module _ (h : a < length s) (l r : List ℕ) (left : l ≡ trimmed (take a s)) (right : r ≡ trimmed (take (length s - (a + 1)) (drop (a + 1) s)))
      (w : Option ℕ) (width : w ≡ unsigned 10 top_side l) where
    right' : r ≡ trimmed (drop (a + 1) s)
    right' = right ∙ ap trimmed (take_all (length s - (a + 1)) (drop (a + 1) s) (rw (length-drop (a + 1) s) (omega arith)))

    wide : w ≡ unsigned 10 top_side (trimmed (take a s))
    wide = rw left at width

    pub size-bad_width : w ≡ none → refuse bad_width ≡ lean (size_or i (halves letter_x (part at s)))
    unfolding trim
    size-bad_width e = rw (halves-at letter_x s a lead at h, ← wide, e)

    module _ (u v : ℕ) (is_width : w ≡ some u) (n : Option ℕ) (height : n ≡ unsigned 10 top_side r) where
      high : n ≡ unsigned 10 top_side (trimmed (drop (a + 1) s))
      high = rw right' at height

      pub size-bad_height : n ≡ none → refuse bad_height ≡ lean (size_or i (halves letter_x (part at s)))
      unfolding trim
      size-bad_height e = rw (halves-at letter_x s a lead at h, ← wide, is_width, ← high, e)

      pub size-good : n ≡ some v → ok (some (sized u v)) ≡ lean (size_or i (halves letter_x (part at s)))
      unfolding trim
      size-good e = rw (halves-at letter_x s a lead at h, ← wide, is_width, ← high, e)
