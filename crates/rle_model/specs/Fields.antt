-- Both fields of a unit, as rows of one picture. Assumes nothing: these are definitions.
use Rattle.std.specs.Prelude.{ℕ, ◌+◌, ◌*◌, ◌≤◌, ◌≡◌, Bool, cond, List, [], ◌∷◌, replicate}
use Rattle.std.proofs.lemmas.List.Edits.{sets}
use Rattle.std.specs.Prelude.{Option, Some as some, None as none, true, false}
use Rattle.outcome.specs.Outcome.{Res, ok, refuse, and_then, listed}
use Rattle.grammar.specs.Rows.{Code}
use Rattle.grammar.specs.Pixels.{index_map}
use Rattle.rle_model.specs.Codes.{field_at}
use Rattle.rle_model.specs.Field.{rows_from, paint_field}
use Rattle.rle_model.specs.Answers.{plus_field, field_counts, field_answer}
use Rattle.rle_model.specs.declared.Counts.{Counts}
use Rattle.rle_model.specs.declared.Span.{Span}

-- rows 0, 2, .. from one list and rows 1, 3, .. from another, as many of the first or one more (FORMAT 5.7)
unfoldable pub weave : {A : Type 0} → List A → List A → List A
weave [] b = []
weave (x ∷ a) [] = x ∷ []
weave (x ∷ a) (y ∷ b) = x ∷ y ∷ weave a b

-- n rows of the bottom field, or rows that stay 0 where there is none (FORMAT 3.8)
unfoldable pub lower_at : List ℕ → ℕ → ℕ → Bool → ℕ → ℕ → Res (List (List Code))
lower_at u from to shown w n = cond shown (field_at u to w n (2 * from)) (ok (replicate n []))

-- the rows of a picture of width w and height h: the top field is from byte t up to e, the bottom field from byte b up to f (FORMAT 3.8, 5.7)
unfoldable pub fields_at : List ℕ → ℕ → ℕ → ℕ → ℕ → Bool → ℕ → ℕ → Res (List (List Code))
fields_at u t e b f shown w h =
    and_then (field_at u e w (rows_from 0 h) (2 * t)) (λ x. and_then (lower_at u b f shown w (rows_from 1 h)) (λ y. ok (weave x y)))

-- a field that may not be there: whether it is, the first of its bytes, and the end of them
abbrev pub is_there : Option Span → Bool
is_there (some s) = true
is_there none = false

abbrev pub from_of : Option Span → ℕ
from_of (some s) = s.from
from_of none = 0

abbrev pub to_of : Option Span → ℕ
to_of (some s) = s.to
to_of none = 0

-- what decoding both leaves: on a refusal nothing is listed, so the map is as found
pub record FieldsDecoded (u : List ℕ) (t e b f : ℕ) (shown : Bool) (w h : ℕ) (px : List ℕ) (r : Res Counts) (px' : List ℕ) : Type 0 where
  pub answer : r ≡ field_answer w (fields_at u t e b f shown w h)
  pub pixels : px' ≡ sets px 0 (index_map w (listed (fields_at u t e b f shown w h)))

-- ---- A way of working inside this layer: the fields as slices of their own

-- what the rows of two fields count, or the refusal of the first that is refused
abbrev pub both_answer : ℕ → Res (List (List Code)) → Res (List (List Code)) → Res Counts
both_answer w (refuse n) y = refuse n
both_answer w (ok xs) y = plus_field (field_counts w xs) (field_answer w y)

-- the map with the rows of both in it, or as found where one is refused
abbrev pub both_paint : ℕ → Res (List (List Code)) → Res (List (List Code)) → List ℕ → List ℕ
both_paint w (refuse n) y px = px
both_paint w (ok xs) (refuse n) px = px
both_paint w (ok xs) (ok ys) px = paint_field w w ys (paint_field w 0 xs px)

-- n rows that stay 0
abbrev pub blank_rows : ℕ → List (List Code)
blank_rows n = replicate n []

-- a map of l pixels holds n rows 0, 2, .. and m rows 1, 3, .. of width w
abbrev pub BothFit : ℕ → ℕ → ℕ → ℕ → Type 0
BothFit l w n m = (w ≤ l) × (n * (2 * w) ≤ l + w) × (m * (2 * w) ≤ l)

-- what decoding the rows x of the one and y of the other leaves
pub record BothDecoded (w : ℕ) (x y : Res (List (List Code))) (px : List ℕ) (r : Res Counts) (px' : List ℕ) : Type 0 where
  pub answer : r ≡ both_answer w x y
  pub pixels : px' ≡ both_paint w x y px
