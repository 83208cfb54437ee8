-- The unit that is written for a picture, or the refusal: 27 to 31 (FORMAT 7). Assumes nothing: these are definitions.
use Rattle.std.specs.Prelude.{ℕ, ◌+◌, ◌-◌, ◌*◌, ◌/◌, ◌%◌, ◌<◌, Bool, true, ◌&&◌, List, [], ◌∷◌, ◌++◌, length, eqb, leb}
use Rattle.outcome.specs.Outcome.{Res, ok, check, and_then, bad_side, not_all_indices, bad_index, long_unit, short_output}
use Rattle.grammar.specs.Picture.{evens, odds}
use Rattle.demo_model.specs.Codes.{Mark, packed, picture_rows, field_nibbles, last_marks}

-- a word, the high byte first
abbrev pub word_bytes : ℕ → List ℕ
word_bytes n = n / 256 ∷ n % 256 ∷ []

-- the control block at C of a picture of width w and height h whose bottom field is at b (FORMAT 7.1)
abbrev pub control_bytes : ℕ → ℕ → ℕ → ℕ → List ℕ
control_bytes C w h b =
    0 ∷ 0 ∷ C / 256 ∷ C % 256
    ∷ 0x03 ∷ 0x01 ∷ 0x32
    ∷ 0x04 ∷ 0x0F ∷ 0xFF
    ∷ 0x05 ∷ 0 ∷ (w - 1) / 256 ∷ (w - 1) % 256 ∷ 0 ∷ (h - 1) / 256 ∷ (h - 1) % 256
    ∷ 0x06 ∷ 0 ∷ 4 ∷ b / 256 ∷ b % 256
    ∷ 0x01
    ∷ 0xFF
    ∷ []

-- its head, its fields, and its control block
abbrev pub unit_bytes : ℕ → ℕ → List ℕ → List ℕ → List ℕ
unit_bytes w h top bottom =
    let fields = packed (top ++ bottom) in
    let C = 4 + length fields in
    word_bytes (C + 24) ++ (word_bytes C ++ (fields ++ control_bytes C w h (4 + length top / 2)))

module _ (last : ℕ → ℕ → List Mark) where
  -- the nibbles of the two fields
  abbrev pub top_nibbles : ℕ → ℕ → List ℕ → List ℕ
  top_nibbles w h px = field_nibbles last (evens (picture_rows w h px))

  abbrev pub bottom_nibbles : ℕ → ℕ → List ℕ → List ℕ
  bottom_nibbles w h px = field_nibbles last (odds (picture_rows w h px))

  unfoldable pub unit_of : ℕ → ℕ → List ℕ → List ℕ
  unit_of w h px = unit_bytes w h (top_nibbles w h px) (bottom_nibbles w h px)

abbrev pub is_side : ℕ → Bool
is_side n = leb 1 n && leb n 4096

unfoldable pub all_colours : List ℕ → Bool
all_colours [] = true
all_colours (x ∷ px) = leb x 3 && all_colours px

-- the same as a condition: every pixel has one of four colours
unfoldable pub Four : List ℕ → Type 0
Four [] = Unit {0}
Four (x ∷ px) = (x < 4) × Four px

-- what is asked first refuses first (FORMAT 9)
unfoldable pub picture_ok : ℕ → ℕ → List ℕ → Res (Unit {0})
picture_ok w h px =
    check (is_side w && is_side h) bad_side (check (eqb (length px) (w * h)) not_all_indices (check (all_colours px) bad_index (ok tt)))

-- the unit of a picture that may be written, with n bytes of output
unfoldable pub sized_unit : ℕ → ℕ → List ℕ → ℕ → Res (List ℕ)
sized_unit w h px n =
    check (leb (length (unit_of last_marks w h px)) 65535) long_unit (check (leb (length (unit_of last_marks w h px)) n) short_output (ok (unit_of last_marks w h px)))

unfoldable pub demo_at : ℕ → ℕ → List ℕ → ℕ → Res (List ℕ)
demo_at w h px n = and_then (picture_ok w h px) (λ t. sized_unit w h px n)
