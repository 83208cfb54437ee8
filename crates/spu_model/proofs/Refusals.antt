-- A unit is refused with a number of the table. Assumes nothing.
use Prim.Native.Nat.{ℕ, ◌*◌, ◌+◌}
use mathlib.Core.Path.{refl, ◌≡◌}
use mathlib.Core.List.{List, [], ◌∷◌, ◌++◌}
use lib.Dec.{leb, ltb}
use lib.ListN.{length, replicate}
use Rattle.outcome.specs.Outcome.{InTable, RefusedWith, Numbered, many_bands, short_pixels, no_top_field, field_ran_out, refuse, no_area}
use Rattle.outcome.proofs.Numbers.{in_table, check-numbered, cond-numbered, only-numbered, and_then-numbered, map_res-numbered}
use Rattle.grammar.specs.Control.{length_word, control_word}
use Rattle.grammar.specs.Record.{Told, told, width, height, commands_of, commands_in, first_delay, last_delay, last_numbers, stands, all_bands}
use Rattle.grammar.specs.Picture.{top_end}
use Rattle.rle_model.specs.Codes.{field_at, code_from, code_at, row_at}
use Rattle.rle_model.specs.Field.{rows_from}
use Rattle.rle_model.proofs.Refusals.{field-refuses}
use Rattle.rle_model.specs.Fields.{lower_at, fields_at, weave}
use Rattle.control_model.specs.Chain.{control_at, plain_at, change_at, order_at, command_at, commands_at, block_at, blocks_at, head_fits, chain_at}
use Rattle.control_model.specs.Few.{few_at}
use Rattle.control_model.proofs.Refusals.{few_numbered}
use Rattle.spu_model.specs.Unit.{has_bottom, rows_at, listed_unit, unit_in}
use Rattle.outcome.specs.Lists.{list_fuel, list_from}
use Rattle.grammar.specs.Bytes.{word, nibble, nibbles}
use Rattle.grammar.specs.Rows.{paints, after_codes, align}
use Rattle.bands_model.specs.Bands.{bands_of, entries_of, header, entry_of}
use Rattle.control_model.specs.Listed.{held, bands_at}

-- rows are refused with 25 and 26 alone
module _ (P : ℕ → Type 0) (top : P no_top_field) (ran : P field_ran_out) where
  field-with : (u : List ℕ) (e w n p : ℕ) → RefusedWith P (field_at u e w n p)
  field-with u e w n p = only-numbered P field_ran_out ran (field_at u e w n p) (field-refuses u e w n p)

  pub rows-with : (u : List ℕ) (t : Told) → RefusedWith P (rows_at u t)
  unfolding rows_at fields_at lower_at
  rows-with u t =
      check-numbered P (ltb t.fields.top (length_word u)) no_top_field _ top
      (and_then-numbered P (field_at u (top_end (control_word u) t.fields) (width t) (rows_from 0 (height t)) (2 * t.fields.top)) _ (field-with u (top_end (control_word u) t.fields) (width t) (rows_from 0 (height t)) (2 * t.fields.top))
      (λ x. and_then-numbered P (lower_at u t.fields.bottom (control_word u) (has_bottom (control_word u) t.fields.bottom) (width t) (rows_from 1 (height t))) _
      (cond-numbered P (has_bottom (control_word u) t.fields.bottom) _ _ (field-with u (control_word u) (width t) (rows_from 1 (height t)) (2 * t.fields.bottom)) tt) (λ y. tt)))

pub rows-numbered : (u : List ℕ) (t : Told) → Numbered (rows_at u t)
rows-numbered = rows-with InTable (in_table no_top_field refl) (in_table field_ran_out refl)

pub unit-numbered : (u : List ℕ) (n : ℕ) → Numbered (unit_in u n)
unfolding unit_in
unit-numbered u n =
    and_then-numbered InTable (few_at u) _ (few_numbered u)
    (λ bs. check-numbered InTable (leb (width (told bs) * height (told bs)) n) short_pixels _ (in_table short_pixels refl)
    (map_res-numbered InTable (listed_unit bs) (rows_at u (told bs)) (rows-numbered u (told bs))))

-- a unit with one byte b of field and one block, of these bytes after its head
abbrev unit : ℕ → List ℕ → List ℕ
unit b cs = 0x00 ∷ (9 + length cs) ∷ 0x00 ∷ 0x05 ∷ b ∷ 0x00 ∷ 0x00 ∷ 0x00 ∷ 0x05 ∷ cs

-- a colour change of 33 bands without entries, in front of these bytes
abbrev bands_33 : List ℕ → List ℕ
bands_33 cs = 0x07 ∷ 0x00 ∷ 0x86 ∷ replicate 132 0x00 ++ cs

-- each order of FORMAT 9: a unit and a length of the map on which both are true, and the number that is given
pub orders :
    -- 21, and 34
    (unit_in (unit 0x70 (bands_33 (0x05 ∷ 0x00 ∷ 0x10 ∷ 0x00 ∷ 0x00 ∷ 0x00 ∷ 0x00 ∷ 0xFF ∷ []))) 1 ≡ refuse no_area)
    -- 21, and 22
    × (unit_in (unit 0x70 (0x05 ∷ 0x00 ∷ 0x20 ∷ 0x00 ∷ 0x00 ∷ 0x20 ∷ 0x00 ∷ 0xFF ∷ [])) 0 ≡ refuse no_area)
    -- 21, and 25
    × (unit_in (unit 0x70 (0x05 ∷ 0x00 ∷ 0x10 ∷ 0x00 ∷ 0x00 ∷ 0x00 ∷ 0x00 ∷ 0x06 ∷ 0xFF ∷ 0xFF ∷ 0x00 ∷ 0x00 ∷ 0xFF ∷ [])) 1 ≡ refuse no_area)
    -- 21, and 26
    × (unit_in (unit 0x70 (0x05 ∷ 0x00 ∷ 0x20 ∷ 0x00 ∷ 0x00 ∷ 0x00 ∷ 0x00 ∷ 0x06 ∷ 0x00 ∷ 0x05 ∷ 0x00 ∷ 0x00 ∷ 0xFF ∷ [])) 1 ≡ refuse no_area)
    -- 34, and 22
    × (unit_in (unit 0x70 (bands_33 (0x06 ∷ 0x00 ∷ 0x04 ∷ 0x00 ∷ 0x00 ∷ 0xFF ∷ []))) 0 ≡ refuse many_bands)
    -- 34, and 25
    × (unit_in (unit 0x70 (bands_33 (0x06 ∷ 0xFF ∷ 0xFF ∷ 0x00 ∷ 0x00 ∷ 0xFF ∷ []))) 1 ≡ refuse many_bands)
    -- 34, and 26
    × (unit_in (unit 0x70 (bands_33 (0x06 ∷ 0x00 ∷ 0x05 ∷ 0x00 ∷ 0x00 ∷ 0xFF ∷ []))) 1 ≡ refuse many_bands)
    -- 22, and 25
    × (unit_in (unit 0x70 (0x05 ∷ 0x00 ∷ 0x00 ∷ 0x01 ∷ 0x00 ∷ 0x00 ∷ 0x00 ∷ 0x06 ∷ 0xFF ∷ 0xFF ∷ 0x00 ∷ 0x00 ∷ 0xFF ∷ [])) 1 ≡ refuse short_pixels)
    -- 22, and 26
    × (unit_in (unit 0x60 (0x05 ∷ 0x00 ∷ 0x00 ∷ 0x01 ∷ 0x00 ∷ 0x00 ∷ 0x01 ∷ 0x06 ∷ 0x00 ∷ 0x05 ∷ 0x00 ∷ 0x04 ∷ 0xFF ∷ [])) 3 ≡ refuse short_pixels)
    -- 25, and 26
    × (unit_in (unit 0x56 (0x05 ∷ 0x00 ∷ 0x00 ∷ 0x01 ∷ 0x00 ∷ 0x00 ∷ 0x03 ∷ 0x06 ∷ 0x00 ∷ 0x16 ∷ 0x00 ∷ 0x04 ∷ 0xFF ∷ [])) 8 ≡ refuse no_top_field)
unfolding unit_in few_at rows_at fields_at lower_at field_at row_at code_at code_from rows_from weave paints after_codes align top_end list_from list_fuel word nibbles nibble bands_at bands_of entries_of header entry_of held plain_at change_at order_at command_at commands_at block_at blocks_at head_fits chain_at control_at told commands_of commands_in first_delay last_delay last_numbers stands all_bands
orders = (refl, refl, refl, refl, refl, refl, refl, refl, refl, refl)
