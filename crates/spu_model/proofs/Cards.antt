-- Closed inputs on which each edit of this crate's definitions gives another value. Assumes nothing.
use Prim.Native.Nat.{ℕ}
use mathlib.Core.Path.{◌≡◌, refl}
use mathlib.Core.Bool.{false}
use mathlib.Core.List.{List, [], ◌∷◌}
use lib.ListN.{get_or}
use Rattle.outcome.specs.Outcome.{Res, ok, refuse, refusal_of, short_pixels}
use Rattle.outcome.specs.Lists.{list_fuel, list_from}
use Rattle.grammar.specs.Bytes.{word, nibble, nibbles}
use Rattle.grammar.specs.Bands.{entry_words, band_words}
use Rattle.grammar.specs.Rows.{code, paints, overshoots, after_codes, align}
use Rattle.grammar.specs.Pixels.{codes_in, clipped_row, clipped_in}
use Rattle.grammar.specs.Control.{area, Block}
use Rattle.grammar.specs.Record.{told, commands_of, commands_in, first_delay, last_delay, last_numbers, stands, all_bands}
use Rattle.grammar.specs.Picture.{top_end}
use Rattle.rle_model.specs.Codes.{code_from, code_at, row_at, field_at}
use Rattle.rle_model.specs.Field.{rows_from}
use Rattle.rle_model.specs.Fields.{weave, lower_at, fields_at}
use Rattle.control_model.specs.Chain.{plain_at, change_at, order_at, command_at, commands_at, block_at, blocks_at, head_fits, chain_at, control_at}
use Rattle.bands_model.specs.Bands.{bands_of, entries_of, header, entry_of}
use Rattle.control_model.specs.Listed.{held, bands_at}
use Rattle.control_model.specs.Few.{few_at}
use Rattle.control_model.specs.Answers.{spu_of}
use Rattle.spu_model.specs.Unit.{has_bottom, rows_at, unit_at, unit_in}
use Rattle.spu_model.specs.Answers.{spu_answer, record_given, unit_map}
use Rattle.spu_model.specs.declared.Record.{Record}

-- no bottom field at offset 0
pub no-bottom : has_bottom 9 0 ≡ false
no-bottom = refl

-- an area of two pixels, and one row of two codes, the second a run of two
abbrev blocks : List Block
blocks = record { place = 0; delay = 0; next = 0; commands = record { place = 4; order = area 0 1 0 0 } ∷ [] } ∷ []

pub two_codes :
    spu_answer (ok (record { blocks = blocks; rows = (code 0 1 5 ∷ code 1 1 9 ∷ []) ∷ [] }))
    ≡ ok (spu_of (told blocks) (record { codes = 2; clipped = 1 }))
unfolding codes_in clipped_in clipped_row overshoots paints told commands_of commands_in first_delay last_delay last_numbers stands all_bands
two_codes = refl

-- the unit `00 04 00 04` is none that is refused
pub least-unit : refusal_of (unit_at (0x00 ∷ 0x04 ∷ 0x00 ∷ 0x04 ∷ [])) ≡ 0
unfolding unit_at few_at rows_at fields_at lower_at field_at row_at code_at code_from rows_from weave paints after_codes align top_end list_from list_fuel word nibbles nibble plain_at change_at order_at command_at commands_at block_at blocks_at head_fits chain_at control_at told commands_of commands_in first_delay last_delay last_numbers stands all_bands
least-unit = refl

-- a refusal stores nothing
pub as_found : unit_map (refuse short_pixels) ≡ []
as_found = refl

-- a unit with one band of one entry: the record has its six words, then 0 up to the last
abbrev one_band : List ℕ
one_band =
    0x00 ∷ 0x17 ∷ 0x00 ∷ 0x05 ∷ 0x70 ∷ 0x00 ∷ 0x00 ∷ 0x00 ∷ 0x05 ∷ 0x07 ∷ 0x00 ∷ 0x0C ∷ 0x00 ∷ 0x03 ∷ 0x10 ∷ 0x04
    ∷ 0x00 ∷ 0x05 ∷ 0x01 ∷ 0x23 ∷ 0x45 ∷ 0x67 ∷ 0xFF ∷ []

abbrev words_in : Res Record → List ℕ
words_in (ok r) = r.bands
words_in (refuse n) = []

abbrev at : ℕ → ℕ
at i = get_or (words_in (record_given (unit_in one_band 1))) i 9

pub one_band-record : at 0 ∷ at 1 ∷ at 2 ∷ at 3 ∷ at 4 ∷ at 5 ∷ at 6 ∷ at 1535 ∷ at 1536 ∷ []
    ≡ 3 ∷ 4 ∷ 1 ∷ 5 ∷ 0x0123 ∷ 0x4567 ∷ 0 ∷ 0 ∷ 9 ∷ []
unfolding unit_in few_at rows_at fields_at lower_at field_at row_at code_at code_from rows_from weave paints after_codes align top_end list_from list_fuel word nibbles nibble band_words entry_words bands_at bands_of entries_of header entry_of held plain_at change_at order_at command_at commands_at block_at blocks_at head_fits chain_at control_at told commands_of commands_in first_delay last_delay last_numbers stands all_bands
one_band-record = refl
