-- Closed inputs on which each edit of this crate's definitions gives another value. Assumes nothing.
use Prim.Native.Nat.{ℕ}
use mathlib.Core.Path.{◌≡◌, refl}
use mathlib.Core.Bool.{true, false}
use Rattle.std.specs.Prelude.{Some as some, None as none}
use mathlib.Core.List.{List, [], ◌∷◌}
use lib.IntN.{pos, negsuc}
use Rattle.outcome.specs.Outcome.{refusal_of, no_unit, long_instant}
use Rattle.outcome.specs.Lists.{list_fuel, list_from}
use Rattle.grammar.specs.Bytes.{word, nibble, nibbles}
use Rattle.grammar.specs.IndexCues.{Cue, cue_at, duration_of}
use Rattle.grammar.specs.Packets.{unit_of}
use Rattle.grammar.specs.Rows.{paints, after_codes, align}
use Rattle.grammar.specs.Picture.{top_end}
use Rattle.grammar.specs.Control.{start, stop, Block}
use Rattle.grammar.specs.Record.{told, commands_of, commands_in, first_delay, last_delay, last_numbers, stands, all_bands}
use Rattle.ps_model.specs.OnePacket.{packet_at, kind_at, private_at, pack_at, kept_at, body_at, header_at, header1_at, leading}
use Rattle.ps_model.specs.Packets.{packets_at, is_bare, form_at}
use Rattle.clock_model.specs.Clock.{times_stay}
use Rattle.rle_model.specs.Codes.{code_from, code_at, row_at, field_at}
use Rattle.rle_model.specs.Field.{rows_from}
use Rattle.rle_model.specs.Fields.{weave, lower_at, fields_at}
use Rattle.control_model.specs.Chain.{plain_at, change_at, order_at, command_at, commands_at, block_at, blocks_at, head_fits, chain_at, control_at}
use Rattle.control_model.specs.Few.{few_at}
use Rattle.control_model.specs.Answers.{spu_of}
use Rattle.spu_model.specs.Unit.{rows_at, unit_at}
use Rattle.listing_model.specs.Lines.{digits_in, decimal, shown_line, refused_line, cues_line, index_line, file_line}
use Rattle.listing_model.specs.Title.{shown_at, form_for, unit_for, timed_for, shown_for}
use Rattle.listing_model.specs.Answers.{record_shown}
use Rattle.rle_model.specs.Answers.{nothing}

-- a start with delay 7, and a stop with delay 9
abbrev blocks : List Block
blocks =
    record { place = 0; delay = 7; next = 1; commands = record { place = 4; order = start } ∷ [] }
    ∷ record { place = 1; delay = 9; next = 0; commands = record { place = 5; order = stop } ∷ [] }
    ∷ []

-- of listed blocks, and of their record
pub delays-listed :
    ((shown_at (pos 0) none (record { blocks = blocks; rows = [] })).start_delay ≡ 7)
    × ((shown_at (pos 0) none (record { blocks = blocks; rows = [] })).stop_delay ≡ 9)
unfolding told commands_of commands_in first_delay last_delay last_numbers stands all_bands
delays-listed = (refl, refl)

pub delays-recorded : ((record_shown (pos 0) none (spu_of (told blocks) nothing)).start_delay ≡ 7) × ((record_shown (pos 0) none (spu_of (told blocks) nothing)).stop_delay ≡ 9)
unfolding spu_of told commands_of commands_in first_delay last_delay last_numbers stands all_bands
delays-recorded = (refl, refl)

-- `1 -2 3 4 5 6 7 8 9 10`: the fields of a line in their order; and one of a cue without a duration
pub cue_line_lem :
    (shown_line 1 (record { start = negsuc 1; duration = some 3; start_delay = 8; stop_delay = 9; started = true; stopped = true; show = some (pos 91020); hide = some (pos 102398); x1 = 4; y1 = 5; width = 6; height = 7; codes = 10; clipped = 0 }) ≡ 49 ∷ 32 ∷ 45 ∷ 50 ∷ 32 ∷ 51 ∷ 32 ∷ 52 ∷ 32 ∷ 53 ∷ 32 ∷ 54 ∷ 32 ∷ 55 ∷ 32 ∷ 56 ∷ 32 ∷ 57 ∷ 32 ∷ 49 ∷ 48 ∷ 10 ∷ [])
    × (shown_line 0 (record { start = pos 12; duration = none; start_delay = 0; stop_delay = 0; started = false; stopped = false; show = none; hide = none; x1 = 0; y1 = 0; width = 1; height = 1; codes = 1; clipped = 0 }) ≡ 48 ∷ 32 ∷ 49 ∷ 50 ∷ 32 ∷ 45 ∷ 32 ∷ 48 ∷ 32 ∷ 48 ∷ 32 ∷ 49 ∷ 32 ∷ 49 ∷ 32 ∷ 48 ∷ 32 ∷ 48 ∷ 32 ∷ 49 ∷ 10 ∷ [])
unfolding shown_line decimal digits_in
cue_line_lem = (refl, refl)

-- `1 refused 20`, `cues 2`, `index refused 3` and `file refused`
pub other-lines :
    (refused_line 1 20 ≡ 49 ∷ 32 ∷ 114 ∷ 101 ∷ 102 ∷ 117 ∷ 115 ∷ 101 ∷ 100 ∷ 32 ∷ 50 ∷ 48 ∷ 10 ∷ [])
    × (cues_line 2 ≡ 99 ∷ 117 ∷ 101 ∷ 115 ∷ 32 ∷ 50 ∷ 10 ∷ [])
    × (index_line 3 ≡ 105 ∷ 110 ∷ 100 ∷ 101 ∷ 120 ∷ 32 ∷ 114 ∷ 101 ∷ 102 ∷ 117 ∷ 115 ∷ 101 ∷ 100 ∷ 32 ∷ 51 ∷ 10 ∷ [])
    × (file_line ≡ 102 ∷ 105 ∷ 108 ∷ 101 ∷ 32 ∷ 114 ∷ 101 ∷ 102 ∷ 117 ∷ 115 ∷ 101 ∷ 100 ∷ 10 ∷ [])
unfolding refused_line cues_line index_line file_line decimal digits_in
other-lines = (refl, refl, refl, refl)

-- a unit of stream 0 is listed, and one of stream 1 is not
abbrev under : ℕ → List ℕ
under x = 0x00 ∷ 0x00 ∷ 0x01 ∷ 0xBD ∷ 0x00 ∷ 0x06 ∷ 0x80 ∷ 0x00 ∷ 0x00 ∷ x ∷ 0x00 ∷ 0x02 ∷ []

abbrev cue : Cue
cue = record { start = pos 0; position = 0 }

pub stream-listed : (refusal_of (form_for (cue ∷ []) (under 0x20) 0) ≡ 0) × (refusal_of (form_for (cue ∷ []) (under 0x21) 0) ≡ no_unit)
unfolding form_for cue_at form_at is_bare packets_at packet_at kind_at private_at pack_at kept_at body_at header_at header1_at leading list_from list_fuel word
stream-listed = (refl, refl)

-- a unit that starts a tick after its cue's start is refused with 33 where that leaves, and listed a microsecond before
abbrev late : List ℕ
late = 0x00 ∷ 0x0A ∷ 0x00 ∷ 0x04 ∷ 0x00 ∷ 0x01 ∷ 0x00 ∷ 0x04 ∷ 0x01 ∷ 0xFF ∷ []

abbrev from : ℕ → List Cue
from z = record { start = pos z; position = 0 } ∷ []

pub late-listed :
    (refusal_of (shown_for (from 9223372036854764430) late 0) ≡ 0)
    × (refusal_of (shown_for (from 9223372036854764431) late 0) ≡ long_instant)
unfolding shown_for timed_for times_stay unit_for unit_at few_at cue_at duration_of form_at is_bare unit_of rows_at fields_at lower_at field_at row_at code_at code_from rows_from weave paints after_codes align top_end list_from list_fuel word nibbles nibble plain_at change_at order_at command_at commands_at block_at blocks_at head_fits chain_at control_at told commands_of commands_in first_delay last_delay last_numbers stands all_bands
late-listed = (refl, refl)
