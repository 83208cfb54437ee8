-- Closed inputs on which each edit of this crate's definitions gives another value. Assumes nothing.
use mathlib.Core.Path.{◌≡◌, refl, ap}
use mathlib.Core.Bool.{true, false}
use Rattle.std.specs.Prelude.{Some as some, None as none}
use mathlib.Core.List.{List, [], ◌∷◌}
use lib.IntN.{pos}
use Rattle.outcome.specs.Outcome.{ok, refusal_of}
use Rattle.outcome.specs.Lists.{list_fuel, list_from}
use Rattle.grammar.specs.Bytes.{word, nibble, nibbles}
use Rattle.grammar.specs.IndexNumbers.{numeral}
use Rattle.grammar.specs.Index.{start_of}
use Rattle.grammar.specs.IndexCues.{cues_of_lines, cue_at, palette_of}
use Rattle.grammar.specs.Packets.{unit_of}
use Rattle.grammar.specs.Rows.{paints, after_codes, align}
use Rattle.grammar.specs.Control.{area, Block}
use Rattle.grammar.specs.Record.{told, commands_of, commands_in, first_delay, last_delay, last_numbers, stands, all_bands}
use Rattle.grammar.specs.Picture.{top_end}
use Rattle.grammar.specs.Reading.{Shown, wanted, shown, canvas_of}
use Rattle.grammar.proofs.Readings as readings
use Rattle.idx_numbers_model.specs.Parts.{strip, trim, front, rest, shorn, split, all}
use Rattle.idx_numbers_model.specs.Numbers.{unsigned, signed, bare}
use Rattle.idx_lines_model.specs.Lines.{line_of, parts_at, first_such, last_such, fields, steps}
use Rattle.idx_model.specs.Text.{lines_in, text_in, idx_in}
use Rattle.clock_model.specs.Answers.{micros}
use Rattle.idx_model.specs.declared.CueAnswer.{CueAnswer}
use Rattle.ps_model.specs.Packets.{is_bare, form_at}
use Rattle.ps_model.specs.Unit.{unit_at}
use Rattle.rle_model.specs.Codes.{code_from, code_at, row_at, field_at}
use Rattle.rle_model.specs.Field.{rows_from}
use Rattle.rle_model.specs.Fields.{weave, lower_at, fields_at}
use Rattle.control_model.specs.Few.{few_at}
use Rattle.control_model.specs.Chain.{plain_at, change_at, order_at, command_at, commands_at, block_at, blocks_at, head_fits, chain_at, control_at}
use Rattle.control_model.specs.Answers.{spu_of}
use Rattle.spu_model.specs.Unit.{rows_at}
use Rattle.clock_model.specs.Clock.{times_stay}
use Rattle.vobsub_model.specs.Call.{lent, found_for, canvas_in, listed_in, reading_in}
use Rattle.vobsub_model.specs.Answers.{canvas_stored, times_told, shown_of, shown_given, painted_of}
use Rattle.vobsub_model.specs.declared.Shown.{Shown as Recorded}

-- `timestamp:0,filepos:0` and the unit `00 04 00 04`, with a map of one pixel and its canvas, are not refused
pub least-title : refusal_of (reading_in (116 ∷ 105 ∷ 109 ∷ 101 ∷ 115 ∷ 116 ∷ 97 ∷ 109 ∷ 112 ∷ 58 ∷ 48 ∷ 44 ∷ 102 ∷ 105 ∷ 108 ∷ 101 ∷ 112 ∷ 111 ∷ 115 ∷ 58 ∷ 48 ∷ []) (0x00 ∷ 0x04 ∷ 0x00 ∷ 0x04 ∷ []) (wanted 0 0) (lent [] (9 ∷ []) (9 ∷ 9 ∷ 9 ∷ 9 ∷ []))) ≡ 0
unfolding reading_in listed_in times_stay found_for canvas_in few_at idx_in text_in lines_in line_of strip trim front rest shorn split parts_at first_such last_such fields steps unsigned signed bare all numeral start_of cues_of_lines cue_at unit_at form_at is_bare unit_of word rows_at fields_at lower_at field_at row_at code_at code_from rows_from weave paints after_codes align top_end list_from list_fuel nibbles nibble plain_at change_at order_at command_at commands_at block_at blocks_at head_fits chain_at control_at told commands_of commands_in first_delay last_delay last_numbers stands all_bands
least-title = refl

-- the canvas of the 2 by 2 title, from its reading and from its unit
pub small_painted : painted_of (ok readings.small) ≡ 0 ∷ 0 ∷ 0 ∷ 255 ∷ 0 ∷ 0 ∷ 0 ∷ 255 ∷ 0 ∷ 0 ∷ 0 ∷ 255 ∷ 0 ∷ 0 ∷ 0 ∷ 255 ∷ []
small_painted = readings.small-canvas

pub unit-painted : canvas_stored (palette_of (readings.small).text) (ok (readings.small).unit) ≡ 0 ∷ 0 ∷ 0 ∷ 255 ∷ 0 ∷ 0 ∷ 0 ∷ 255 ∷ 0 ∷ 0 ∷ 0 ∷ 255 ∷ 0 ∷ 0 ∷ 0 ∷ 255 ∷ []
unfolding canvas_of
unit-painted = readings.small-canvas

-- and that of its file with an index of no bytes
pub alone_painted :
    painted_of (ok readings.alone)
    ≡ 17 ∷ 17 ∷ 17 ∷ 255 ∷ 17 ∷ 17 ∷ 17 ∷ 255 ∷ 51 ∷ 51 ∷ 51 ∷ 255 ∷ 34 ∷ 34 ∷ 34 ∷ 255 ∷ []
alone_painted = readings.alone-canvas

-- what is shown of 3 by 4 at 1 2 with 5 codes, 2 of them clipped, from 7 on, shown at 8 and hidden at 9
abbrev values : Shown
values =
    record {
      start = pos 7;
      duration = none;
      start_delay = 3;
      stop_delay = 4;
      started = true;
      stopped = true;
      show = some (pos 8);
      hide = some (pos 9);
      x1 = 1;
      y1 = 2;
      width = 3;
      height = 4;
      codes = 5;
      clipped = 2;
    }

pub values-given :
    ((shown_given values).x1 ≡ 1) × ((shown_given values).y1 ≡ 2) × ((shown_given values).codes ≡ 5)
    × ((shown_given values).clipped ≡ 2)
unfolding shown_given
values-given = (refl, refl, refl, refl)

pub times-given :
    ((shown_given values).start.0 ≡ pos 7) × ((shown_given values).show ≡ some (micros (pos 8))) × ((shown_given values).hide ≡ some (micros (pos 9)))
    × ((shown_given values).start_delay.0 ≡ 3) × ((shown_given values).stop_delay.0 ≡ 4)
unfolding shown_given
times-given = (refl, refl, refl, refl, refl)

-- and of the reading that is shown and hidden
pub times-read :
    ((shown_given (shown readings.timed)).show ≡ some (micros (pos 1011377)))
    × ((shown_given (shown readings.timed)).hide ≡ some (micros (pos 1102400)))
unfolding shown_given
times-read = (
  ap (λ (s : Shown). (shown_given s).show) readings.timed-shown,
  ap (λ (s : Shown). (shown_given s).hide) readings.timed-shown,
)

-- and of the record of an area of 3 by 3 there
abbrev blocks : List Block
blocks = record { place = 0; delay = 0; next = 0; commands = record { place = 4; order = area 1 3 2 4 } ∷ [] } ∷ []

abbrev first : CueAnswer
first = record { start = micros (pos 0); position = 0; duration = none; has_palette = false; palette = [] }

abbrev recorded : Recorded
recorded = shown_of first (spu_of (told blocks) (record { codes = 5; clipped = 2 })) (times_told (pos 7) (told blocks))

pub values-recorded :
    (recorded.x1 ≡ 1) × (recorded.y1 ≡ 2) × (recorded.codes ≡ 5) × (recorded.clipped ≡ 2)
unfolding spu_of told commands_of commands_in first_delay last_delay last_numbers stands all_bands
values-recorded = (refl, refl, refl, refl)
