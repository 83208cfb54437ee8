-- Every card of the table holds: one computation over those of bytes and one over those of lines, the title of 2 by 2
-- in three steps, with its index and with one of no bytes, its canvas from its reading, and each card from these.
-- Assumes nothing.
use Prim.Native.Nat.{ℕ}
use mathlib.Core.Path.{◌≡◌, refl, sym, ap, ap₂, ◌∙◌}
use mathlib.Core.Bool.{true}
use mathlib.Core.List.{List, [], ◌∷◌, ◌++◌, map}
use lib.ListN.{get_or, replicate}
use Rattle.outcome.specs.Outcome.{ok, refuse, large_position}
use Rattle.outcome.specs.Lists.{list_fuel, list_from}
use Rattle.grammar.specs.Bytes.{word, nibble, nibbles}
use Rattle.grammar.specs.Rows.{paints, overshoots, after_codes, align}
use Rattle.grammar.specs.Pixels.{row_pixels, codes_in, clipped_row, clipped_in, index_map}
use Rattle.grammar.specs.Record.{told, commands_of, commands_in, first_delay, last_delay, last_numbers, stands, all_bands}
use Rattle.grammar.specs.Picture.{top_end}
use Rattle.grammar.specs.Packets.{joined, unit_of}
use Rattle.ps_model.specs.OnePacket.{leading, header1_at, header_at, body_at, kept_at, pack_at, private_at, kind_at, packet_at}
use Rattle.ps_model.specs.Packets.{packets_at, is_bare, form_at}
use Rattle.ps_model.specs.Unit.{stream_unit}
use Rattle.ps_model.specs.Unit as PsUnit
use Rattle.rle_model.specs.Codes.{code_from, code_at, row_at, field_at}
use Rattle.rle_model.specs.Field.{rows_from, paint_field, decoded}
use Rattle.rle_model.specs.Answers.{row_counts, field_counts}
use Rattle.rle_model.specs.Fields.{weave, lower_at, fields_at}
use Rattle.control_model.specs.Few.{few_at}
use Rattle.control_model.specs.Chain.{plain_at, change_at, order_at, command_at, commands_at, block_at, blocks_at, head_fits, chain_at, control_at}
use Rattle.grammar.specs.Bands.{entry_words, band_words}
use Rattle.control_model.specs.Answers.{spu_of}
use Rattle.spu_model.specs.Unit.{rows_at, unit_at}
use Rattle.grammar.specs.IndexNumbers.{numeral}
use Rattle.grammar.specs.Index.{start_of}
use Rattle.idx_numbers_model.specs.Parts.{front, rest, all, shorn, trim, split, strip}
use Rattle.clock_model.specs.Sums.{checked}
use Rattle.idx_numbers_model.specs.Numbers.{unsigned, signed, bare}
use Rattle.grammar.specs.IndexCues.{cues_of_lines, cue_at, duration_of}
use Rattle.idx_lines_model.specs.Lines.{steps, first_such, last_such, parts_at}
use Rattle.idx_model.specs.Text.{lines_in, text_in, idx_in}
use Rattle.listing_model.specs.Lines.{digits_in, decimal, shown_line, refused_line, cues_line, index_line, file_line}
use Rattle.clock_model.specs.Clock.{times_stay}
use Rattle.listing_model.specs.Title.{unit_for, timed_for, shown_for, readable, cues_in, cue_lines, title_lines}
use Rattle.idx_lines_model.specs.Lines as TextLines
use Rattle.idx_lines_model.specs.Answers.{time_at}
use Rattle.grammar.specs.Picture.{evens}
use Rattle.demo_model.specs.Codes.{runs, cut, marks_of, digits, nibbles_of, packed, picture_rows, field_nibbles}
use Rattle.demo_model.specs.Unit.{all_colours, picture_ok, sized_unit, demo_at}
use Rattle.demo_model.specs.Unit as demo
use native.Mathlib.Omega.{arith}
use Rattle.grammar.specs.Reading.{wanted}
use Rattle.grammar.proofs.Readings as readings
use Rattle.vobsub_model.specs.Call.{lent}
use Rattle.vobsub_model.proofs.Claim.{reading-iff}
use Rattle.cards.specs.Table.{Card, code, reader, field, fields, unit, found, held, written, upper, position, start, stamped, hours_stand, hours_leave, small_text, small_file, cue_from, shown_from, shows, cue, title, small_title, small_painted, alone_title, alone_painted, timed_file, timed_painted, placed, places, text_41, title_41, bytes, lines, table}

abbrev got_of : List Card → List (List ℕ)
got_of = map (λ (c : Card). c.got)

abbrev want_of : List Card → List (List ℕ)
want_of = map (λ (c : Card). c.want)

bytes-hold : got_of bytes ≡ want_of bytes
unfolding bytes code reader field fields unit found held unit_for written upper evens runs cut marks_of digits nibbles_of packed picture_rows field_nibbles all_colours picture_ok sized_unit demo_at demo.unit_of position start numeral start_of all split unsigned signed bare TextLines.fields steps time_at joined unit_of leading header1_at header_at body_at kept_at pack_at private_at kind_at packet_at packets_at is_bare form_at PsUnit.unit_at stream_unit list_fuel list_from word nibble nibbles paints overshoots after_codes align row_pixels codes_in clipped_row clipped_in index_map top_end code_from code_at row_at field_at rows_from paint_field decoded row_counts field_counts weave lower_at fields_at plain_at change_at order_at command_at commands_at block_at blocks_at head_fits chain_at control_at few_at spu_of entry_words band_words rows_at unit_at told commands_of commands_in first_delay last_delay last_numbers stands all_bands
bytes-hold = refl

lines-hold : got_of lines ≡ want_of lines
unfolding lines title_lines cue_lines front rest shorn trim strip checked cues_of_lines cue_at duration_of first_such last_such parts_at TextLines.line_of lines_in text_in idx_in digits_in decimal shown_line refused_line cues_line file_line unit_for shown_for code field fields unit found written upper evens runs cut marks_of digits nibbles_of packed picture_rows field_nibbles all_colours picture_ok sized_unit demo_at demo.unit_of position start numeral start_of all split unsigned signed bare TextLines.fields steps time_at joined unit_of leading header1_at header_at body_at kept_at pack_at private_at kind_at packet_at packets_at is_bare form_at PsUnit.unit_at stream_unit list_fuel list_from word nibble nibbles paints overshoots after_codes align row_pixels codes_in clipped_row clipped_in index_map top_end code_from code_at row_at field_at rows_from paint_field decoded row_counts field_counts weave lower_at fields_at plain_at change_at order_at command_at commands_at block_at blocks_at head_fits chain_at control_at few_at spu_of entry_words band_words rows_at unit_at told commands_of commands_in first_delay last_delay last_numbers stands all_bands
lines-hold = refl

-- a time at the end of its range, and one past it
stand-holds : hours_stand.got ≡ hours_stand.want
unfolding hours_stand stamped front rest shorn trim strip checked cues_of_lines cue_at duration_of first_such last_such parts_at TextLines.line_of lines_in text_in idx_in numeral start_of all split unsigned signed bare TextLines.fields steps time_at
stand-holds = refl

leave_holds : hours_leave.got ≡ hours_leave.want
unfolding hours_leave stamped front rest shorn trim strip checked cues_of_lines cue_at duration_of first_such last_such parts_at TextLines.line_of lines_in text_in idx_in numeral start_of all split unsigned signed bare TextLines.fields steps time_at
leave_holds = refl

-- positions at the end of what is stored, and past it
places-hold : got_of places ≡ want_of places
unfolding places placed front rest shorn trim strip checked cues_of_lines cue_at duration_of first_such last_such parts_at TextLines.line_of lines_in text_in idx_in numeral start_of all split unsigned signed bare TextLines.fields steps time_at
places-hold = refl

cues_41 : cues_in text_41 ≡ refuse large_position
unfolding text_41 front rest shorn trim strip checked cues_of_lines cue_at duration_of first_such last_such parts_at TextLines.line_of lines_in text_in idx_in numeral start_of all split unsigned signed bare TextLines.fields steps time_at
cues_41 = refl

readable-41 : readable true text_41 [] ≡ true
unfolding text_41
readable-41 = refl

line-41 : index_line large_position ++ [] ≡ title_41.want
unfolding title_41 index_line decimal digits_in
line-41 = refl

title_41-holds : title_41.got ≡ title_41.want
unfolding title_41 title title_lines cue_lines
title_41-holds = rw (readable-41, cues_41) line-41

-- the title of 2 by 2: its cues, what is shown of its unit from two starts on, and its line
small-cues : cues_in small_text ≡ ok (cue_from 1000000 ∷ [])
unfolding small_text front rest shorn trim strip checked cues_of_lines cue_at duration_of first_such last_such parts_at TextLines.line_of lines_in text_in idx_in digits_in decimal shown_line refused_line cues_line file_line unit_for shown_for code field fields unit found written upper evens runs cut marks_of digits nibbles_of packed picture_rows field_nibbles all_colours picture_ok sized_unit demo_at demo.unit_of position start numeral start_of all split unsigned signed bare TextLines.fields steps time_at joined unit_of leading header1_at header_at body_at kept_at pack_at private_at kind_at packet_at packets_at is_bare form_at PsUnit.unit_at stream_unit list_fuel list_from word nibble nibbles paints overshoots after_codes align row_pixels codes_in clipped_row clipped_in index_map top_end code_from code_at row_at field_at rows_from paint_field decoded row_counts field_counts weave lower_at fields_at plain_at change_at order_at command_at commands_at block_at blocks_at head_fits chain_at control_at few_at spu_of entry_words band_words rows_at unit_at told commands_of commands_in first_delay last_delay last_numbers stands all_bands
small-cues = refl

unit-shows : (shown_for (cue_from 1000000 ∷ []) small_file 0 ≡ ok (shown_from 1000000))
    × (shown_for (cue_from 0 ∷ []) small_file 0 ≡ ok (shown_from 0))
unfolding small_file front rest shorn trim strip checked cues_of_lines cue_at duration_of first_such last_such parts_at TextLines.line_of lines_in text_in idx_in digits_in decimal shown_line refused_line cues_line file_line unit_for timed_for times_stay shown_for code field fields unit found written upper evens runs cut marks_of digits nibbles_of packed picture_rows field_nibbles all_colours picture_ok sized_unit demo_at demo.unit_of position start numeral start_of all split unsigned signed bare TextLines.fields steps time_at joined unit_of leading header1_at header_at body_at kept_at pack_at private_at kind_at packet_at packets_at is_bare form_at PsUnit.unit_at stream_unit list_fuel list_from word nibble nibbles paints overshoots after_codes align row_pixels codes_in clipped_row clipped_in index_map top_end code_from code_at row_at field_at rows_from paint_field decoded row_counts field_counts weave lower_at fields_at plain_at change_at order_at command_at commands_at block_at blocks_at head_fits chain_at control_at few_at spu_of entry_words band_words rows_at unit_at told commands_of commands_in first_delay last_delay last_numbers stands all_bands
unit-shows = (refl, refl)

small_line : (cues_line 1 ++ (shown_line 0 (shown_from 1000000) ++ [])) ≡ small_title.want
unfolding small_title front rest shorn trim strip checked cues_of_lines cue_at duration_of first_such last_such parts_at TextLines.line_of lines_in text_in idx_in digits_in decimal shown_line refused_line cues_line file_line unit_for shown_for code field fields unit found written upper evens runs cut marks_of digits nibbles_of packed picture_rows field_nibbles all_colours picture_ok sized_unit demo_at demo.unit_of position start numeral start_of all split unsigned signed bare TextLines.fields steps time_at joined unit_of leading header1_at header_at body_at kept_at pack_at private_at kind_at packet_at packets_at is_bare form_at PsUnit.unit_at stream_unit list_fuel list_from word nibble nibbles paints overshoots after_codes align row_pixels codes_in clipped_row clipped_in index_map top_end code_from code_at row_at field_at rows_from paint_field decoded row_counts field_counts weave lower_at fields_at plain_at change_at order_at command_at commands_at block_at blocks_at head_fits chain_at control_at few_at spu_of entry_words band_words rows_at unit_at told commands_of commands_in first_delay last_delay last_numbers stands all_bands
small_line = refl

small-readable : readable true small_text small_file ≡ true
unfolding small_text small_file
small-readable = refl

small-holds : small_title.got ≡ small_title.want
unfolding small_title title title_lines cue_lines
small-holds = rw (small-readable, small-cues, unit-shows.0) small_line

-- its reading is a closed term that passes the grammar, and so the one that is found
small-paints : small_painted.got ≡ small_painted.want
unfolding small_painted cue small_text small_file told commands_of commands_in first_delay last_delay last_numbers stands all_bands
small-paints =
    rw ((reading-iff small_text small_file (wanted 0 0) (lent [] (replicate 4 9) (replicate 16 9)) readings.small).1
    (readings.small-passes 0 (omega arith), record { for_unit = omega arith; for_map = omega arith; for_canvas = omega arith }))
    (λ i. 0 ∷ shows (readings.small-shown i) ++ readings.small-canvas i)

-- the same file with an index of no bytes
alone-cues : cues_in [] ≡ ok (cue_from 0 ∷ [])
unfolding idx_in
alone-cues = refl

alone-line : (cues_line 1 ++ (shown_line 0 (shown_from 0) ++ [])) ≡ alone_title.want
unfolding alone_title cues_line shown_line decimal digits_in
alone-line = refl

alone-readable : readable true [] small_file ≡ true
unfolding small_file
alone-readable = refl

alone-holds : alone_title.got ≡ alone_title.want
unfolding alone_title title title_lines cue_lines
alone-holds = rw (alone-readable, alone-cues, unit-shows.1) alone-line

alone-paints : alone_painted.got ≡ alone_painted.want
unfolding alone_painted cue small_file told commands_of commands_in first_delay last_delay last_numbers stands all_bands
alone-paints =
    rw ((reading-iff [] small_file (wanted 0 0) (lent [] (replicate 4 9) (replicate 16 9)) readings.alone).1 (
      readings.alone-passes 0 (omega arith),
      record {
        for_unit = omega arith;
        for_map = omega arith;
        for_canvas = omega arith;
      },
    ))
    (λ i. 0 ∷ shows (readings.alone-shown i) ++ readings.alone-canvas i)

-- the file of one that is shown and hidden
timed-paints : timed_painted.got ≡ timed_painted.want
unfolding timed_painted cue small_text timed_file told commands_of commands_in first_delay last_delay last_numbers stands all_bands
timed-paints =
    rw ((reading-iff small_text timed_file (wanted 0 0) (lent [] (9 ∷ []) (replicate 4 9)) readings.timed).1 (
      readings.timed-passes,
      record {
        for_unit = omega arith;
        for_map = omega arith;
        for_canvas = omega arith;
      },
    ))
    (λ i. 0 ∷ shows (readings.timed-shown i) ++ readings.timed-canvas i)

map_both : (f : Card → List ℕ) (a b : List Card) → map f (a ++ b) ≡ map f a ++ map f b
map_both f [] b = refl
map_both f (c ∷ a) b = ap (λ (l : List (List ℕ)). f c ∷ l) (map_both f a b)

join : (a b : List Card) → got_of a ≡ want_of a → got_of b ≡ want_of b → got_of (a ++ b) ≡ want_of (a ++ b)
join a b p q =
    map_both (λ (c : Card). c.got) a b ∙ ap₂ (λ (x y : List (List ℕ)). x ++ y) p q
    ∙ sym (map_both (λ (c : Card). c.want) a b)

first : {x y : List ℕ} {l m : List (List ℕ)} → x ≡ y → l ≡ m → x ∷ l ≡ y ∷ m
first p q = ap₂ (λ (x : List ℕ) (l : List (List ℕ)). x ∷ l) p q

abbrev pub got : List (List ℕ)
got = got_of table

abbrev pub want : List (List ℕ)
want = want_of table

pub tabled : got ≡ want
tabled =
    first stand-holds
    (first leave_holds
    (first small-paints
    (first small-holds
    (first alone-paints
    (first alone-holds
    (first timed-paints
    (first title_41-holds
    (join (places ++ bytes) lines (join places bytes places-hold bytes-hold) lines-hold))))))))

pub each : (k : ℕ) → get_or got k [] ≡ get_or want k []
each k = ap (λ (l : List (List ℕ)). get_or l k []) tabled
