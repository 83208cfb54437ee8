-- The call refuses with a number of the table. Assumes nothing.
use Prim.Native.Nat.{ℕ, ◌*◌, ◌+◌}
use mathlib.Core.Path.{refl, ◌≡◌}
use Rattle.std.specs.Prelude.{None as none}
use mathlib.Core.List.{List, [], ◌∷◌, ◌++◌}
use lib.Dec.{leb}
use lib.IntN.{pos}
use lib.ListN.{length, replicate}
use Rattle.outcome.specs.Outcome.{InTable, Numbered, need, bad_stream, no_cue, many_bands, short_pixels, short_canvas, no_top_field, field_ran_out, long_instant, ok, refuse, refusal_of, bad_position, large_position, short_scratch, cut_parameters, small_size, no_band_list, unknown_command, no_area}
use Rattle.outcome.proofs.Numbers.{in_table, check-numbered, need-numbered, and_then-numbered, map_res-numbered}
use Rattle.grammar.specs.Record.{told, width, height, commands_of, commands_in, first_delay, last_delay, last_numbers, stands, all_bands}
use Rattle.grammar.specs.IndexCues.{cues_of_lines, cues_of, cue_at}
use Rattle.grammar.specs.Packets.{unit_of, joined, top_stream}
use Rattle.grammar.specs.Reading.{Wanted, wanted_id, wanted, told_by, reading_start}
use Rattle.idx_model.specs.Text.{idx_of, lines_in, text_in, idx_in}
use Rattle.idx_lines_model.proofs.Cards.{past_stored, stamp}
use Rattle.idx_model.proofs.Refusals.{text_numbered}
use Rattle.ps_model.specs.Unit.{unit_at}
use Rattle.ps_model.proofs.Refusals as ps
use Rattle.control_model.specs.Chain.{control_at, plain_at, change_at, order_at, command_at, commands_at, block_at, blocks_at, head_fits, chain_at}
use Rattle.control_model.specs.Few.{few_at}
use Rattle.control_model.proofs.Refusals.{few_numbered}
use Rattle.clock_model.specs.Clock.{times_stay, told_stay}
use Rattle.rle_model.specs.Codes.{code_from, code_at, row_at, field_at}
use Rattle.rle_model.specs.Field.{rows_from}
use Rattle.rle_model.specs.Fields.{weave, lower_at, fields_at}
use Rattle.grammar.specs.Rows.{paints, after_codes, align}
use Rattle.grammar.specs.Picture.{top_end}
use Rattle.spu_model.specs.Unit.{rows_at, listed_unit}
use Rattle.spu_model.proofs.Refusals.{rows-numbered}
use Rattle.vobsub_model.specs.Call.{Lent, found, found_for, canvas_in, timed_in, reading, listed_in, reading_in}
use Rattle.outcome.specs.Lists.{list_fuel, list_from}
use Rattle.grammar.specs.Bytes.{word, nibble, nibbles}
use Rattle.grammar.specs.IndexNumbers.{numeral}
use Rattle.grammar.specs.Index.{start_of}
use Rattle.idx_numbers_model.specs.Parts.{strip, trim, front, rest, shorn, split, all}
use Rattle.idx_numbers_model.specs.Numbers.{unsigned, signed, bare}
use Rattle.idx_lines_model.specs.Lines.{line_of, tokens, parts_at, first_such, last_such, fields, steps}
use Rattle.ps_model.specs.OnePacket.{packet_at, kind_at, private_at, pack_at, kept_at, body_at, header_at, header1_at, leading}
use Rattle.ps_model.specs.Packets.{form_at, is_bare, packets_at}
use Rattle.bands_model.specs.Bands.{bands_of, entries_of, header, entry_of}
use Rattle.control_model.specs.Listed.{held, bands_at}

found-numbered : (text file : List ℕ) (q : Wanted) (n : ℕ) → Numbered (found_for text file q n)
unfolding found_for
found-numbered text file q n =
    and_then-numbered InTable (idx_of text) _ (text_numbered none text)
    (λ index. check-numbered InTable (leb q.stream top_stream) bad_stream _ (in_table bad_stream refl)
    (and_then-numbered InTable (need no_cue (cue_at (cues_of index) q.cue)) _ (need-numbered InTable no_cue (cue_at (cues_of index) q.cue) (in_table no_cue refl))
    (λ c. map_res-numbered InTable (found index) (unit_at (wanted_id q) file c.position n) (ps.unit-numbered (wanted_id q) file c.position n))))

canvas_numbered : (u : List ℕ) (n k : ℕ) → Numbered (canvas_in u n k)
unfolding canvas_in
canvas_numbered u n k =
    and_then-numbered InTable (few_at u) _ (few_numbered u)
    (λ bs. check-numbered InTable (leb (width (told bs) * height (told bs)) n) short_pixels _ (in_table short_pixels refl)
    (check-numbered InTable (leb (4 * (width (told bs) * height (told bs))) k) short_canvas _ (in_table short_canvas refl)
    (map_res-numbered InTable (listed_unit bs) (rows_at u (told bs)) (rows-numbered u (told bs)))))

listed-numbered : (text file : List ℕ) (q : Wanted) (b : Lent) → Numbered (listed_in text file q b)
unfolding listed_in
listed-numbered text file q b =
    and_then-numbered InTable (found_for text file q (length b.scratch)) _ (found-numbered text file q (length b.scratch))
    (λ f. map_res-numbered InTable (reading q f) (canvas_in (unit_of f.form) (length b.pixels) (length b.canvas)) (canvas_numbered (unit_of f.form) (length b.pixels) (length b.canvas)))

pub reading-numbered : (text file : List ℕ) (q : Wanted) (b : Lent) → Numbered (reading_in text file q b)
unfolding reading_in
reading-numbered text file q b =
    and_then-numbered InTable (listed_in text file q b) _ (listed-numbered text file q b)
    (λ x. check-numbered InTable (told_stay (reading_start x) (told_by x)) long_instant (ok x) (in_table long_instant refl) tt)

-- each order of FORMAT 9 up to the unit: a text, a file, a cue, a stream and a length of scratch on which both are
-- true, and the number that is given
pub orders :
    -- 9, and 32: `timestamp:0,filepos:`
    (found_for (116 ∷ 105 ∷ 109 ∷ 101 ∷ 115 ∷ 116 ∷ 97 ∷ 109 ∷ 112 ∷ 58 ∷ 48 ∷ 44 ∷ 102 ∷ 105 ∷ 108 ∷ 101 ∷ 112 ∷ 111 ∷ 115 ∷ 58 ∷ []) [] (wanted 0 32) 0 ≡ refuse bad_position)
    -- and in a later line: `timestamp:0,filepos:0`, `timestamp:0,filepos:`
    × (found_for (116 ∷ 105 ∷ 109 ∷ 101 ∷ 115 ∷ 116 ∷ 97 ∷ 109 ∷ 112 ∷ 58 ∷ 48 ∷ 44 ∷ 102 ∷ 105 ∷ 108 ∷ 101 ∷ 112 ∷ 111 ∷ 115 ∷ 58 ∷ 48 ∷ 10 ∷ 116 ∷ 105 ∷ 109 ∷ 101 ∷ 115 ∷ 116 ∷ 97 ∷ 109 ∷ 112 ∷ 58 ∷ 48 ∷ 44 ∷ 102 ∷ 105 ∷ 108 ∷ 101 ∷ 112 ∷ 111 ∷ 115 ∷ 58 ∷ []) [] (wanted 0 32) 0 ≡ refuse bad_position)
    -- 32, and 11: a blank, so no cue
    × (found_for (32 ∷ []) [] (wanted 0 32) 0 ≡ refuse bad_stream)
    -- and no bytes, cue 1
    × (found_for [] [] (wanted 1 32) 0 ≡ refuse bad_stream)
    -- 32, and 12: `timestamp:0,filepos:0`, and no file
    × (found_for (116 ∷ 105 ∷ 109 ∷ 101 ∷ 115 ∷ 116 ∷ 97 ∷ 109 ∷ 112 ∷ 58 ∷ 48 ∷ 44 ∷ 102 ∷ 105 ∷ 108 ∷ 101 ∷ 112 ∷ 111 ∷ 115 ∷ 58 ∷ 48 ∷ []) [] (wanted 0 32) 0 ≡ refuse bad_stream)
    -- 11, and 12: a blank, so no cue, and no file
    × (found_for (32 ∷ []) [] (wanted 0 0) 0 ≡ refuse no_cue)
    -- and no bytes, cue 1
    × (found_for [] [] (wanted 1 0) 0 ≡ refuse no_cue)
    -- 9, and 11: `timestamp:0,filepos:`, and cue 7
    × (found_for (116 ∷ 105 ∷ 109 ∷ 101 ∷ 115 ∷ 116 ∷ 97 ∷ 109 ∷ 112 ∷ 58 ∷ 48 ∷ 44 ∷ 102 ∷ 105 ∷ 108 ∷ 101 ∷ 112 ∷ 111 ∷ 115 ∷ 58 ∷ []) [] (wanted 7 0) 0 ≡ refuse bad_position)
    -- 41, and 32: `timestamp:0,filepos:100000000`; and in a later line
    × (found_for (stamp past_stored) [] (wanted 0 32) 0 ≡ refuse large_position)
    × (found_for (stamp (48 ∷ []) ++ 10 ∷ stamp past_stored) [] (wanted 0 32) 0 ≡ refuse large_position)
    -- 41, and 11: cue 7
    × (found_for (stamp past_stored) [] (wanted 7 0) 0 ≡ refuse large_position)
    -- 41 in the second line, and 12 of the first cue: no file
    × (found_for (stamp (48 ∷ []) ++ 10 ∷ stamp past_stored) [] (wanted 0 0) 0 ≡ refuse large_position)
    -- 14, and 15: a packet that keeps a unit of 3 bytes, and 2 bytes of scratch
    × (found_for (116 ∷ 105 ∷ 109 ∷ 101 ∷ 115 ∷ 116 ∷ 97 ∷ 109 ∷ 112 ∷ 58 ∷ 48 ∷ 44 ∷ 102 ∷ 105 ∷ 108 ∷ 101 ∷ 112 ∷ 111 ∷ 115 ∷ 58 ∷ 48 ∷ []) (0x00 ∷ 0x00 ∷ 0x01 ∷ 0xBD ∷ 0x00 ∷ 0x07 ∷ 0x80 ∷ 0x00 ∷ 0x00 ∷ 0x20 ∷ 0x00 ∷ 0x03 ∷ 0x00 ∷ []) (wanted 0 0) 2 ≡ refuse short_scratch)
unfolding found_for unit_at form_at is_bare packets_at packet_at kind_at private_at pack_at kept_at body_at header_at header1_at leading list_from list_fuel word joined unit_of idx_in text_in lines_in line_of tokens strip trim front rest shorn split parts_at first_such last_such fields steps unsigned signed bare all numeral start_of cues_of_lines cue_at
orders = (refl, refl, refl, refl, refl, refl, refl, refl, refl, refl, refl, refl, refl)

-- a unit with one byte of field and one block, of these bytes after its head
abbrev unit : List ℕ → List ℕ
unit cs = 0x00 ∷ (9 + length cs) ∷ 0x00 ∷ 0x05 ∷ 0x70 ∷ 0x00 ∷ 0x00 ∷ 0x00 ∷ 0x05 ∷ cs

-- a colour change of 33 bands without entries, in front of these bytes
abbrev bands_33 : List ℕ → List ℕ
bands_33 cs = 0x07 ∷ 0x00 ∷ 0x86 ∷ replicate 132 0x00 ++ cs

-- and from the unit on: a unit and lengths of map and canvas
pub canvas_orders :
    -- 21, and 24
    (canvas_in (unit (0x05 ∷ 0x00 ∷ 0x10 ∷ 0x00 ∷ 0x00 ∷ 0x00 ∷ 0x00 ∷ 0xFF ∷ [])) 1 0 ≡ refuse no_area)
    -- 21, and 34
    × (canvas_in (unit (bands_33 (0x05 ∷ 0x00 ∷ 0x10 ∷ 0x00 ∷ 0x00 ∷ 0x00 ∷ 0x00 ∷ 0xFF ∷ []))) 1 4 ≡ refuse no_area)
    -- 34, and 22
    × (canvas_in (unit (bands_33 (0xFF ∷ []))) 0 4 ≡ refuse many_bands)
    -- 34, and 24
    × (canvas_in (unit (bands_33 (0xFF ∷ []))) 1 3 ≡ refuse many_bands)
    -- 34, and 25
    × (canvas_in (unit (bands_33 (0x06 ∷ 0xFF ∷ 0xFF ∷ 0x00 ∷ 0x00 ∷ 0xFF ∷ []))) 1 4 ≡ refuse many_bands)
    -- 34, and 26
    × (canvas_in (unit (bands_33 (0x06 ∷ 0x00 ∷ 0x05 ∷ 0x00 ∷ 0x00 ∷ 0xFF ∷ []))) 1 4 ≡ refuse many_bands)
    -- 22, and 24
    × (canvas_in (unit (0xFF ∷ [])) 0 0 ≡ refuse short_pixels)
    -- 24, and 25
    × (canvas_in (unit (0x06 ∷ 0xFF ∷ 0xFF ∷ 0x00 ∷ 0x00 ∷ 0xFF ∷ [])) 1 3 ≡ refuse short_canvas)
    -- 24, and 26
    × (canvas_in (unit (0x06 ∷ 0x00 ∷ 0x05 ∷ 0x00 ∷ 0x00 ∷ 0xFF ∷ [])) 1 3 ≡ refuse short_canvas)
unfolding canvas_in few_at rows_at list_from list_fuel word nibbles nibble bands_at bands_of entries_of header entry_of held plain_at change_at order_at command_at commands_at block_at blocks_at head_fits chain_at control_at told commands_of commands_in first_delay last_delay last_numbers stands all_bands
canvas_orders = (refl, refl, refl, refl, refl, refl, refl, refl, refl)

-- a unit that starts, a tick after its cue's start, with one byte of field and these bytes before the start
abbrev late : List ℕ → List ℕ
late cs = 0x00 ∷ (11 + length cs) ∷ 0x00 ∷ 0x05 ∷ 0x70 ∷ 0x00 ∷ 0x01 ∷ 0x00 ∷ 0x05 ∷ (cs ++ 0x01 ∷ 0xFF ∷ [])

-- and before 33: a cue at the last microsecond, so that its show time leaves, a unit and lengths; what is refused
-- before the unit is in `Late.earlier`
abbrev last : List ℕ → ℕ → ℕ → ℕ
last cs n k = refusal_of (timed_in (pos 9223372036854775807) (late cs) n k)

pub late-orders :
    -- 33 alone
    (last [] 1 4 ≡ long_instant)
    -- 17, 18 and 19, after a start
    × (last (0x01 ∷ 0x05 ∷ []) 1 4 ≡ cut_parameters)
    × (last (0x01 ∷ 0x07 ∷ 0x00 ∷ 0x01 ∷ []) 1 4 ≡ small_size)
    × (last (0x01 ∷ 0x07 ∷ 0x00 ∷ 0x03 ∷ 0x00 ∷ []) 1 4 ≡ no_band_list)
    -- 20
    × (last (0x08 ∷ []) 1 4 ≡ unknown_command)
    -- 21
    × (last (0x05 ∷ 0x00 ∷ 0x10 ∷ 0x00 ∷ 0x00 ∷ 0x00 ∷ 0x00 ∷ []) 1 4 ≡ no_area)
    -- 34
    × (last (bands_33 []) 1 4 ≡ many_bands)
    -- 22 and 24
    × (last [] 0 4 ≡ short_pixels)
    × (last [] 1 3 ≡ short_canvas)
    -- 25
    × (last (0x06 ∷ 0xFF ∷ 0xFF ∷ 0x00 ∷ 0x00 ∷ []) 1 4 ≡ no_top_field)
    -- 26
    × (last (0x06 ∷ 0x00 ∷ 0x05 ∷ 0x00 ∷ 0x00 ∷ []) 1 4 ≡ field_ran_out)
unfolding timed_in times_stay canvas_in few_at rows_at fields_at lower_at field_at row_at code_at code_from rows_from weave paints after_codes align top_end list_from list_fuel word nibbles nibble bands_at bands_of entries_of header entry_of held plain_at change_at order_at command_at commands_at block_at blocks_at head_fits chain_at control_at told commands_of commands_in first_delay last_delay last_numbers stands all_bands
late-orders = (refl, refl, refl, refl, refl, refl, refl, refl, refl, refl, refl)
