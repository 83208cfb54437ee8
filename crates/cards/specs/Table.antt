-- The table of cards: bytes, what the definitions make of them, and what that should be. Each layer has its part.
-- Assumes nothing: these are definitions.
use Rattle.std.specs.Prelude.{ℕ, suc, ◌-◌, ◌*◌, ◌/◌, true, false, cond, List, [], ◌∷◌, ◌++◌, length, replicate, ℤ, pos, negsuc}
use Rattle.std.specs.Prelude.{Option, Some as some, None as none}
use Rattle.outcome.specs.Outcome.{Res, ok, refuse, need, listed, bad_position}
use Rattle.grammar.specs.IndexParts.{colon}
use Rattle.grammar.specs.IndexCues.{Cue}
use Rattle.grammar.specs.Reading.{wanted, Shown, shown, canvas_of}
use Rattle.idx_numbers_model.specs.Numbers.{position_of}
use Rattle.idx_numbers_model.specs.Parts.{split}
use Rattle.idx_lines_model.specs.Lines.{timestamp_of}
use Rattle.idx_lines_model.specs.Answers.{time_at}
use Rattle.grammar.specs.Parts.{Part}
use Rattle.grammar.specs.Index.{Said, size, palette, timestamp, timestamp_word, filepos_word, start_of}
use Rattle.grammar.specs.Rows.{colour, paints, overshoots}
use Rattle.grammar.specs.Pixels.{codes_in, clipped_in, index_map}
use Rattle.grammar.specs.Control.{forced_start, stop, selectors, alphas, area, offsets, colours, Block}
use Rattle.grammar.specs.Packets.{unit_of}
use Rattle.grammar.specs.Record.{told, delay_of, width, height}
use Rattle.rle_model.specs.Codes.{code_at}
use Rattle.rle_model.specs.Nibbles.{nibble_at, past_nibble, on_byte}
use Rattle.rle_model.specs.Field.{decoded, paint_field}
use Rattle.rle_model.specs.Answers.{nothing, field_counts}
use Rattle.control_model.specs.Chain.{command}
use Rattle.control_model.specs.Answers.{spu_of}
use Rattle.control_model.specs.declared.Spu.{Spu}
use Rattle.ps_model.specs.Unit.{stream_unit}
use Rattle.spu_model.specs.Unit.{unit_at}
use Rattle.vobsub_model.specs.Call.{Lent, lent, reading_in}
use Rattle.listing_model.specs.Lines.{refused_line}
use Rattle.listing_model.specs.Lines as line
use Rattle.listing_model.specs.Title.{unit_for, title_lines}
use Rattle.demo_model.specs.Codes.{last_marks, packed}
use Rattle.demo_model.specs.Unit.{top_nibbles, demo_at}

pub record Card : Type 0 where
  pub got : List ℕ
  pub want : List ℕ

abbrev card : List ℕ → List ℕ → Card
card g w = record { got = g; want = w }

-- 0 and the values of what was accepted, or the number of the refusal
abbrev outcome : {A : Type 0} → (A → List ℕ) → Res A → List ℕ
outcome f (ok a) = 0 ∷ f a
outcome f (refuse n) = n ∷ []

-- the code at the front of s: its nibbles, how many of 1,000 pixels it paints, their colour, and whether it is clipped
-- with one pixel less than a quarter of its number left, and with just as many
unfoldable pub code : List ℕ → List ℕ
code s =
    outcome
    (λ c.
    c.size ∷ paints 1000 c ∷ colour c ∷ cond (overshoots (c.value / 4 - 1) c) 1 0
    ∷ cond (overshoots (c.value / 4) c) 1 0 ∷ [])
    (code_at s (length s) 0)

-- a reader of the nibbles of s at count p: the nibble that it reads, the count after that, and the count that it aligns to
unfoldable pub reader : List ℕ → ℕ → List ℕ
reader s p = outcome (λ n. n ∷ []) (nibble_at s p) ++ past_nibble s p ∷ on_byte p ∷ []

-- the field s read into the rows start, start + 2, .. of the map px: the numbers of codes and of clipped ones, and the
-- map
unfoldable pub field : List ℕ → ℕ → ℕ → ℕ → List ℕ → List ℕ
field s w h start px =
    outcome (λ rs. (field_counts w rs).codes ∷ (field_counts w rs).clipped ∷ paint_field w (start * w) rs px)
    (decoded s w h start px)

-- the map px with the rows of a top field and then those of a bottom field in it
unfoldable pub fields : List ℕ → List ℕ → ℕ → ℕ → List ℕ → List ℕ
fields top bottom w h px =
    paint_field w w (listed (decoded bottom w h 1 px)) (paint_field w 0 (listed (decoded top w h 0 px)) px)

-- the unit u, with no map lent: width, height, selectors, alphas, both delays, the numbers of codes and of
-- clipped ones, and the map
unfoldable pub unit : List ℕ → List ℕ
unit u =
    outcome
    (λ l.
    let t = told l.blocks in
    width t ∷ height t ∷ t.selected ∷ t.alpha ∷ delay_of t.starts ∷ delay_of t.stops ∷ codes_in l.rows
    ∷ clipped_in (width t) l.rows ∷ index_map (width t) l.rows)
    (unit_at u)

-- the unit of stream s at the front of the file f, with 65,535 bytes of scratch
unfoldable pub found : ℕ → List ℕ → List ℕ
found s f = outcome unit_of (stream_unit s f 0 65535)

-- the number of codes of the unit at the front of the file f
unfoldable pub held : List ℕ → List ℕ
held f = outcome (λ l. codes_in l.rows ∷ []) (unit_for f 0)

-- the unit that is written for a picture, with 65,535 bytes of output, and its top field
unfoldable pub written : ℕ → ℕ → List ℕ → List ℕ
written w h px = outcome (λ u. u) (demo_at w h px 65535)

unfoldable pub upper : ℕ → ℕ → List ℕ → List ℕ
upper w h px = packed (top_nibbles last_marks w h px)

-- a block that gives everything but a stop, and one that stops
abbrev blocks : List Block
blocks =
    record {
      place = 0;
      delay = 7;
      next = 1;
      commands = command 4 forced_start ∷ command 5 (selectors 11) ∷ command 8 (alphas 12) ∷ command 11 (area 1 3 2 4) ∷ command 18 (offsets 5 6) ∷ command 23 (colours 6 (record { place = 26; first = 0; last = 0; count = 0; entries = [] } ∷ [])) ∷ [];
    }
    ∷ record { place = 1; delay = 9; next = 0; commands = command 5 stop ∷ [] }
    ∷ []

-- a record, field by field
abbrev pub fields_of : Spu → List ℕ
fields_of s =
    s.x1 ∷ s.y1 ∷ s.x2 ∷ s.y2 ∷ s.palette_sel ∷ s.alpha ∷ cond s.started 1 0 ∷ s.start_delay_raw.0 ∷ cond s.stopped 1 0 ∷ s.stop_delay_raw.0
    ∷ cond s.forced_display 1 0 ∷ s.top_rle_off ∷ s.bot_rle_off ∷ cond s.saw_chg_colcon 1 0
    ∷ s.band_words ∷ s.codes ∷ s.clipped ∷ []

-- a signed number: 1 where it is below 0, and how far it is from 0
abbrev pub whole : ℤ → List ℕ
whole (pos n) = 0 ∷ n ∷ []
whole (negsuc n) = 1 ∷ suc n ∷ []

-- the position that these bytes say, and the start of a time in these bytes
unfoldable pub position : List ℕ → List ℕ
position s = outcome (λ v. v ∷ []) (need bad_position (position_of s))

unfoldable pub start : List ℕ → List ℕ
start s = outcome whole (time_at (split colon 0 s))

-- the digits 256204778, and one more
abbrev pub hours : ℕ → List ℕ
hours d = 50 ∷ 53 ∷ 54 ∷ 50 ∷ 48 ∷ 52 ∷ 55 ∷ 55 ∷ 56 ∷ d ∷ []

-- the index text `timestamp: 00:00:01:000, filepos: 0`, and the unit of 2 by 2
unfoldable pub small_text : List ℕ
small_text = 116 ∷ 105 ∷ 109 ∷ 101 ∷ 115 ∷ 116 ∷ 97 ∷ 109 ∷ 112 ∷ 58 ∷ 32 ∷ 48 ∷ 48 ∷ 58 ∷ 48 ∷ 48 ∷ 58 ∷ 48 ∷ 49 ∷ 58 ∷ 48 ∷ 48 ∷ 48 ∷ 44 ∷ 32 ∷ 102 ∷ 105 ∷ 108 ∷ 101 ∷ 112 ∷ 111 ∷ 115 ∷ 58 ∷ 32 ∷ 48 ∷ []

unfoldable pub small_file : List ℕ
small_file =
    0x00 ∷ 0x21 ∷ 0x00 ∷ 0x09 ∷ 0x00 ∷ 0x01 ∷ 0x60 ∷ 0x00 ∷ 0x30 ∷ 0x00 ∷ 0x00 ∷ 0x00 ∷ 0x09 ∷ 0x03 ∷ 0x01 ∷ 0x32 ∷ 0x04 ∷ 0x0F ∷ 0xFF ∷ 0x05 ∷ 0x00 ∷ 0x00 ∷ 0x01 ∷ 0x00 ∷ 0x00
    ∷ 0x01 ∷ 0x06 ∷ 0x00 ∷ 0x04 ∷ 0x00 ∷ 0x06 ∷ 0x01 ∷ 0xFF ∷ []

-- a cue for that unit, from z on, and what is shown of it
abbrev pub cue_from : ℕ → Cue
cue_from z = record { start = pos z; position = 0 }

abbrev pub shown_from : ℕ → Shown
shown_from z =
    record {
      start = pos z;
      duration = none;
      start_delay = 0;
      stop_delay = 0;
      started = true;
      stopped = false;
      show = some (pos z);
      hide = none;
      x1 = 0;
      y1 = 0;
      width = 2;
      height = 2;
      codes = 3;
      clipped = 0;
    }

-- the first cue of a text and a file, with so much of each buffer lent: start, whether it lasts and how long, both
-- delays, whether a start and a stop command stand, whether it is shown and when, whether it is hidden and when,
-- origin, size, the numbers of codes and of clipped ones, and the canvas (FORMAT 6)
abbrev lasting : Option ℕ → List ℕ
lasting none = 0 ∷ []
lasting (some d) = 1 ∷ d ∷ []

abbrev timed : Option ℤ → List ℕ
timed none = 0 ∷ []
timed (some z) = 1 ∷ whole z

abbrev pub shows : Shown → List ℕ
shows s =
    whole s.start ++ lasting s.duration ++ s.start_delay ∷ s.stop_delay
    ∷ cond s.started 1 0 ∷ cond s.stopped 1 0 ∷ timed s.show ++ timed s.hide
    ++ s.x1 ∷ s.y1 ∷ s.width ∷ s.height ∷ s.codes ∷ s.clipped ∷ []

unfoldable pub cue : List ℕ → List ℕ → Lent → List ℕ
cue text file b = outcome (λ r. shows (shown r) ++ canvas_of r) (reading_in text file (wanted 0 0) b)

-- all that is written of the title with this index text and this file
unfoldable pub title : List ℕ → List ℕ → List ℕ
title text file = title_lines true text file

-- the start that a timestamp with these parts says: the digits 256204778 and one more, and `filepos: 0`
abbrev start_in : Option Said → List ℕ
start_in none = []
start_in (some (size l w h)) = []
start_in (some (palette l ts)) = []
start_in (some (timestamp l ps fs n)) = whole (start_of fs)

abbrev part : ℕ → List ℕ → Part
part p s = record { place = p; bytes = s }

unfoldable pub stamped : ℕ → List ℕ
stamped d =
    outcome start_in
    (timestamp_of (part 0 []) (part 11 (hours d) ∷ part 23 (102 ∷ 105 ∷ 108 ∷ 101 ∷ 112 ∷ 111 ∷ 115 ∷ 58 ∷ 32 ∷ 48 ∷ []) ∷ []))

-- the start and the position that a timestamp with the parts `0` and `filepos:` with these digits says
abbrev place_in : Option Said → List ℕ
place_in none = []
place_in (some (size l w h)) = []
place_in (some (palette l ts)) = []
place_in (some (timestamp l ps fs n)) = whole (start_of fs) ++ n.value ∷ []

unfoldable pub placed : List ℕ → List ℕ
placed d = outcome place_in (timestamp_of (part 0 []) (part 10 (48 ∷ []) ∷ part 12 (filepos_word ++ d) ∷ []))

unfoldable pub bytes : List Card
bytes =
    -- each length of code at its least and its greatest run, and a fill (FORMAT 5.2 to 5.4, 5.11)
    card (code (0xF0 ∷ [])) (0 ∷ 1 ∷ 3 ∷ 3 ∷ 1 ∷ 0 ∷ [])
    ∷ card (code (0x10 ∷ [])) (0 ∷ 2 ∷ 4 ∷ 0 ∷ 1 ∷ 0 ∷ [])
    ∷ card (code (0x3F ∷ [])) (0 ∷ 2 ∷ 15 ∷ 3 ∷ 1 ∷ 0 ∷ [])
    ∷ card (code (0x04 ∷ 0x00 ∷ [])) (0 ∷ 3 ∷ 16 ∷ 0 ∷ 1 ∷ 0 ∷ [])
    ∷ card (code (0x0F ∷ 0xF0 ∷ [])) (0 ∷ 3 ∷ 63 ∷ 3 ∷ 1 ∷ 0 ∷ [])
    ∷ card (code (0x01 ∷ 0x00 ∷ [])) (0 ∷ 4 ∷ 64 ∷ 0 ∷ 1 ∷ 0 ∷ [])
    ∷ card (code (0x03 ∷ 0xFF ∷ [])) (0 ∷ 4 ∷ 255 ∷ 3 ∷ 1 ∷ 0 ∷ [])
    ∷ card (code (0x00 ∷ 0xF7 ∷ [])) (0 ∷ 4 ∷ 1000 ∷ 3 ∷ 0 ∷ 0 ∷ [])
    -- a reader of one byte at each of its halves, the high one first, at the end, and past it (FORMAT 5.1, 5.6)
    ∷ card (reader (0xA5 ∷ []) 0) (0 ∷ 10 ∷ 1 ∷ 0 ∷ [])
    ∷ card (reader (0xA5 ∷ []) 1) (0 ∷ 5 ∷ 2 ∷ 2 ∷ [])
    ∷ card (reader (0xA5 ∷ []) 2) (26 ∷ 2 ∷ 2 ∷ [])
    ∷ card (reader (0xA5 ∷ []) 3) (26 ∷ 3 ∷ 4 ∷ [])
    -- a run of 64, and a fill of what is left of 65
    ∷ card (field (0x01 ∷ 0x01 ∷ 0x00 ∷ 0x02 ∷ []) 65 1 0 (replicate 65 0)) (0 ∷ 2 ∷ 0 ∷ replicate 64 1 ++ 2 ∷ [])
    -- rows 0 and 2 of three, and rows 1 and 3 of four: each next row two on, from a byte
    ∷ card (field (0x5F ∷ 0xAF ∷ []) 1 3 0 (9 ∷ 9 ∷ 9 ∷ [])) (0 ∷ 2 ∷ 1 ∷ 1 ∷ 9 ∷ 2 ∷ [])
    ∷ card (field (0x5A ∷ 0x7F ∷ []) 2 4 1 (replicate 8 9)) (0 ∷ 4 ∷ 2 ∷ 9 ∷ 9 ∷ 1 ∷ 2 ∷ 9 ∷ 9 ∷ 3 ∷ 3 ∷ [])
    -- 2 by 2, 1 1 2 3: the top field, the bottom field, and both in a map that has one byte more
    ∷ card (field (0x00 ∷ 0x01 ∷ []) 2 2 0 (9 ∷ 9 ∷ 9 ∷ 9 ∷ [])) (0 ∷ 1 ∷ 0 ∷ 1 ∷ 1 ∷ 9 ∷ 9 ∷ [])
    ∷ card (field (0x60 ∷ 0x00 ∷ 0x30 ∷ []) 2 2 1 (9 ∷ 9 ∷ 9 ∷ 9 ∷ [])) (0 ∷ 2 ∷ 0 ∷ 9 ∷ 9 ∷ 2 ∷ 3 ∷ [])
    ∷ card (fields (0x00 ∷ 0x01 ∷ []) (0x60 ∷ 0x00 ∷ 0x30 ∷ []) 2 2 (0 ∷ 0 ∷ 0 ∷ 0 ∷ 9 ∷ [])) (1 ∷ 1 ∷ 2 ∷ 3 ∷ 9 ∷ [])
    -- a unit of four bytes: 1 by 1, its own first bytes are the field; one whose control offset is past its end; no bytes at all
    ∷ card (unit (0x00 ∷ 0x04 ∷ 0x00 ∷ 0x04 ∷ [])) (0 ∷ 1 ∷ 1 ∷ 0 ∷ 0 ∷ 0 ∷ 0 ∷ 1 ∷ 0 ∷ 0 ∷ [])
    ∷ card (unit (0x00 ∷ 0x04 ∷ 0x00 ∷ 0x05 ∷ [])) (16 ∷ [])
    ∷ card (unit []) (15 ∷ [])
    -- 2 by 2, 1 1 2 3, as a whole unit: selectors 0 1 3 2, alphas 0 F F F
    ∷ card
    (unit
    (0x00 ∷ 0x21 ∷ 0x00 ∷ 0x09 ∷ 0x00 ∷ 0x01 ∷ 0x60 ∷ 0x00 ∷ 0x30 ∷ 0x00 ∷ 0x00 ∷ 0x00 ∷ 0x09 ∷ 0x03 ∷ 0x01 ∷ 0x32 ∷ 0x04 ∷ 0x0F ∷ 0xFF ∷ 0x05 ∷ 0x00 ∷ 0x00 ∷ 0x01 ∷ 0x00 ∷ 0x00
    ∷ 0x01 ∷ 0x06 ∷ 0x00 ∷ 0x04 ∷ 0x00 ∷ 0x06 ∷ 0x01 ∷ 0xFF ∷ []))
    (0 ∷ 2 ∷ 2 ∷ 0x0132 ∷ 0x0FFF ∷ 0 ∷ 0 ∷ 3 ∷ 0 ∷ 1 ∷ 1 ∷ 2 ∷ 3 ∷ [])
    -- a unit bare, for streams 0, 31 and 32; one kept by a packet, for the stream of its id and for another; a packet
    -- that keeps two bytes 0, and so an empty unit; no packet, and no file
    ∷ card (found 0 (0x00 ∷ 0x04 ∷ 0x00 ∷ 0x04 ∷ [])) (0 ∷ 0x00 ∷ 0x04 ∷ 0x00 ∷ 0x04 ∷ [])
    ∷ card (found 31 (0x00 ∷ 0x04 ∷ 0x00 ∷ 0x04 ∷ [])) (0 ∷ 0x00 ∷ 0x04 ∷ 0x00 ∷ 0x04 ∷ [])
    ∷ card (found 32 (0x00 ∷ 0x04 ∷ 0x00 ∷ 0x04 ∷ [])) (32 ∷ [])
    ∷ card (found 0 (0x00 ∷ 0x00 ∷ 0x01 ∷ 0xBD ∷ 0x00 ∷ 0x08 ∷ 0x80 ∷ 0x00 ∷ 0x00 ∷ 0x20 ∷ 0x00 ∷ 0x04 ∷ 0x00 ∷ 0x04 ∷ [])) (0 ∷ 0x00 ∷ 0x04 ∷ 0x00 ∷ 0x04 ∷ [])
    ∷ card (found 1 (0x00 ∷ 0x00 ∷ 0x01 ∷ 0xBD ∷ 0x00 ∷ 0x08 ∷ 0x80 ∷ 0x00 ∷ 0x00 ∷ 0x20 ∷ 0x00 ∷ 0x04 ∷ 0x00 ∷ 0x04 ∷ [])) (13 ∷ [])
    ∷ card (found 0 (0x00 ∷ 0x00 ∷ 0x01 ∷ 0xBD ∷ 0x00 ∷ 0x06 ∷ 0x80 ∷ 0x00 ∷ 0x00 ∷ 0x20 ∷ 0x00 ∷ 0x00 ∷ [])) (0 ∷ [])
    ∷ card (found 0 (0x00 ∷ 0x03 ∷ 0x00 ∷ 0x04 ∷ [])) (13 ∷ [])
    -- those two packets read on: one code of the kept unit, and 15 for the empty one
    ∷ card (held (0x00 ∷ 0x00 ∷ 0x01 ∷ 0xBD ∷ 0x00 ∷ 0x08 ∷ 0x80 ∷ 0x00 ∷ 0x00 ∷ 0x20 ∷ 0x00 ∷ 0x04 ∷ 0x00 ∷ 0x04 ∷ [])) (0 ∷ 1 ∷ [])
    ∷ card (held (0x00 ∷ 0x00 ∷ 0x01 ∷ 0xBD ∷ 0x00 ∷ 0x06 ∷ 0x80 ∷ 0x00 ∷ 0x00 ∷ 0x20 ∷ 0x00 ∷ 0x00 ∷ [])) (15 ∷ [])
    ∷ card (found 0 []) (12 ∷ [])
    -- each value of what was told in its field of the record
    ∷ card (fields_of (spu_of (told blocks) (record { codes = 13; clipped = 8 })))
    (1 ∷ 2 ∷ 3 ∷ 4 ∷ 11 ∷ 12 ∷ 1 ∷ 7 ∷ 1 ∷ 9 ∷ 1 ∷ 5 ∷ 6 ∷ 1 ∷ 3 ∷ 13 ∷ 8 ∷ [])
    ∷ card (fields_of (spu_of (told []) nothing)) (replicate 17 0)
    -- positions `10` and `10000000000000000`; 2562047788 hours stand, 2562047789 do not; `-1` is an hour before 0 (FORMAT 1.7, 1.8)
    ∷ card (position (49 ∷ 48 ∷ [])) (0 ∷ 16 ∷ [])
    ∷ card (position (49 ∷ replicate 16 48)) (0 ∷ 10000000000000000 ∷ [])
    ∷ card (start (hours 56)) (0 ∷ 0 ∷ 9223372036800000000 ∷ [])
    ∷ card (start (hours 57)) (8 ∷ [])
    ∷ card (start (45 ∷ 49 ∷ [])) (0 ∷ 1 ∷ 3600000000 ∷ [])
    -- a written unit; a run of 64 before the row's end, and the fill at it; a side of 0, an index too few, an index of 4
    ∷ card (written 2 2 (1 ∷ 1 ∷ 2 ∷ 3 ∷ [])) (0 ∷ 0x00 ∷ 0x21 ∷ 0x00 ∷ 0x09 ∷ 0x00 ∷ 0x01 ∷ 0x60 ∷ 0x00 ∷ 0x30 ∷ 0x00 ∷ 0x00 ∷ 0x00 ∷ 0x09 ∷ 0x03 ∷ 0x01 ∷ 0x32 ∷ 0x04 ∷ 0x0F ∷ 0xFF ∷ 0x05 ∷ 0x00 ∷ 0x00 ∷ 0x01 ∷ 0x00 ∷ 0x00 ∷ 0x01 ∷ 0x06 ∷ 0x00 ∷ 0x04 ∷ 0x00 ∷ 0x06 ∷ 0x01 ∷ 0xFF ∷ [])
    ∷ card (upper 65 1 (replicate 64 1 ++ (2 ∷ []))) (0x01 ∷ 0x01 ∷ 0x00 ∷ 0x02 ∷ [])
    ∷ card (written 0 1 []) (27 ∷ [])
    ∷ card (written 2 1 (0 ∷ [])) (28 ∷ [])
    ∷ card (written 1 1 (4 ∷ [])) (29 ∷ [])
    ∷ []

unfoldable pub lines : List Card
lines =
    -- a start below 0; the least start; a refused cue, and no file (FORMAT 8)
    card (line.signed (negsuc 0)) (45 ∷ 49 ∷ [])
    ∷ card (line.signed (negsuc 9223372036854775807)) (45 ∷ 57 ∷ 50 ∷ 50 ∷ 51 ∷ 51 ∷ 55 ∷ 50 ∷ 48 ∷ 51 ∷ 54 ∷ 56 ∷ 53 ∷ 52 ∷ 55 ∷ 55 ∷ 53 ∷ 56 ∷ 48 ∷ 56 ∷ [])
    ∷ card (refused_line 10 26) (49 ∷ 48 ∷ 32 ∷ 114 ∷ 101 ∷ 102 ∷ 117 ∷ 115 ∷ 101 ∷ 100 ∷ 32 ∷ 50 ∷ 54 ∷ 10 ∷ [])
    ∷ card (title_lines false [] []) (102 ∷ 105 ∷ 108 ∷ 101 ∷ 32 ∷ 114 ∷ 101 ∷ 102 ∷ 117 ∷ 115 ∷ 101 ∷ 100 ∷ 10 ∷ [])
    ∷ []

-- the title of the picture of 2 by 2: `cues 1` and `0 1000000 - 0 0 2 2 0 0 3`
unfoldable pub small_title : Card
small_title = card (title small_text small_file) (99 ∷ 117 ∷ 101 ∷ 115 ∷ 32 ∷ 49 ∷ 10 ∷ 48 ∷ 32 ∷ 49 ∷ 48 ∷ 48 ∷ 48 ∷ 48 ∷ 48 ∷ 48 ∷ 32 ∷ 45 ∷ 32 ∷ 48 ∷ 32 ∷ 48 ∷ 32 ∷ 50 ∷ 32 ∷ 50 ∷ 32 ∷ 48 ∷ 32 ∷ 48 ∷ 32 ∷ 51 ∷ 10 ∷ [])

-- and its canvas, with exactly what it needs of each buffer
unfoldable pub small_painted : Card
small_painted =
    card (cue small_text small_file (lent [] (replicate 4 9) (replicate 16 9)))
    (0 ∷ 0 ∷ 1000000 ∷ 0 ∷ 0 ∷ 0 ∷ 1 ∷ 0 ∷ 1 ∷ 0 ∷ 1000000 ∷ 0 ∷ 0 ∷ 0 ∷ 2 ∷ 2 ∷ 3 ∷ 0
    ∷ 0 ∷ 0 ∷ 0 ∷ 255 ∷ 0 ∷ 0 ∷ 0 ∷ 255 ∷ 0 ∷ 0 ∷ 0 ∷ 255 ∷ 0 ∷ 0 ∷ 0 ∷ 255 ∷ [])

-- both with an index of no bytes: `cues 1` and `0 0 - 0 0 2 2 0 0 3`, and the canvas in greys
unfoldable pub alone_title : Card
alone_title =
    card (title [] small_file)
    (99 ∷ 117 ∷ 101 ∷ 115 ∷ 32 ∷ 49 ∷ 10
    ∷ 48 ∷ 32 ∷ 48 ∷ 32 ∷ 45 ∷ 32 ∷ 48 ∷ 32 ∷ 48 ∷ 32 ∷ 50 ∷ 32 ∷ 50 ∷ 32 ∷ 48 ∷ 32 ∷ 48 ∷ 32 ∷ 51 ∷ 10 ∷ [])

unfoldable pub alone_painted : Card
alone_painted =
    card (cue [] small_file (lent [] (replicate 4 9) (replicate 16 9)))
    (0 ∷ 0 ∷ 0 ∷ 0 ∷ 0 ∷ 0 ∷ 1 ∷ 0 ∷ 1 ∷ 0 ∷ 0 ∷ 0 ∷ 0 ∷ 0 ∷ 2 ∷ 2 ∷ 3 ∷ 0
    ∷ 17 ∷ 17 ∷ 17 ∷ 255 ∷ 17 ∷ 17 ∷ 17 ∷ 255 ∷ 51 ∷ 51 ∷ 51 ∷ 255 ∷ 34 ∷ 34 ∷ 34 ∷ 255 ∷ [])

-- a unit that starts a tick after its cue's start and stops nine ticks after it: 1 by 1, shown at 1011377 and hidden
-- at 1102400
unfoldable pub timed_file : List ℕ
timed_file =
    0x00 ∷ 0x10 ∷ 0x00 ∷ 0x04 ∷ 0x00 ∷ 0x01 ∷ 0x00 ∷ 0x0A ∷ 0x01 ∷ 0xFF ∷ 0x00 ∷ 0x09 ∷ 0x00 ∷ 0x0A ∷ 0x02 ∷ 0xFF ∷ []

unfoldable pub timed_painted : Card
timed_painted =
    card (cue small_text timed_file (lent [] (9 ∷ []) (replicate 4 9)))
    (0 ∷ 0 ∷ 1000000 ∷ 0 ∷ 1 ∷ 9 ∷ 1 ∷ 1 ∷ 1 ∷ 0 ∷ 1011377 ∷ 1 ∷ 0 ∷ 1102400 ∷ 0 ∷ 0 ∷ 1 ∷ 1 ∷ 1 ∷ 0
    ∷ 0 ∷ 0 ∷ 0 ∷ 0 ∷ [])

-- 2562047788 hours in a timestamp, and one hour more
unfoldable pub hours_stand : Card
hours_stand = card (stamped 56) (0 ∷ 0 ∷ 9223372036800000000 ∷ [])

unfoldable pub hours_leave : Card
hours_leave = card (stamped 57) (8 ∷ [])

-- positions that are stored and that are not: `FFFFFFFF` is a cue, `100000000` and the 17 digits `10000000000000000`
-- are 41 (FORMAT 1.8)
unfoldable pub places : List Card
places =
    card (placed (replicate 8 70)) (0 ∷ 0 ∷ 0 ∷ 4294967295 ∷ [])
    ∷ card (placed (49 ∷ replicate 8 48)) (41 ∷ [])
    ∷ card (placed (49 ∷ replicate 16 48)) (41 ∷ [])
    ∷ []

-- the index text `timestamp:0,filepos:100000000`, and its title: `index refused 41`
unfoldable pub text_41 : List ℕ
text_41 = timestamp_word ++ 48 ∷ 44 ∷ filepos_word ++ 49 ∷ replicate 8 48

unfoldable pub title_41 : Card
title_41 =
    card (title text_41 [])
    (105 ∷ 110 ∷ 100 ∷ 101 ∷ 120 ∷ 32 ∷ 114 ∷ 101 ∷ 102 ∷ 117 ∷ 115 ∷ 101 ∷ 100 ∷ 32 ∷ 52 ∷ 49 ∷ 10 ∷ [])

-- all of them
abbrev pub table : List Card
table =
    hours_stand ∷ hours_leave ∷ small_painted ∷ small_title ∷ alone_painted ∷ alone_title ∷ timed_painted ∷ title_41
    ∷ places ++ bytes ++ lines
