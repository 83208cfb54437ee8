-- Four whole readings as closed terms, that they pass, and what they give: the 2 by 2 title, bare; its file with an
-- index of no bytes; a title in packet form with a palette and a colour band; and one that is shown and hidden
-- (docs/GRAMMAR.md writes them out).
-- Assumes nothing.
use Prim.Native.Nat.{ℕ, ◌≤◌}
use native.Mathlib.Omega.{arith}
use mathlib.Core.Path.{◌≡◌, refl}
use mathlib.Core.Logic.{inl, inr}
use mathlib.Core.Bool.{true, false}
use Rattle.std.specs.Prelude.{Some as some, None as none}
use mathlib.Core.List.{List, [], ◌∷◌, ◌++◌}
use lib.IntN.{pos}
use lib.Dec.{ltb}
use lib.ListN.{length}
use Rattle.grammar.specs.Bytes.{word, nibble, nibbles}
use Rattle.grammar.specs.IndexParts.{token_byte, unlike}
use Rattle.grammar.specs.IndexNumbers.{is_digit, numeral, Hex}
use Rattle.grammar.specs.Index.{Said, palette, start_of, top_token, Says, IsLines, greys_from, greys, of_lines, no_bytes}
use Rattle.grammar.specs.IndexCues.{cues_of_lines, colours_of, palette_from, cue_at, duration_of}
use Rattle.grammar.specs.Bands.{Band, Bands, Entries, entry_words, band_words, most_bands}
use Rattle.grammar.specs.Control.{Order, start, stop, selectors, alphas, area, offsets, colours, Command, Commands, Chain, IsChain}
use Rattle.grammar.specs.Record.{told, commands_of, commands_in, first_delay, last_delay, last_numbers, stands, all_bands}
use Rattle.grammar.specs.Look.{rightmost, last_look, look_at}
use Rattle.grammar.specs.Rows.{code, paints, overshoots, RowCodes, after_codes, align, FieldRows}
use Rattle.grammar.specs.Pixels.{row_pixels, codes_in, clipped_row, clipped_in, index_map}
use Rattle.grammar.specs.Picture.{evens, top_end, Stay0, IsPicture, ListedUnit}
use Rattle.grammar.specs.Packets.{Packet, stream_id, joined, Packets, bare, packets, unit_of, IsForm}
use Rattle.grammar.specs.Canvas.{coloured, pixel, line_bytes, canvas_bytes}
use Rattle.grammar.specs.Times.{TimeStays}
use Rattle.grammar.specs.Reading.{wanted, Reading, show_of, hide_of, IsReading, shown, map_of, words_of, unit_canvas, canvas_of}
use Rattle.grammar.proofs.UniqueParts.{has-byte, head-same, tail_same}
use Rattle.grammar.proofs.ReadingLine.{every, all_of, part, valued, line, said, says, trims}

-- ---- The 2 by 2 title

abbrev pub small_file : List ℕ
small_file =
    0x00 ∷ 0x21 ∷ 0x00 ∷ 0x09 ∷ 0x00 ∷ 0x01 ∷ 0x60 ∷ 0x00 ∷ 0x30
    ∷ 0x00 ∷ 0x00 ∷ 0x00 ∷ 0x09 ∷ 0x03 ∷ 0x01 ∷ 0x32 ∷ 0x04 ∷ 0x0F ∷ 0xFF ∷ 0x05 ∷ 0x00 ∷ 0x00 ∷ 0x01 ∷ 0x00 ∷ 0x00 ∷ 0x01 ∷ 0x06 ∷ 0x00 ∷ 0x04 ∷ 0x00 ∷ 0x06 ∷ 0x01 ∷ 0xFF
    ∷ []

abbrev command : ℕ → Order → Command
command p o = record { place = p; order = o }

abbrev small_unit : ListedUnit
small_unit =
    record {
      blocks =
          record {
            place = 9;
            delay = 0;
            next = 9;
            commands = command 13 (selectors 0x0132) ∷ command 16 (alphas 0x0FFF) ∷ command 19 (area 0 1 0 1) ∷ command 26 (offsets 4 6) ∷ command 31 start ∷ [];
          }
          ∷ [];
      rows = (code 8 4 1 ∷ []) ∷ (code 12 1 6 ∷ code 13 4 3 ∷ []) ∷ [];
    }

abbrev pub small : Reading
small = record { text = of_lines (said 0 ∷ []); cue = 0; form = bare (part 0 small_file); unit = small_unit }

small_text : IsLines line (said 0 ∷ [])
small_text =
    record {
      low = all_of (λ b. ltb b 128) line refl;
      all_lines = part 0 line ∷ [];
      parted = (refl, refl, all_of (unlike 10) line refl);
      listed = (part 0 line, trims (part 0 line) refl refl, inr (says 0, tt));
    }

small-chain : IsChain small_file small_unit.blocks
unfolding word nibble nibbles Commands Chain
small-chain =
    record {
      head = omega arith;
      control = omega arith;
      order = omega arith;
      inside = omega arith;
      chain = (
        refl,
        record {
          within = omega arith;
          delay_is = refl;
          next_is = refl;
          list = (
            refl,
            record { within = omega arith; coded = refl; says = refl },
            (
              refl,
              record { within = omega arith; coded = refl; says = refl },
              (
                refl,
                record { within = omega arith; coded = refl; says = (refl, refl, refl, refl) },
                (
                  refl,
                  record { within = omega arith; coded = refl; says = (refl, refl) },
                  (refl, record { within = omega arith; coded = refl; says = tt }, inr (omega arith, refl)),
                ),
              ),
            ),
          );
        },
        inl (omega arith, refl),
      );
    }

small-few : length (told small_unit.blocks).bands ≤ most_bands
unfolding told commands_of commands_in all_bands
small-few = omega arith

small-picture : IsPicture small_file (told small_unit.blocks) small_unit.rows
unfolding word nibble nibbles evens top_end FieldRows RowCodes after_codes align paints told commands_of commands_in first_delay last_delay last_numbers stands all_bands
small-picture =
    record {
      wide = omega arith;
      high = omega arith;
      all = refl;
      top = ((omega arith, refl, record { one = omega arith; four = omega arith; inside = omega arith; number = refl; most = omega arith; least = λ h. omega arith }, refl), tt);
      bottom = inl (
        omega arith,
        omega arith,
        (
          (
            omega arith,
            refl,
            record { one = omega arith; four = omega arith; inside = omega arith; number = refl; most = omega arith; least = λ h. omega arith },
            (omega arith, refl, record { one = omega arith; four = omega arith; inside = omega arith; number = refl; most = omega arith; least = λ h. omega arith }, refl),
          ),
          tt,
        ),
      );
    }

small_times : TimeStays (show_of small) × TimeStays (hide_of small)
unfolding cues_of_lines cue_at start_of told commands_of commands_in first_delay last_delay last_numbers stands all_bands
small_times = (omega arith, tt)

-- a bare unit has no id: it is read for every stream
pub small-passes : (s : ℕ) → s ≤ 31 → IsReading line small_file (wanted 0 s) small
unfolding cues_of_lines cue_at start_of word unit_of
small-passes s h =
    record {
      text_is = (has-byte _ _, small_text);
      cue_is = refl;
      stream_is = omega arith;
      at = record { start = pos 1000000; position = 0 };
      listed = refl;
      before_end = omega arith;
      form_is = (record { four = omega arith; least = omega arith; fits = omega arith }, record { place_is = refl; bytes_are = refl });
      unit_is = record { chain = small-chain; few = small-few; picture = small-picture };
      show_stays = small_times.0;
      hide_stays = small_times.1;
    }

-- and for none above 31
small_32 : (x : Reading) → IsReading line small_file (wanted 0 32) x → ⊥
small_32 x h = omega (arith, h.stream_is)

-- start 1000000, no duration, shown at its start and never hidden, origin 0 0, 2 by 2, three codes and none clipped,
-- map 1 1 2 3, no words, and a canvas of black that is not transparent
pub small-shown :
    shown small
    ≡ record {
      start = pos 1000000;
      duration = none;
      start_delay = 0;
      stop_delay = 0;
      started = true;
      stopped = false;
      show = some (pos 1000000);
      hide = none;
      x1 = 0;
      y1 = 0;
      width = 2;
      height = 2;
      codes = 3;
      clipped = 0;
    }
unfolding shown cues_of_lines cue_at duration_of start_of codes_in clipped_row clipped_in overshoots paints told commands_of commands_in first_delay last_delay last_numbers stands all_bands
small-shown = refl

small-map : map_of small ≡ 1 ∷ 1 ∷ 2 ∷ 3 ∷ []
unfolding map_of index_map row_pixels paints told commands_of commands_in first_delay last_delay last_numbers stands all_bands
small-map = refl

pub small-words : words_of small ≡ []
unfolding words_of band_words told commands_of commands_in first_delay last_delay last_numbers stands all_bands
small-words = refl

pub small-canvas : canvas_of small ≡ 0 ∷ 0 ∷ 0 ∷ 255 ∷ 0 ∷ 0 ∷ 0 ∷ 255 ∷ 0 ∷ 0 ∷ 0 ∷ 255 ∷ 0 ∷ 0 ∷ 0 ∷ 255 ∷ []
unfolding canvas_of unit_canvas palette_from row_pixels paints canvas_bytes line_bytes pixel coloured look_at last_look told commands_of commands_in first_delay last_delay last_numbers stands all_bands
small-canvas = refl

-- ---- The same file with an index of no bytes

abbrev pub alone : Reading
alone = record { text = no_bytes greys; cue = 0; form = bare (part 0 small_file); unit = small_unit }

alone-times : TimeStays (show_of alone) × TimeStays (hide_of alone)
unfolding cue_at told commands_of commands_in first_delay last_delay last_numbers stands all_bands
alone-times = (omega arith, tt)

pub alone-passes : (s : ℕ) → s ≤ 31 → IsReading [] small_file (wanted 0 s) alone
unfolding cue_at word unit_of
alone-passes s h =
    record {
      text_is = (refl, refl);
      cue_is = refl;
      stream_is = omega arith;
      at = record { start = pos 0; position = 0 };
      listed = refl;
      before_end = omega arith;
      form_is = (
        record { four = omega arith; least = omega arith; fits = omega arith },
        record { place_is = refl; bytes_are = refl },
      );
      unit_is = record { chain = small-chain; few = small-few; picture = small-picture };
      show_stays = alone-times.0;
      hide_stays = alone-times.1;
    }

-- start 0, no duration, and all else as in the 2 by 2 title but for the canvas, in greys 1, 1, 3 and 2
pub alone-shown :
    shown alone
    ≡ record {
      start = pos 0;
      duration = none;
      start_delay = 0;
      stop_delay = 0;
      started = true;
      stopped = false;
      show = some (pos 0);
      hide = none;
      x1 = 0;
      y1 = 0;
      width = 2;
      height = 2;
      codes = 3;
      clipped = 0;
    }
unfolding shown cue_at duration_of codes_in clipped_row clipped_in overshoots paints told commands_of commands_in first_delay last_delay last_numbers stands all_bands
alone-shown = refl

alone-map : map_of alone ≡ 1 ∷ 1 ∷ 2 ∷ 3 ∷ []
unfolding map_of index_map row_pixels paints told commands_of commands_in first_delay last_delay last_numbers stands all_bands
alone-map = refl

pub alone-words : words_of alone ≡ []
unfolding words_of band_words told commands_of commands_in first_delay last_delay last_numbers stands all_bands
alone-words = refl

pub alone-canvas :
    canvas_of alone ≡ 17 ∷ 17 ∷ 17 ∷ 255 ∷ 17 ∷ 17 ∷ 17 ∷ 255 ∷ 51 ∷ 51 ∷ 51 ∷ 255 ∷ 34 ∷ 34 ∷ 34 ∷ 255 ∷ []
unfolding canvas_of unit_canvas greys_from row_pixels paints canvas_bytes line_bytes pixel coloured look_at last_look told commands_of commands_in first_delay last_delay last_numbers stands all_bands
alone-canvas = refl

-- ---- A title in packet form, with a palette and a colour band: 2 by 1 at 4 2

-- `palette: 102030,405060`, a line end, and the timestamp
abbrev first_token : List ℕ
first_token = 49 ∷ 48 ∷ 50 ∷ 48 ∷ 51 ∷ 48 ∷ []

abbrev second_token : List ℕ
second_token = 52 ∷ 48 ∷ 53 ∷ 48 ∷ 54 ∷ 48 ∷ []

abbrev colour_rest : List ℕ
colour_rest = 32 ∷ first_token ++ 44 ∷ second_token

abbrev colour_line : List ℕ
colour_line = 112 ∷ 97 ∷ 108 ∷ 101 ∷ 116 ∷ 116 ∷ 101 ∷ 58 ∷ colour_rest

abbrev colour_said : Said
colour_said = palette (part 0 colour_line) (valued 9 first_token 0x102030 ∷ valued 16 second_token 0x405060 ∷ [])

abbrev pub packed_text : List ℕ
packed_text = colour_line ++ 10 ∷ line

-- the unit of 42 bytes
abbrev packed_bytes : List ℕ
packed_bytes =
    0x00 ∷ 0x2A ∷ 0x00 ∷ 0x05 ∷ 0x56
    ∷ 0x00 ∷ 0x03 ∷ 0x00 ∷ 0x05 ∷ 0x03 ∷ 0x01 ∷ 0x10 ∷ 0x04 ∷ 0x0F ∷ 0xF0 ∷ 0x05 ∷ 0x00 ∷ 0x40 ∷ 0x05 ∷ 0x00 ∷ 0x20 ∷ 0x02 ∷ 0x06 ∷ 0x00 ∷ 0x04 ∷ 0x00 ∷ 0x00
    ∷ 0x07 ∷ 0x00 ∷ 0x0C ∷ 0x00 ∷ 0x02 ∷ 0x10 ∷ 0x02 ∷ 0x00 ∷ 0x05 ∷ 0x00 ∷ 0x00 ∷ 0x00 ∷ 0x80 ∷ 0x01 ∷ 0xFF
    ∷ []

-- a private_stream_1 packet of 46 bytes after its length: a header of three, the id, the unit
abbrev pub packed_file : List ℕ
packed_file = 0x00 ∷ 0x00 ∷ 0x01 ∷ 0xBD ∷ 0x00 ∷ 0x2E ∷ 0x80 ∷ 0x00 ∷ 0x00 ∷ 0x20 ∷ packed_bytes

abbrev packed_packet : Packet
packed_packet = record { place = 0; code = 0xBD; end = 52; kept = some (part 10 packed_bytes) }

-- line 2, from column 5 on
abbrev packed_band : Band
packed_band =
    record { place = 30; first = 2; last = 2; count = 1; entries = record { place = 34; column = 5; selectors = 0; alphas = 0x0080 } ∷ [] }

abbrev packed_unit : ListedUnit
packed_unit =
    record {
      blocks =
          record {
            place = 5;
            delay = 3;
            next = 5;
            commands = command 9 (selectors 0x0110) ∷ command 12 (alphas 0x0FF0) ∷ command 15 (area 4 5 2 2) ∷ command 22 (offsets 4 0) ∷ command 27 (colours 12 (packed_band ∷ [])) ∷ command 40 start ∷ [];
          }
          ∷ [];
      rows = (code 8 1 5 ∷ code 9 1 6 ∷ []) ∷ [];
    }

abbrev pub packed : Reading
packed =
    record {
      text = of_lines (colour_said ∷ said 23 ∷ []);
      cue = 0;
      form = packets (packed_packet ∷ []);
      unit = packed_unit;
    }

-- six hexadecimal digits with no `0x` in front
token_reads : (b c v : ℕ) (s : List ℕ) → (c ≡ 120 → ⊥) → every (is_digit 16) (b ∷ c ∷ s) ≡ true → v ≡ numeral 16 0 (b ∷ c ∷ s) → v ≤ top_token → Hex top_token (b ∷ c ∷ s) v
token_reads b c v s d h n l = (
  0,
  b ∷ c ∷ s,
  (refl, λ w. d (head-same c 120 _ _ (tail_same b 48 _ _ w.1))),
  inl (record { some_digit = omega arith; all_digits = all_of (is_digit 16) (b ∷ c ∷ s) h; number = n; within = l }),
)

colour-says : Says (part 0 colour_line) colour_said
unfolding numeral
colour-says = (
  refl,
  part 8 colour_rest,
  record { whole = refl; place = refl },
  (
    44 ∷ second_token,
    record {
      gap = 32 ∷ [];
      middle = first_token ++ 44 ∷ second_token;
      between = record { whole = refl; front = (refl, tt); stops = refl };
      token = record { whole = refl; front = all_of token_byte first_token refl; stops = refl };
      place = refl;
    },
    token_reads 49 48 0x102030 (50 ∷ 48 ∷ 51 ∷ 48 ∷ []) (λ e. omega arith) refl refl (omega arith),
    (
      [],
      record {
        gap = 44 ∷ [];
        middle = second_token;
        between = record { whole = refl; front = (refl, tt); stops = refl };
        token = record { whole = refl; front = all_of token_byte second_token refl; stops = tt };
        place = refl;
      },
      token_reads 52 48 0x405060 (53 ∷ 48 ∷ 54 ∷ 48 ∷ []) (λ e. omega arith) refl refl (omega arith),
      tt,
    ),
  ),
)

packed-lines : IsLines packed_text (colour_said ∷ said 23 ∷ [])
packed-lines =
    record {
      low = all_of (λ b. ltb b 128) packed_text refl;
      all_lines = part 0 colour_line ∷ part 23 line ∷ [];
      parted = (refl, line, refl, all_of (unlike 10) colour_line refl, (refl, refl, all_of (unlike 10) line refl));
      listed = (
        part 0 colour_line,
        trims (part 0 colour_line) refl refl,
        inr (colour-says, (part 23 line, trims (part 23 line) refl refl, inr (says 23, tt))),
      );
    }

packed-form : IsForm (stream_id 0) packed_file 0 (packets (packed_packet ∷ []))
unfolding Packets word
packed-form = (
  λ h. omega (arith, h.least),
  (
    λ h. omega (arith, h.two),
    refl,
    record {
      prefix_0 = refl;
      prefix_1 = refl;
      prefix_2 = refl;
      code_is = refl;
      inside = omega arith;
      kind = inr (
          inl (
          record {
            code_is = refl;
            end_is = refl;
            start = 9;
            body = record { some_byte = omega arith; within = omega arith; header = inl (record { bits = refl; three = omega arith; body = refl }) };
            keeps = (omega arith, refl, record { place_is = refl; bytes_are = refl });
          }
          )
          );
    },
    record { two = omega arith; enough = omega arith },
  ),
)

packed-bands : Bands packed_bytes 40 30 (packed_band ∷ [])
unfolding word Entries Bands
packed-bands = (
  refl,
  record {
    within = omega arith;
    no_mark = λ h. omega (arith, h.mark);
    zero_nibble = omega arith;
    first_is = refl;
    count_is = refl;
    last_is = refl;
    order = omega arith;
    all = refl;
    list = (refl, record { within = omega arith; column_is = refl; selectors_are = refl; alphas_are = refl; rising = omega arith }, tt);
  },
  inl refl,
)

packed-chain : IsChain packed_bytes packed_unit.blocks
unfolding word nibble nibbles Commands Chain
packed-chain =
    record {
      head = omega arith;
      control = omega arith;
      order = omega arith;
      inside = omega arith;
      chain = (
        refl,
        record {
          within = omega arith;
          delay_is = refl;
          next_is = refl;
          list = (
            refl,
            record { within = omega arith; coded = refl; says = refl },
            (
              refl,
              record { within = omega arith; coded = refl; says = refl },
              (
                refl,
                record { within = omega arith; coded = refl; says = (refl, refl, refl, refl) },
                (
                  refl,
                  record { within = omega arith; coded = refl; says = (refl, refl) },
                  (
                    refl,
                    record { within = omega arith; coded = refl; says = (omega arith, refl, packed-bands) },
                    (refl, record { within = omega arith; coded = refl; says = tt }, inr (omega arith, refl)),
                  ),
                ),
              ),
            ),
          );
        },
        inl (omega arith, refl),
      );
    }

packed-few : length (told packed_unit.blocks).bands ≤ most_bands
unfolding told commands_of commands_in all_bands
packed-few = omega arith

packed-picture : IsPicture packed_bytes (told packed_unit.blocks) packed_unit.rows
unfolding word nibble nibbles evens top_end Stay0 FieldRows RowCodes after_codes align paints told commands_of commands_in first_delay last_delay last_numbers stands all_bands
packed-picture =
    record {
      wide = omega arith;
      high = omega arith;
      all = refl;
      top = (
        (
          omega arith,
          refl,
          record { one = omega arith; four = omega arith; inside = omega arith; number = refl; most = omega arith; least = λ h. omega arith },
          (omega arith, refl, record { one = omega arith; four = omega arith; inside = omega arith; number = refl; most = omega arith; least = λ h. omega arith }, refl),
        ),
        tt,
      );
      bottom = inr (inl refl, tt);
    }

packed-times : TimeStays (show_of packed) × TimeStays (hide_of packed)
unfolding cues_of_lines cue_at start_of told commands_of commands_in first_delay last_delay last_numbers stands all_bands
packed-times = (omega arith, tt)

pub packed-passes : IsReading packed_text packed_file (wanted 0 0) packed
unfolding cues_of_lines cue_at start_of word joined unit_of
packed-passes =
    record {
      text_is = (has-byte _ _, packed-lines);
      cue_is = refl;
      stream_is = omega arith;
      at = record { start = pos 1000000; position = 0 };
      listed = refl;
      before_end = omega arith;
      form_is = packed-form;
      unit_is = record { chain = packed-chain; few = packed-few; picture = packed-picture };
      show_stays = packed-times.0;
      hide_stays = packed-times.1;
    }

-- shown three ticks after its start and never hidden; the first pixel has the unit's own colours, the second, at
-- column 5, the band's
packed-shown :
    shown packed
    ≡ record {
      start = pos 1000000;
      duration = none;
      start_delay = 3;
      stop_delay = 0;
      started = true;
      stopped = false;
      show = some (pos 1034133);
      hide = none;
      x1 = 4;
      y1 = 2;
      width = 2;
      height = 1;
      codes = 2;
      clipped = 0;
    }
unfolding shown cues_of_lines cue_at duration_of start_of codes_in clipped_row clipped_in overshoots paints told commands_of commands_in first_delay last_delay last_numbers stands all_bands
packed-shown = refl

packed-map : map_of packed ≡ 1 ∷ 2 ∷ []
unfolding map_of index_map row_pixels paints told commands_of commands_in first_delay last_delay last_numbers stands all_bands
packed-map = refl

packed-words : words_of packed ≡ 2 ∷ 2 ∷ 1 ∷ 5 ∷ 0 ∷ 0x0080 ∷ []
unfolding words_of entry_words band_words told commands_of commands_in first_delay last_delay last_numbers stands all_bands
packed-words = refl

packed-canvas : canvas_of packed ≡ 0x40 ∷ 0x50 ∷ 0x60 ∷ 0xFF ∷ 0x10 ∷ 0x20 ∷ 0x30 ∷ 0x88 ∷ []
unfolding canvas_of unit_canvas colours_of palette_from row_pixels paints canvas_bytes line_bytes pixel coloured look_at last_look rightmost told commands_of commands_in first_delay last_delay last_numbers stands all_bands
packed-canvas = refl

-- ---- A title that is shown a tick after its cue's start and hidden nine ticks after it: 1 by 1, its field in the head

abbrev pub timed_file : List ℕ
timed_file =
    0x00 ∷ 0x10 ∷ 0x00 ∷ 0x04
    ∷ 0x00 ∷ 0x01 ∷ 0x00 ∷ 0x0A ∷ 0x01 ∷ 0xFF
    ∷ 0x00 ∷ 0x09 ∷ 0x00 ∷ 0x0A ∷ 0x02 ∷ 0xFF
    ∷ []

abbrev timed_unit : ListedUnit
timed_unit =
    record {
      blocks =
          record { place = 4; delay = 1; next = 10; commands = command 8 start ∷ [] }
          ∷ record { place = 10; delay = 9; next = 10; commands = command 14 stop ∷ [] }
          ∷ [];
      rows = (code 0 4 0x10 ∷ []) ∷ [];
    }

abbrev pub timed : Reading
timed = record { text = of_lines (said 0 ∷ []); cue = 0; form = bare (part 0 timed_file); unit = timed_unit }

timed-chain : IsChain timed_file timed_unit.blocks
unfolding word nibble nibbles Commands Chain
timed-chain =
    record {
      head = omega arith;
      control = omega arith;
      order = omega arith;
      inside = omega arith;
      chain = (
        refl,
        record {
          within = omega arith;
          delay_is = refl;
          next_is = refl;
          list = (refl, record { within = omega arith; coded = refl; says = tt }, inr (omega arith, refl));
        },
        inr (
          omega arith,
          (
            refl,
            record {
              within = omega arith;
              delay_is = refl;
              next_is = refl;
              list = (refl, record { within = omega arith; coded = refl; says = tt }, inr (omega arith, refl));
            },
            inl (omega arith, refl),
          ),
        ),
      );
    }

timed-few : length (told timed_unit.blocks).bands ≤ most_bands
unfolding told commands_of commands_in all_bands
timed-few = omega arith

timed-picture : IsPicture timed_file (told timed_unit.blocks) timed_unit.rows
unfolding word nibble nibbles evens top_end Stay0 FieldRows RowCodes after_codes align paints told commands_of commands_in first_delay last_delay last_numbers stands all_bands
timed-picture =
    record {
      wide = omega arith;
      high = omega arith;
      all = refl;
      top = (
        (
          omega arith,
          refl,
          record { one = omega arith; four = omega arith; inside = omega arith; number = refl; most = omega arith; least = λ h. omega arith },
          refl,
        ),
        tt,
      );
      bottom = inr (inl refl, tt);
    }

timed-times : TimeStays (show_of timed) × TimeStays (hide_of timed)
unfolding cues_of_lines cue_at start_of told commands_of commands_in first_delay last_delay last_numbers stands all_bands
timed-times = (omega arith, omega arith)

pub timed-passes : IsReading line timed_file (wanted 0 0) timed
unfolding cues_of_lines cue_at start_of word unit_of
timed-passes =
    record {
      text_is = (has-byte _ _, small_text);
      cue_is = refl;
      stream_is = omega arith;
      at = record { start = pos 1000000; position = 0 };
      listed = refl;
      before_end = omega arith;
      form_is = (
        record { four = omega arith; least = omega arith; fits = omega arith },
        record { place_is = refl; bytes_are = refl },
      );
      unit_is = record { chain = timed-chain; few = timed-few; picture = timed-picture };
      show_stays = timed-times.0;
      hide_stays = timed-times.1;
    }

-- the start, and two other times
pub timed-shown :
    shown timed
    ≡ record {
      start = pos 1000000;
      duration = none;
      start_delay = 1;
      stop_delay = 9;
      started = true;
      stopped = true;
      show = some (pos 1011377);
      hide = some (pos 1102400);
      x1 = 0;
      y1 = 0;
      width = 1;
      height = 1;
      codes = 1;
      clipped = 0;
    }
unfolding shown cues_of_lines cue_at duration_of start_of codes_in clipped_row clipped_in overshoots paints told commands_of commands_in first_delay last_delay last_numbers stands all_bands
timed-shown = refl

pub timed-words : words_of timed ≡ []
unfolding words_of band_words told commands_of commands_in first_delay last_delay last_numbers stands all_bands
timed-words = refl

pub timed-canvas : canvas_of timed ≡ 0 ∷ 0 ∷ 0 ∷ 0 ∷ []
unfolding canvas_of unit_canvas palette_from row_pixels paints canvas_bytes line_bytes pixel coloured look_at last_look told commands_of commands_in first_delay last_delay last_numbers stands all_bands
timed-canvas = refl
