-- Cards for painting and for what a reading gives. The call shares these definitions with the grammar, and the claim so does not guard
-- them: nibbles of four, the bytes of a pixel, bands at a place, the order of canvas bytes, and the fields of a reading. One test over the
-- table. Assumes nothing.
use Prim.Native.Nat.{ℕ, ◌*◌, ◌+◌}
use mathlib.Core.Path.{◌≡◌, refl}
use mathlib.Core.Bool.{cond}
use Rattle.std.specs.Prelude.{Option, Some as some, None as none}
use mathlib.Core.List.{List, [], ◌∷◌, map, ◌++◌}
use lib.IntN.{ℤ, pos, negsuc}
use Rattle.grammar.specs.Bytes.{word}
use Rattle.grammar.specs.Parts.{Part}
use Rattle.grammar.specs.Bands.{Band, entry_words, band_words}
use Rattle.grammar.specs.Look.{Look, rightmost, last_look, look_at}
use Rattle.grammar.specs.Control.{Order, start, stop, selectors, alphas, area, colours, Command, Block}
use Rattle.grammar.specs.Record.{told, commands_of, commands_in, first_delay, last_delay, last_numbers, stands, all_bands}
use Rattle.grammar.specs.Rows.{code, paints, overshoots}
use Rattle.grammar.specs.Pixels.{row_pixels, codes_in, clipped_row, clipped_in, index_map}
use Rattle.grammar.specs.Packets.{Packet, bare, packets, joined, unit_of, scratch_for}
use Rattle.grammar.specs.IndexNumbers.{Valued}
use Rattle.grammar.specs.Index.{Said, palette, timestamp, start_of, of_lines}
use Rattle.grammar.specs.IndexCues.{cues_of_lines, colours_of, palette_from, cue_at, duration_of}
use Rattle.grammar.specs.Canvas.{nibble_of, coloured, pixel, told_look, line_bytes, canvas_bytes}
use Rattle.grammar.specs.Reading.{Reading, Shown, shown, map_of, words_of, unit_canvas, canvas_of}

record Card : Type 0 where
  got : List ℕ
  want : List ℕ

abbrev card : List ℕ → List ℕ → Card
card g w = record { got = g; want = w }

-- four entries of a palette
abbrev entries : List ℕ
entries = 10 ∷ 11 ∷ 12 ∷ 20 ∷ 21 ∷ 22 ∷ 30 ∷ 31 ∷ 32 ∷ 40 ∷ 41 ∷ 42 ∷ []

abbrev look : ℕ → ℕ → Look
look s a = record { selectors = s; alphas = a }

-- ---- A reading whose values all differ: the second of three cues, a unit in two packets, two blocks, two bands, 3 by 2 pixels at 7 5

abbrev part : ℕ → List ℕ → Part
part p b = record { place = p; bytes = b }

abbrev valued : {A : Type 0} → A → Valued A
valued v = record { part = part 0 []; value = v }

-- a cue at so many seconds
abbrev cued : ℕ → ℕ → Said
cued s n = timestamp (part 0 []) [] (map valued (pos 0 ∷ pos 0 ∷ pos s ∷ [])) (valued n)

abbrev carrier : Part → Packet
carrier k = record { place = 0; code = 0xBD; end = 0; kept = some k }

abbrev band : ℕ → ℕ → ℕ → ℕ → ℕ → Band
band f l c s a = record { place = 0; first = f; last = l; count = 1; entries = record { place = 4; column = c; selectors = s; alphas = a } ∷ [] }

abbrev command : Order → Command
command o = record { place = 0; order = o }

-- the bands: line 5 from column 8 on, and lines 5 to 9 from column 9 on
abbrev blocks : List Block
blocks =
    record {
      place = 9;
      delay = 11;
      next = 60;
      commands = command start ∷ command (selectors 0x0123) ∷ command (alphas 0x0F84) ∷ command (area 7 9 5 6) ∷ command (colours 12 (band 5 5 8 0x3012 0x1230 ∷ [])) ∷ [];
    }
    ∷ record { place = 60; delay = 13; next = 60; commands = command stop ∷ command (colours 12 (band 5 9 9 0x2222 0x0700 ∷ [])) ∷ [] }
    ∷ []

abbrev reading : Reading
reading =
    record {
      text =
          of_lines
          (cued 1 5 ∷ palette (part 0 []) (map valued (0x0A0B0C ∷ 0x141516 ∷ 0x1E1F20 ∷ 0x28292A ∷ [])) ∷ cued 3 6 ∷ cued 7 8 ∷ []);
      cue = 1;
      form = packets (carrier (part 9 (0 ∷ 3 ∷ [])) ∷ carrier (part 20 (8 ∷ 9 ∷ [])) ∷ []);
      unit = record { blocks = blocks; rows = (code 8 1 7 ∷ code 9 1 6 ∷ code 10 1 13 ∷ []) ∷ (code 12 4 0xF5 ∷ []) ∷ [] };
    }

-- a number, by its sign
abbrev number : ℤ → List ℕ
number (pos n) = 1 ∷ n ∷ []
number (negsuc n) = 0 ∷ (n + 1) ∷ []

abbrev lasting : Option ℕ → ℕ
lasting none = 0
lasting (some d) = d

-- a time, if there is one, and whether a command stands
abbrev time : Option ℤ → List ℕ
time none = []
time (some z) = number z

abbrev listing : Shown → List ℕ
listing s =
    number s.start ++ lasting s.duration ∷ s.start_delay ∷ s.stop_delay
    ∷ cond s.started 1 0 ∷ cond s.stopped 1 0 ∷ time s.show ++ time s.hide ++ s.x1 ∷ s.y1 ∷ s.width ∷ s.height ∷ s.codes ∷ s.clipped ∷ []

-- selectors and alphas at a place of the display
abbrev at : ℕ → ℕ → List ℕ
at x y = (told_look (told blocks) x y).selectors ∷ (told_look (told blocks) x y).alphas ∷ []

-- a look that tells its place
abbrev tells : ℕ → ℕ → Look
tells x y = look (4096 * x) (4096 * y)

unfoldable cards : List Card
cards =
    -- of four nibbles the top one is for colour 0
    card (map (nibble_of 0x1A2F) (0 ∷ 1 ∷ 2 ∷ 3 ∷ [])) (1 ∷ 10 ∷ 2 ∷ 15 ∷ [])
    -- red, green, blue and 17 times alpha; alpha 0 writes four zeros
    ∷ card (coloured entries 2 15) (30 ∷ 31 ∷ 32 ∷ 255 ∷ [])
    ∷ card (coloured entries 0 1) (10 ∷ 11 ∷ 12 ∷ 17 ∷ [])
    ∷ card (coloured entries 3 0) (0 ∷ 0 ∷ 0 ∷ 0 ∷ [])
    -- a pixel of each colour
    ∷ card (pixel entries (look 0x3012 0x1230) 0) (40 ∷ 41 ∷ 42 ∷ 17 ∷ [])
    ∷ card (pixel entries (look 0x3012 0x1230) 1) (10 ∷ 11 ∷ 12 ∷ 34 ∷ [])
    ∷ card (pixel entries (look 0x3012 0x1230) 2) (20 ∷ 21 ∷ 22 ∷ 51 ∷ [])
    ∷ card (pixel entries (look 0x3012 0x1230) 3) (0 ∷ 0 ∷ 0 ∷ 0 ∷ [])
    -- the unit's own left of both bands, above and below them; one band; on the line of both the later one, and on a line of its own
    ∷ card (at 7 5) (0x0123 ∷ 0x0F84 ∷ [])
    ∷ card (at 8 4) (0x0123 ∷ 0x0F84 ∷ [])
    ∷ card (at 9 10) (0x0123 ∷ 0x0F84 ∷ [])
    ∷ card (at 8 5) (0x3012 ∷ 0x1230 ∷ [])
    ∷ card (at 9 5) (0x2222 ∷ 0x0700 ∷ [])
    ∷ card (at 9 6) (0x2222 ∷ 0x0700 ∷ [])
    -- a line goes to the right, and lines go down, from an origin that is not 0 0
    ∷ card (line_bytes entries tells 1 2 (0 ∷ 0 ∷ [])) (20 ∷ 21 ∷ 22 ∷ 34 ∷ 30 ∷ 31 ∷ 32 ∷ 34 ∷ [])
    ∷ card (canvas_bytes entries tells 1 2 ((0 ∷ 0 ∷ []) ∷ (0 ∷ 0 ∷ []) ∷ [])) (20 ∷ 21 ∷ 22 ∷ 34 ∷ 30 ∷ 31 ∷ 32 ∷ 34 ∷ 20 ∷ 21 ∷ 22 ∷ 51 ∷ 30 ∷ 31 ∷ 32 ∷ 51 ∷ [])
    -- what the reading gives: three times that differ, and of its four codes one that is clipped
    ∷ card (listing (shown reading))
    (1 ∷ 3000000 ∷ 4000000 ∷ 11 ∷ 13 ∷ 1 ∷ 1 ∷ 1 ∷ 3125155 ∷ 1 ∷ 3147911 ∷ 7 ∷ 5 ∷ 3 ∷ 2 ∷ 4 ∷ 1 ∷ [])
    ∷ card (map_of reading) (3 ∷ 2 ∷ 1 ∷ 1 ∷ 1 ∷ 1 ∷ [])
    ∷ card (words_of reading) (5 ∷ 5 ∷ 1 ∷ 8 ∷ 0x3012 ∷ 0x1230 ∷ 5 ∷ 9 ∷ 1 ∷ 9 ∷ 0x2222 ∷ 0x0700 ∷ [])
    ∷ card (canvas_of reading)
    (40 ∷ 41 ∷ 42 ∷ 68 ∷ 20 ∷ 21 ∷ 22 ∷ 51 ∷ 30 ∷ 31 ∷ 32 ∷ 119 ∷ 20 ∷ 21 ∷ 22 ∷ 255 ∷ 20 ∷ 21 ∷ 22 ∷ 255 ∷ 30 ∷ 31 ∷ 32 ∷ 119 ∷ [])
    -- scratch: what the packets' unit takes, and nothing for a bare one
    ∷ card (scratch_for reading.form ∷ scratch_for (bare (part 0 (0 ∷ 4 ∷ 0 ∷ 4 ∷ []))) ∷ []) (3 ∷ 0 ∷ [])
    ∷ []

tabled : map (λ c. c.got) cards ≡ map (λ c. c.want) cards
unfolding cards word entry_words band_words rightmost last_look look_at paints overshoots row_pixels codes_in clipped_row clipped_in index_map joined unit_of start_of cues_of_lines colours_of palette_from cue_at duration_of coloured pixel line_bytes canvas_bytes shown map_of words_of unit_canvas canvas_of told commands_of commands_in first_delay last_delay last_numbers stands all_bands
tabled = refl
