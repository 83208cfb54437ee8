-- Cards for what listed parts give. The readers share some of it with the grammar, and the claim so does not guard it: a
-- code's run and colour, the fill, the clip, alignment, pixels, the numbers of codes and of clipped ones, words, the
-- sizes of commands, what blocks tell, where the top field ends. The rest: what bands are stored as, and what they give
-- at a place. One test over the table, and three of clipped codes. Assumes nothing.
use Prim.Native.Nat.{ℕ, ◌+◌, ◌-◌, ◌/◌}
use mathlib.Core.Path.{◌≡◌, refl}
use mathlib.Core.List.{List, [], ◌∷◌, map}
use mathlib.Core.Bool.{cond}
use Rattle.std.specs.Prelude.{Option, Some as some, None as none}
use lib.ListN.{take, drop, replicate}
use Rattle.grammar.specs.Bytes.{nibble, nibbles, word}
use Rattle.grammar.specs.Rows.{Code, code, colour, paints, overshoots, after_codes, align}
use Rattle.grammar.specs.Pixels.{row_pixels, codes_in, clipped_row, clipped_in, index_map}
use Rattle.grammar.specs.Control.{Order, forced_start, start, stop, selectors, alphas, area, offsets, colours, Command, command_end, Block}
use Rattle.grammar.specs.Record.{Told, told, delay_of, width, height, commands_of, commands_in, first_delay, last_delay, last_numbers, stands, all_bands}
use Rattle.grammar.specs.Picture.{evens, odds, top_end}
use Rattle.grammar.specs.Packets.{Part, Packet, buffer_size, stamp_size, stream_id, length_end, joined, bare, packets, unit_of}
use Rattle.grammar.specs.Bands.{Entry, Band, entry_words, band_words, band_end}
use Rattle.grammar.specs.Look.{Look, rightmost, last_look, look_at}

-- of a code with `left` pixels to go: how many it paints, and their colour
abbrev painted : ℕ → Code → List ℕ
painted left c = paints left c ∷ colour c ∷ []

-- a card: what is computed, and what it should be
pub record Card : Type 0 where
  pub got : List ℕ
  pub want : List ℕ

abbrev card : List ℕ → List ℕ → Card
card g w = record { got = g; want = w }

-- from half byte 5: a run of 1 in colour 3, of 4 in colour 2, of 2 in colour 1
abbrev row : List Code
row = code 5 1 7 ∷ code 6 2 18 ∷ code 8 1 9 ∷ []

abbrev entry : ℕ → ℕ → ℕ → ℕ → Entry
entry p c s a = record { place = p; column = c; selectors = s; alphas = a }

-- lines 4 to 6 from columns 5 and 8 on; the same lines with no entry; lines 6 to 9 from column 7 on
abbrev bands : List Band
bands =
    record { place = 0; first = 4; last = 6; count = 2; entries = entry 4 5 1 2 ∷ entry 10 8 3 4 ∷ [] }
    ∷ record { place = 16; first = 4; last = 6; count = 0; entries = [] }
    ∷ record { place = 20; first = 6; last = 9; count = 1; entries = entry 24 7 5 6 ∷ [] }
    ∷ []

-- selectors and alphas
abbrev given : Option Look → List ℕ
given none = []
given (some l) = l.selectors ∷ l.alphas ∷ []

-- two blocks of delays 7 and 9: the first gives everything, the second all but selectors again
abbrev command : ℕ → Order → Command
command p o = record { place = p; order = o }

abbrev blocks : List Block
blocks =
    record {
      place = 9;
      delay = 7;
      next = 20;
      commands = command 13 (selectors 0x0132) ∷ command 16 forced_start ∷ command 17 stop ∷ command 18 (alphas 1) ∷ command 21 (area 1 1 1 1) ∷ command 28 (offsets 1 1) ∷ command 33 (colours 6 (drop 2 bands)) ∷ [];
    }
    ∷ record {
      place = 20;
      delay = 9;
      next = 20;
      commands = command 24 start ∷ command 25 stop ∷ command 26 (alphas 0x0FFF) ∷ command 29 (area 3 8 5 6) ∷ command 36 (offsets 4 6) ∷ command 41 (colours 32 bands) ∷ [];
    }
    ∷ []

abbrev head : List Block → List Command
head [] = []
head (b ∷ bs) = b.commands

-- numbers of what was told
abbrev listing : Told → List ℕ
listing t =
    t.at.x1 ∷ t.at.x2 ∷ t.at.y1 ∷ t.at.y2 ∷ width t ∷ height t ∷ t.selected ∷ t.alpha ∷ delay_of t.starts ∷ delay_of t.stops
    ∷ cond t.forced 1 0 ∷ t.fields.top ∷ t.fields.bottom ∷ cond t.changed 1 0 ∷ band_words t.bands

abbrev kept : ℕ → List ℕ → Part
kept p b = record { place = p; bytes = b }

abbrev carrier : Option Part → Packet
carrier k = record { place = 0; code = 0xBD; end = 0; kept = k }

cards : List Card
cards =
    card (nibble (0xA3 ∷ 0x5C ∷ []) 0 ∷ nibble (0xA3 ∷ 0x5C ∷ []) 1 ∷ nibble (0xA3 ∷ 0x5C ∷ []) 3 ∷ []) (10 ∷ 3 ∷ 12 ∷ [])
    ∷ card (nibbles (0xA3 ∷ 0x5C ∷ []) 1 3 ∷ []) (0x35C ∷ [])
    -- a run of 3 in colour 1, and the same clipped at 2
    ∷ card (painted 9 (code 0 1 13)) (3 ∷ 1 ∷ [])
    ∷ card (painted 2 (code 0 1 13)) (2 ∷ 1 ∷ [])
    -- 4 nibbles below 256 fill; 3 nibbles below 256 do not; 256 does not
    ∷ card (painted 300 (code 0 4 0xF7)) (300 ∷ 3 ∷ [])
    ∷ card (painted 300 (code 0 3 0xF7)) (61 ∷ 3 ∷ [])
    ∷ card (painted 300 (code 0 4 256)) (64 ∷ 0 ∷ [])
    ∷ card (align 4 ∷ align 5 ∷ []) (4 ∷ 6 ∷ [])
    ∷ card (after_codes 5 row ∷ []) (9 ∷ [])
    -- the last run is clipped at the row's end; a row with no code stays 0
    ∷ card (row_pixels 6 row) (3 ∷ 2 ∷ 2 ∷ 2 ∷ 2 ∷ 1 ∷ [])
    ∷ card (row_pixels 3 []) (0 ∷ 0 ∷ 0 ∷ [])
    ∷ card (codes_in (row ∷ [] ∷ row ∷ []) ∷ []) (6 ∷ [])
    ∷ card (word (0xA3 ∷ 0x5C ∷ 0x01 ∷ []) 0 ∷ word (0xA3 ∷ 0x5C ∷ 0x01 ∷ []) 1 ∷ []) (0xA35C ∷ 0x5C01 ∷ [])
    ∷ card (band_words bands) (4 ∷ 6 ∷ 2 ∷ 5 ∷ 1 ∷ 2 ∷ 8 ∷ 3 ∷ 4 ∷ 4 ∷ 6 ∷ 0 ∷ 6 ∷ 9 ∷ 1 ∷ 7 ∷ 5 ∷ 6 ∷ [])
    ∷ card (map band_end bands) (16 ∷ 20 ∷ 30 ∷ [])
    -- left of every entry, at the first, before and at the second; a band with no entry shadows none
    ∷ card (given (look_at 4 5 bands)) []
    ∷ card (given (look_at 5 5 bands)) (1 ∷ 2 ∷ [])
    ∷ card (given (look_at 7 5 bands)) (1 ∷ 2 ∷ [])
    ∷ card (given (look_at 8 5 bands)) (3 ∷ 4 ∷ [])
    -- above the first line, on it, on a line of two bands, on the last line, below it
    ∷ card (given (look_at 8 3 bands)) []
    ∷ card (given (look_at 8 4 bands)) (3 ∷ 4 ∷ [])
    ∷ card (given (look_at 8 6 bands)) (5 ∷ 6 ∷ [])
    ∷ card (given (look_at 8 9 bands)) (5 ∷ 6 ∷ [])
    ∷ card (given (look_at 8 10 bands)) []
    -- on a line of two bands, where the later one starts right of the column
    ∷ card (given (look_at 6 6 bands)) (1 ∷ 2 ∷ [])
    -- nothing told; two blocks: the first start, the last stop, selectors of the first block
    ∷ card (listing (told [])) (0 ∷ 0 ∷ 0 ∷ 0 ∷ 1 ∷ 1 ∷ 0 ∷ 0 ∷ 0 ∷ 0 ∷ 0 ∷ 0 ∷ 0 ∷ 0 ∷ [])
    ∷ card (listing (told blocks)) (3 ∷ 8 ∷ 5 ∷ 6 ∷ 6 ∷ 2 ∷ 0x0132 ∷ 0x0FFF ∷ 7 ∷ 9 ∷ 1 ∷ 4 ∷ 6 ∷ 1 ∷ 6 ∷ 9 ∷ 1 ∷ 7 ∷ 5 ∷ 6 ∷ band_words bands)
    -- a later start alone, of the other kind
    ∷ card (listing (told (drop 1 blocks))) (3 ∷ 8 ∷ 5 ∷ 6 ∷ 6 ∷ 2 ∷ 0 ∷ 0x0FFF ∷ 9 ∷ 9 ∷ 0 ∷ 4 ∷ 6 ∷ 1 ∷ band_words bands)
    ∷ card (map (λ (c : Command). command_end c) (head blocks)) (16 ∷ 17 ∷ 18 ∷ 21 ∷ 28 ∷ 33 ∷ 40 ∷ [])
    ∷ card (map (λ (c : Command). command_end c) (head (drop 1 blocks))) (25 ∷ 26 ∷ 29 ∷ 36 ∷ 41 ∷ 74 ∷ [])
    -- the bottom field follows, stands before the top field, starts past the control blocks, starts with the top field
    ∷ card (top_end 30 (record { top = 4; bottom = 9 }) ∷ top_end 30 (record { top = 9; bottom = 4 }) ∷ top_end 30 (record { top = 4; bottom = 33 }) ∷ top_end 30 (record { top = 9; bottom = 9 }) ∷ []) (9 ∷ 30 ∷ 30 ∷ 30 ∷ [])
    -- buffer sizes and stamps of a packet's older header, by a byte on each side of each bound; the ids of streams 0
    -- and 31
    ∷ card (map buffer_size (0x3F ∷ 0x40 ∷ 0x7F ∷ 0x80 ∷ [])) (0 ∷ 2 ∷ 2 ∷ 0 ∷ [])
    ∷ card (map stamp_size (0x0E ∷ 0x0F ∷ 0x10 ∷ 0x1F ∷ 0x20 ∷ 0x2F ∷ 0x30 ∷ 0x3F ∷ 0x40 ∷ [])) (0 ∷ 1 ∷ 0 ∷ 0 ∷ 5 ∷ 5 ∷ 10 ∷ 10 ∷ 0 ∷ [])
    ∷ card (map (λ (x : ℕ). cond (stream_id 0 x) 1 0) (0x1F ∷ 0x20 ∷ 0x21 ∷ 0x3E ∷ 0x3F ∷ 0x40 ∷ [])) (0 ∷ 1 ∷ 0 ∷ 0 ∷ 0 ∷ 0 ∷ [])
    ∷ card (map (λ (x : ℕ). cond (stream_id 31 x) 1 0) (0x1F ∷ 0x20 ∷ 0x21 ∷ 0x3E ∷ 0x3F ∷ 0x40 ∷ [])) (0 ∷ 0 ∷ 0 ∷ 0 ∷ 1 ∷ 0 ∷ [])
    ∷ card (length_end (0 ∷ 0 ∷ 1 ∷ 0xBE ∷ 1 ∷ 2 ∷ []) 0 ∷ []) (264 ∷ [])
    -- a unit bare, and one of three bytes kept by two packets, with a byte more
    ∷ card (unit_of (bare (kept 7 (0 ∷ 4 ∷ 0 ∷ 4 ∷ [])))) (0 ∷ 4 ∷ 0 ∷ 4 ∷ [])
    ∷ card (unit_of (packets (carrier (some (kept 9 (0 ∷ []))) ∷ carrier none ∷ carrier (some (kept 20 (3 ∷ 8 ∷ 9 ∷ []))) ∷ []))) (0 ∷ 3 ∷ 8 ∷ [])
    ∷ card (evens (1 ∷ 2 ∷ 3 ∷ 4 ∷ 5 ∷ [])) (1 ∷ 3 ∷ 5 ∷ [])
    ∷ card (odds (1 ∷ 2 ∷ 3 ∷ 4 ∷ 5 ∷ [])) (2 ∷ 4 ∷ [])
    ∷ card (index_map 6 (row ∷ [] ∷ row ∷ [])) (3 ∷ 2 ∷ 2 ∷ 2 ∷ 2 ∷ 1 ∷ 0 ∷ 0 ∷ 0 ∷ 0 ∷ 0 ∷ 0 ∷ 3 ∷ 2 ∷ 2 ∷ 2 ∷ 2 ∷ 1 ∷ [])
    ∷ []

tabled : map (λ c. c.got) cards ≡ map (λ c. c.want) cards
unfolding cards nibble nibbles paints after_codes align row_pixels codes_in index_map word entry_words band_words rightmost last_look look_at top_end evens joined unit_of told commands_of commands_in first_delay last_delay last_numbers stands all_bands
tabled = refl

-- ---- Clipped codes (FORMAT 5.11)

-- 1 where the code c is clipped with so many pixels of its row left, and 0 where it is not
abbrev clipped_with : Code → List ℕ → List ℕ
clipped_with c [] = []
clipped_with c (left ∷ ls) = cond (overshoots left c) 1 0 ∷ clipped_with c ls

-- with one pixel less than n, with n and with one more
abbrev around : ℕ → List ℕ
around n = (n - 1) ∷ n ∷ (n + 1) ∷ []

-- the least and the greatest run of each length: clipped by one pixel, and neither as long as what is left nor shorter
pub one-pixel-over :
    map (λ (c : Code). clipped_with c (around (c.value / 4)))
    (code 0 1 4 ∷ code 0 1 15 ∷ code 0 2 16 ∷ code 0 2 63 ∷ code 0 3 64 ∷ code 0 3 255 ∷ code 0 4 256 ∷ code 0 4 1023
    ∷ [])
    ≡ replicate 8 (1 ∷ 0 ∷ 0 ∷ [])
unfolding overshoots
one-pixel-over = refl

-- the fill `00F7`, whose number by four is 61; three nibbles of that number are a run of 61
pub fill-not-clipped :
    (clipped_with (code 0 4 0xF7) (0 ∷ 1 ∷ 2 ∷ 60 ∷ 61 ∷ []) ≡ 0 ∷ 0 ∷ 0 ∷ 0 ∷ 0 ∷ [])
    × (clipped_with (code 0 3 0xF7) (around 61) ≡ 1 ∷ 0 ∷ 0 ∷ [])
unfolding overshoots
fill-not-clipped = (refl, refl)

-- runs of 1, 4 and 2: in rows of 6 one code of three is clipped, in rows of 7 none, in rows of 3 the second; rows with
-- no code have none
pub one_of_three :
    clipped_in 6 (row ∷ [] ∷ []) ∷ clipped_in 7 (row ∷ [] ∷ []) ∷ clipped_in 3 (take 2 row ∷ take 2 row ∷ []) ∷ []
    ≡ 1 ∷ 0 ∷ 2 ∷ []
unfolding clipped_in clipped_row overshoots paints
one_of_three = refl
