-- The lines of the index text that say something, with their parts, tokens and numbers, and the text of no bytes
-- (FORMAT 1). Conditions on a finished list of lines: every such line is listed, in turn, and none besides. They find
-- none. Assumes nothing: these are definitions.
use Rattle.std.specs.Prelude.{ℕ, zero, suc, ◌+◌, ◌-◌, ◌*◌, ◌^◌, ◌≤◌, ◌<◌, ◌≡◌, ◌⊎◌, List, [], ◌∷◌, ◌++◌, length, ltb, ℤ, pos, ◌+ℤ◌, ◌*ℤ◌}
use Rattle.std.specs.Int.Signed.{mag}
use Rattle.grammar.specs.Parts.{Part}
use Rattle.grammar.specs.IndexParts.{parting, token_byte, unlike, line_end, comma, colon, letter_x, All, Span, Trimmed, AllTrimmed, Parted, StartsWith, After, Halves, First, Last}
use Rattle.grammar.specs.IndexNumbers.{Valued, Unsigned, Signed, Hex, top_position, Position}

-- a line that says something: the trimmed line, and what of it is read
pub data Said : Type 0 where
  -- both sides of the `x`, trimmed
  size : (line : Part) (width height : Valued ℕ) → Said
  -- the first 16 tokens
  palette : (line : Part) (tokens : List (Valued ℕ)) → Said
  -- all parts between commas, trimmed; the first four fields of the time; what follows `filepos:`, trimmed
  timestamp : (line : Part) (parts : List Part) (fields : List (Valued ℤ)) (number : Valued ℕ) → Said

-- ---- Words: `size:`, `palette:`, `timestamp:`, `filepos:`
abbrev pub size_word : List ℕ
size_word = 115 ∷ 105 ∷ 122 ∷ 101 ∷ 58 ∷ []

abbrev pub palette_word : List ℕ
palette_word = 112 ∷ 97 ∷ 108 ∷ 101 ∷ 116 ∷ 116 ∷ 101 ∷ 58 ∷ []

abbrev pub timestamp_word : List ℕ
timestamp_word = 116 ∷ 105 ∷ 109 ∷ 101 ∷ 115 ∷ 116 ∷ 97 ∷ 109 ∷ 112 ∷ 58 ∷ []

abbrev pub filepos_word : List ℕ
filepos_word = 102 ∷ 105 ∷ 108 ∷ 101 ∷ 112 ∷ 111 ∷ 115 ∷ 58 ∷ []

-- ---- `size:` (FORMAT 1.4)

-- the largest width and height
abbrev pub top_side : ℕ
top_side = 65535

-- r, which follows the word, is two numbers, one on each side of the first `x`
pub record IsSize (r : Part) (w h : Valued ℕ) : Type 0 where
  pub left : Part
  pub right : Part
  pub halves : Halves letter_x r left right
  pub trim_left : Trimmed left w.part
  pub trim_right : Trimmed right h.part
  pub width : Unsigned 10 top_side w.part.bytes w.value
  pub height : Unsigned 10 top_side h.part.bytes h.value

-- ---- `palette:` (FORMAT 1.5)

-- the largest token
abbrev pub top_token : ℕ
top_token = 2 ^ 32 - 1

-- the next token of s, which starts at `at`, and what is left after it. It has a byte, since its number has a digit
pub record IsToken (at : ℕ) (s : List ℕ) (t : Part) (rest : List ℕ) : Type 0 where
  pub gap : List ℕ
  pub middle : List ℕ
  pub between : Span parting s gap middle
  pub token : Span token_byte middle t.bytes rest
  pub place : t.place ≡ at + length gap

-- all tokens of s, but n of them at most
abbrev pub Tokens : ℕ → ℕ → List ℕ → List (Valued ℕ) → Type 0
Tokens zero at s [] = Unit {0}
Tokens zero at s (t ∷ ts) = ⊥
Tokens (suc n) at s [] = All parting s
Tokens (suc n) at s (t ∷ ts) =
    (rest : List ℕ)
    × IsToken at s t.part rest
    × Hex top_token t.part.bytes t.value
    × Tokens n (t.part.place + length t.part.bytes) rest ts

-- ---- `timestamp:` (FORMAT 1.6 to 1.8)

-- all fields, but n of them at most: each a signed number
abbrev pub Fields : ℕ → List Part → List (Valued ℤ) → Type 0
Fields zero ps [] = Unit {0}
Fields zero ps (f ∷ fs) = ⊥
Fields (suc n) [] [] = Unit {0}
Fields (suc n) [] (f ∷ fs) = ⊥
Fields (suc n) (p ∷ ps) [] = ⊥
Fields (suc n) (p ∷ ps) (f ∷ fs) = (f.part ≡ p) × Signed p.bytes f.value × Fields n ps fs

-- the value of field n; a missing one is 0
abbrev pub field : ℕ → List (Valued ℤ) → ℤ
field n [] = pos 0
field zero (f ∷ fs) = f.value
field (suc n) (f ∷ fs) = field n fs

-- the time's sum in microseconds
abbrev pub minutes : List (Valued ℤ) → ℤ
minutes fs = field 0 fs *ℤ pos 60 +ℤ field 1 fs

abbrev pub seconds : List (Valued ℤ) → ℤ
seconds fs = minutes fs *ℤ pos 60 +ℤ field 2 fs

unfoldable pub start_of : List (Valued ℤ) → ℤ
start_of fs = seconds fs *ℤ pos 1000000 +ℤ field 3 fs *ℤ pos 1000

-- z is a number of signed 64 bits, and so is each step of the sum
abbrev pub Stays : ℤ → Type 0
Stays z = mag z < 2 ^ 63

pub record Steps (fs : List (Valued ℤ)) : Type 0 where
  pub hours : Stays (field 0 fs *ℤ pos 60)
  pub to_minutes : Stays (minutes fs)
  pub sixty : Stays (minutes fs *ℤ pos 60)
  pub to_seconds : Stays (seconds fs)
  pub million : Stays (seconds fs *ℤ pos 1000000)
  pub millis : Stays (field 3 fs *ℤ pos 1000)
  pub start : Stays (start_of fs)

-- a trimmed part that gives a position, and one that does not
abbrev pub IsFilepos : Part → Type 0
IsFilepos p = StartsWith filepos_word p.bytes

abbrev pub IsOtherPart : Part → Type 0
IsOtherPart p = IsFilepos p → ⊥

-- r, which follows the word, has these parts; the first that gives no position is the time, the last that gives one the
-- position, whose number is at most top
pub record TimestampTo (top : ℕ) (r : Part) (parts : List Part) (fields : List (Valued ℤ)) (number : Valued ℕ)
    : Type 0 where
  pub between : List Part
  pub by_commas : Parted comma r.place r.bytes between
  pub trimmed : AllTrimmed between parts
  pub time : Part
  pub first_other : First IsOtherPart parts time
  pub position : Part
  pub last_filepos : Last IsFilepos parts position
  pub all_fields : List Part
  pub by_colons : Parted colon time.place time.bytes all_fields
  pub first_four : Fields 4 all_fields fields
  pub steps : Steps fields
  pub text : Part
  pub after_word : After filepos_word position text
  pub trim_text : Trimmed text number.part
  pub reads : Position number.part.bytes number.value
  pub stored : number.value ≤ top

-- the largest position that is stored, of 32 bits (FORMAT 1.8). How a position is read has a bound of its own,
-- `top_position`: digits above this one are not read again as a decimal number
abbrev pub top_stored : ℕ
top_stored = 2 ^ 32 - 1

abbrev pub IsTimestamp : Part → List Part → List (Valued ℤ) → Valued ℕ → Type 0
IsTimestamp r ps fs n = TimestampTo top_stored r ps fs n

-- the trimmed line i is a timestamp within 64 bits, and its position is above what is stored
pub record LargePosition (i : Part) : Type 0 where
  pub rest : Part
  pub after_word : After timestamp_word i rest
  pub parts : List Part
  pub fields : List (Valued ℤ)
  pub number : Valued ℕ
  pub reads : TimestampTo top_position rest parts fields number
  pub above : top_stored < number.value

-- ---- Lines (FORMAT 1.2)

-- the trimmed line i says this
abbrev pub Says : Part → Said → Type 0
Says i (size line w h) = (line ≡ i) × (r : Part) × After size_word i r × IsSize r w h
Says i (palette line ts) = (line ≡ i) × (r : Part) × After palette_word i r × Tokens 16 r.place r.bytes ts
Says i (timestamp line ps fs n) = (line ≡ i) × (r : Part) × After timestamp_word i r × IsTimestamp r ps fs n

-- it starts with none of the three words, or is a `size:` without an `x`
abbrev pub SaysNothing : Part → Type 0
SaysNothing i =
    ((StartsWith size_word i.bytes → ⊥) × (StartsWith palette_word i.bytes → ⊥) × (StartsWith timestamp_word i.bytes → ⊥))
    ⊎ ((r : Part) × After size_word i r × All (unlike letter_x) r.bytes)

-- of these lines, those that say something are listed
abbrev pub LinesListed : List Part → List Said → Type 0
LinesListed [] [] = Unit {0}
LinesListed [] (l ∷ ls) = ⊥
LinesListed (p ∷ ps) [] = (i : Part) × Trimmed p i × SaysNothing i × LinesListed ps []
LinesListed (p ∷ ps) (l ∷ ls) =
    (i : Part) × Trimmed p i × ((SaysNothing i × LinesListed ps (l ∷ ls)) ⊎ (Says i l × LinesListed ps ls))

-- every byte of the text is below `80` (FORMAT 1.1)
abbrev pub Low : List ℕ → Type 0
Low text = All (λ b. ltb b 128) text

-- the text has these lines (FORMAT 1.2)
pub record IsLines (text : List ℕ) (lines : List Said) : Type 0 where
  pub low : Low text
  pub all_lines : List Part
  pub parted : Parted line_end 0 text all_lines
  pub listed : LinesListed all_lines lines

-- a line of the text has a position above what is stored
pub record LargeIn (text : List ℕ) : Type 0 where
  pub front : List Part
  pub line : Part
  pub back : List Part
  pub parted : Parted line_end 0 text (front ++ line ∷ back)
  pub trimmed : Part
  pub trims : Trimmed line trimmed
  pub large : LargePosition trimmed

-- and it is the first that is at fault, in a text of bytes below `80`: those before it list this (FORMAT 1.11)
pub record FirstLarge (text : List ℕ) (before : List Said) : Type 0 where
  pub there : LargeIn text
  pub low : Low text
  pub listed : LinesListed there.front before

-- ---- The text

-- red, green and blue of n palette entries from entry i on: all three are 17 times the entry's number (FORMAT 1.13)
unfoldable pub greys_from : ℕ → ℕ → List ℕ
greys_from zero i = []
greys_from (suc n) i = 17 * i ∷ 17 * i ∷ 17 * i ∷ greys_from n (suc i)

abbrev pub greys : List ℕ
greys = greys_from 16 0

-- what is listed of a text: its lines that say something; or that it has no bytes, with the palette that it then has
pub data ListedText : Type 0 where
  of_lines : (lines : List Said) → ListedText
  no_bytes : (palette : List ℕ) → ListedText

-- the text is listed so. A text has a byte or has none, so no text is listed in both ways
abbrev pub IsText : List ℕ → ListedText → Type 0
IsText text (of_lines ls) = (text ≡ [] → ⊥) × IsLines text ls
IsText text (no_bytes p) = (text ≡ []) × (p ≡ greys)
