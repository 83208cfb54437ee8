-- What a listed index text gives: cues and their durations, palette and size (FORMAT 1.9, 1.10, 1.13).
-- Assumes nothing: these are definitions.
use Rattle.std.specs.Prelude.{ℕ, zero, suc, ◌-◌, ◌/◌, ◌%◌, ◌^◌, min, Bool, true, false, ◌||◌, List, [], ◌∷◌, replicate, ℤ, pos, negsuc, ◌-ℤ◌}
use Rattle.std.specs.Prelude.{Option, Some as some, None as none}
use Rattle.std.proofs.lemmas.List.Edits.{sets}
use Rattle.grammar.specs.IndexNumbers.{Valued}
use Rattle.grammar.specs.Index.{Said, size, palette, timestamp, start_of, ListedText, of_lines, no_bytes}

pub record Cue : Type 0 where
  pub start : ℤ
  pub position : ℕ

-- each timestamp adds a cue
unfoldable pub cues_of_lines : List Said → List Cue
cues_of_lines [] = []
cues_of_lines (size l w h ∷ ls) = cues_of_lines ls
cues_of_lines (palette l ts ∷ ls) = cues_of_lines ls
cues_of_lines (timestamp l ps fs n ∷ ls) = record { start = start_of fs; position = n.value } ∷ cues_of_lines ls

-- red, green and blue of each token
unfoldable pub colours_of : List (Valued ℕ) → List ℕ
colours_of [] = []
colours_of (t ∷ ts) = t.value / 65536 % 256 ∷ t.value / 256 % 256 ∷ t.value % 256 ∷ colours_of ts

-- a palette line sets the entries that it gives, from the first on
unfoldable pub palette_from : List ℕ → List Said → List ℕ
palette_from was [] = was
palette_from was (size l w h ∷ ls) = palette_from was ls
palette_from was (palette l ts ∷ ls) = palette_from (sets was 0 (colours_of ts)) ls
palette_from was (timestamp l ps fs n ∷ ls) = palette_from was ls

-- the palette before the first line: black
abbrev pub first_palette : List ℕ
first_palette = replicate 48 0

abbrev pub palette_of_lines : List Said → List ℕ
palette_of_lines ls = palette_from first_palette ls

-- a palette line has a token
abbrev pub some_token : List (Valued ℕ) → Bool
some_token [] = false
some_token (t ∷ ts) = true

unfoldable pub lines_have_palette : List Said → Bool
lines_have_palette [] = false
lines_have_palette (size l w h ∷ ls) = lines_have_palette ls
lines_have_palette (palette l ts ∷ ls) = some_token ts || lines_have_palette ls
lines_have_palette (timestamp l ps fs n ∷ ls) = lines_have_palette ls

pub record Size : Type 0 where
  pub width : ℕ
  pub height : ℕ

abbrev pub size_is : ℕ → ℕ → Size
size_is w h = record { width = w; height = h }

-- the last size line counts
unfoldable pub size_from : Size → List Said → Size
size_from was [] = was
size_from was (size l w h ∷ ls) = size_from (size_is w.value h.value) ls
size_from was (palette l ts ∷ ls) = size_from was ls
size_from was (timestamp l ps fs n ∷ ls) = size_from was ls

abbrev pub size_of_lines : List Said → Size
size_of_lines ls = size_from (size_is 0 0) ls

-- cue n, numbered from 0
unfoldable pub cue_at : List Cue → ℕ → Option Cue
cue_at [] n = none
cue_at (c ∷ cs) zero = some c
cue_at (c ∷ cs) (suc n) = cue_at cs n

-- z, at least 0 and at most the largest number of signed 64 bits
abbrev pub clip : ℤ → ℕ
clip (pos n) = min n (2 ^ 63 - 1)
clip (negsuc n) = 0

-- cue n lasts up to the next one's start; the last has no duration
unfoldable pub duration_of : List Cue → ℕ → Option ℕ
duration_of [] n = none
duration_of (c ∷ []) n = none
duration_of (c ∷ d ∷ cs) zero = some (clip (d.start -ℤ c.start))
duration_of (c ∷ d ∷ cs) (suc n) = duration_of (d ∷ cs) n

-- ---- What a listed text gives (FORMAT 1.9, 1.13)

abbrev pub cues_of : ListedText → List Cue
cues_of (of_lines ls) = cues_of_lines ls
cues_of (no_bytes p) = record { start = pos 0; position = 0 } ∷ []

abbrev pub palette_of : ListedText → List ℕ
palette_of (of_lines ls) = palette_of_lines ls
palette_of (no_bytes p) = p

-- no line gives the greys
abbrev pub has_palette : ListedText → Bool
has_palette (of_lines ls) = lines_have_palette ls
has_palette (no_bytes p) = false

abbrev pub display_size : ListedText → Size
display_size (of_lines ls) = size_of_lines ls
display_size (no_bytes p) = size_is 0 0
