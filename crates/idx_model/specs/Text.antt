-- What is listed of an index text, found, or the number of the first refusal (FORMAT 1.1, 1.2, 1.11, 1.13).
-- One definition with cue buffers and without. Assumes nothing: these are definitions.
use Rattle.std.specs.Prelude.{ℕ, ◌+◌, Bool, true, List, [], ◌∷◌, ltb}
use Rattle.std.specs.Prelude.{Option, Some as some, None as none}
use Rattle.outcome.specs.Outcome.{Res, ok, check, and_then, map_res, high_byte, short_cues}
use Rattle.grammar.specs.Parts.{Part}
use Rattle.grammar.specs.IndexParts.{line_end}
use Rattle.grammar.specs.Index.{Said, size, palette, timestamp, greys, ListedText, of_lines, no_bytes}
use Rattle.idx_numbers_model.specs.Parts.{all, trim, split}
use Rattle.idx_lines_model.specs.Lines.{line_of}

-- what a line says, in front of the lines after it
abbrev pub or_none : Option Said → List Said → List Said
or_none none ls = ls
or_none (some l) ls = l ∷ ls

-- how many cues a line adds
abbrev pub cues_in : Option Said → ℕ
cues_in none = 0
cues_in (some (size l w h)) = 0
cues_in (some (palette l ts)) = 0
cues_in (some (timestamp l ps fs n)) = 1

-- the room of the shorter cue buffer; `none` where cues are not stored. There is room for a line after k cues
abbrev pub room_after : Option ℕ → ℕ → Bool
room_after none k = true
room_after (some n) k = ltb k n

abbrev pub room_for : Option ℕ → ℕ → Option Said → Bool
room_for room k none = true
room_for room k (some (size l w h)) = true
room_for room k (some (palette l ts)) = true
room_for room k (some (timestamp l ps fs n)) = room_after room k

-- the lines after k cues: the first faulty line refuses, and a cue without room after all else of its line
unfoldable pub lines_in : Option ℕ → ℕ → List Part → Res (List Said)
lines_in room k [] = ok []
lines_in room k (p ∷ ps) =
    and_then (line_of (trim p))
    (λ o. check (room_for room k o) short_cues (and_then (lines_in room (k + cues_in o) ps) (λ ls. ok (or_none o ls))))

abbrev pub low_byte : ℕ → Bool
low_byte b = ltb b 128

-- the lines of a text
unfoldable pub text_in : Option ℕ → List ℕ → Res (List Said)
text_in room text = check (all low_byte text) high_byte (lines_in room 0 (split line_end 0 text))

-- what is listed of a text: where there are no bytes, a cue that no line gives and that needs a place as any other
unfoldable pub idx_in : Option ℕ → List ℕ → Res ListedText
idx_in room [] = check (room_after room 0) short_cues (ok (no_bytes greys))
idx_in room (b ∷ s) = map_res of_lines (text_in room (b ∷ s))

abbrev pub idx_of : List ℕ → Res ListedText
idx_of text = idx_in none text
