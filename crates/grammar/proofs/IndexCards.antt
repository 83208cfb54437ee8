-- Cards for what the listed lines of an index text give. The reader shares it with the grammar, and the claim so does not guard it.
-- One test over the table. Assumes nothing.
use Prim.Native.Nat.{ℕ, ◌+◌}
use mathlib.Core.Path.{◌≡◌, refl}
use mathlib.Core.Bool.{cond}
use Rattle.std.specs.Prelude.{Option, Some as some, None as none}
use mathlib.Core.List.{List, [], ◌∷◌, map}
use lib.ListN.{take}
use lib.IntN.{ℤ, pos, negsuc}
use Rattle.grammar.specs.Parts.{Part}
use Rattle.grammar.specs.IndexParts.{blank, parting}
use Rattle.grammar.specs.IndexNumbers.{Valued, digit, numeral}
use Rattle.grammar.specs.Index.{Said, size, palette, timestamp, start_of}
use Rattle.grammar.specs.IndexCues.{Cue, cues_of_lines, colours_of, palette_from, palette_of_lines, lines_have_palette, size_from, size_of_lines, duration_of, cue_at}

record Card : Type 0 where
  got : List ℕ
  want : List ℕ

abbrev card : List ℕ → List ℕ → Card
card g w = record { got = g; want = w }

-- places say nothing here
abbrev nowhere : Part
nowhere = record { place = 0; bytes = [] }

abbrev valued : {A : Type 0} → A → Valued A
valued v = record { part = nowhere; value = v }

abbrev coloured : List ℕ → Said
coloured vs = palette nowhere (map valued vs)

abbrev cued : List ℤ → ℕ → Said
cued fs n = timestamp nowhere [] (map valued fs) (valued n)

-- two sizes, three palette lines of which the second is the shorter and the last has no token, and cues in between
abbrev lines : List Said
lines =
    coloured (0x010203 ∷ 0xFF040506 ∷ 0x070809 ∷ [])
    ∷ size nowhere (valued 7) (valued 8)
    ∷ cued (pos 1 ∷ []) 5
    ∷ coloured (0x0A0B0C ∷ [])
    ∷ size nowhere (valued 720) (valued 576)
    ∷ coloured []
    ∷ cued (pos 2 ∷ []) 6
    ∷ []

-- a number, by its sign; a duration
abbrev number : ℤ → List ℕ
number (pos n) = 1 ∷ n ∷ []
number (negsuc n) = 0 ∷ (n + 1) ∷ []

abbrev lasting : Option ℕ → List ℕ
lasting none = []
lasting (some d) = d ∷ []

abbrev starting : ℤ → Cue
starting z = record { start = z; position = 0 }

abbrev position : Option Cue → List ℕ
position none = []
position (some c) = c.position ∷ []

unfoldable cards : List Card
cards =
    -- what a second, shorter palette line leaves; whether there is a palette; the last size; positions by number
    card (take 12 (palette_of_lines lines)) (10 ∷ 11 ∷ 12 ∷ 4 ∷ 5 ∷ 6 ∷ 7 ∷ 8 ∷ 9 ∷ 0 ∷ 0 ∷ 0 ∷ [])
    ∷ card (map (λ (ls : List Said). cond (lines_have_palette ls) 1 0) (lines ∷ (coloured [] ∷ []) ∷ [] ∷ []))
    (1 ∷ 0 ∷ 0 ∷ [])
    ∷ card ((size_of_lines lines).width ∷ (size_of_lines lines).height ∷ (size_of_lines []).width ∷ (size_of_lines []).height ∷ []) (720 ∷ 576 ∷ 0 ∷ 0 ∷ [])
    ∷ card (position (cue_at (cues_of_lines lines) 0)) (5 ∷ [])
    ∷ card (position (cue_at (cues_of_lines lines) 1)) (6 ∷ [])
    ∷ card (position (cue_at (cues_of_lines lines) 2)) []
    -- a start with all four fields, with one, with none, and one below 0
    ∷ card (number (start_of (map valued (pos 1 ∷ pos 2 ∷ pos 3 ∷ pos 4 ∷ [])))) (1 ∷ 3723004000 ∷ [])
    ∷ card (number (start_of (map valued (pos 1 ∷ [])))) (1 ∷ 3600000000 ∷ [])
    ∷ card (number (start_of [])) (1 ∷ 0 ∷ [])
    ∷ card (number (start_of (map valued (pos 0 ∷ pos 0 ∷ negsuc 0 ∷ pos 1 ∷ [])))) (0 ∷ 999000 ∷ [])
    -- durations: of the first of two, of the last, at the floor, at the ceiling and one below it
    ∷ card (lasting (duration_of (cues_of_lines lines) 0)) (3600000000 ∷ [])
    ∷ card (lasting (duration_of (cues_of_lines lines) 1)) []
    ∷ card (lasting (duration_of (starting (pos 5) ∷ starting (pos 3) ∷ []) 0)) (0 ∷ [])
    ∷ card (lasting (duration_of (starting (negsuc 0) ∷ starting (pos 9223372036854775807) ∷ []) 0)) (9223372036854775807 ∷ [])
    ∷ card (lasting (duration_of (starting (pos 1) ∷ starting (pos 9223372036854775807) ∷ []) 0)) (9223372036854775806 ∷ [])
    -- blanks and the bytes beside them; what parts tokens
    ∷ card (map (λ b. cond (blank b) 1 0) (8 ∷ 9 ∷ 10 ∷ 11 ∷ 12 ∷ 13 ∷ 14 ∷ 31 ∷ 32 ∷ 33 ∷ [])) (0 ∷ 1 ∷ 1 ∷ 1 ∷ 1 ∷ 1 ∷ 0 ∷ 0 ∷ 1 ∷ 0 ∷ [])
    ∷ card (map (λ b. cond (parting b) 1 0) (13 ∷ 14 ∷ 32 ∷ 43 ∷ 44 ∷ 45 ∷ [])) (1 ∷ 0 ∷ 1 ∷ 0 ∷ 1 ∷ 0 ∷ [])
    -- digits of both cases, and bytes beside them; a number in base 16
    ∷ card (map digit (47 ∷ 48 ∷ 57 ∷ 58 ∷ 64 ∷ 65 ∷ 70 ∷ 71 ∷ 96 ∷ 97 ∷ 102 ∷ 103 ∷ [])) (16 ∷ 0 ∷ 9 ∷ 16 ∷ 16 ∷ 10 ∷ 15 ∷ 16 ∷ 16 ∷ 10 ∷ 15 ∷ 16 ∷ [])
    ∷ card (numeral 16 0 (49 ∷ 98 ∷ []) ∷ numeral 10 0 (49 ∷ 48 ∷ []) ∷ []) (27 ∷ 10 ∷ [])
    ∷ []

tabled : map (λ c. c.got) cards ≡ map (λ c. c.want) cards
unfolding cards cues_of_lines colours_of palette_from lines_have_palette size_from duration_of cue_at start_of numeral
tabled = refl
