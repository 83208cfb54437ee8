-- The bytes of the list program's lines (FORMAT 8). Assumes nothing: these are definitions.
use Rattle.std.specs.Prelude.{ℕ, zero, suc, ◌+◌, ◌/◌, ◌%◌, Bool, true, false, List, [], ◌∷◌, ◌++◌, ltb, ℤ, pos, negsuc}
use Rattle.std.specs.Prelude.{Option, Some as some, None as none}
use Rattle.grammar.specs.Reading.{Shown}

-- ---- Numbers

-- the digits of n, of which t says whether it is below 10; k only bounds how many there are
unfoldable pub digits_in : ℕ → Bool → ℕ → List ℕ
digits_in zero t n = []
digits_in (suc k) true n = (48 + n) ∷ []
digits_in (suc k) false n = digits_in k (ltb (n / 10) 10) (n / 10) ++ ((48 + n % 10) ∷ [])

-- n has at most n + 1 of them; the first is not 0 but in 0 itself
unfoldable pub decimal : ℕ → List ℕ
decimal n = digits_in (suc n) (ltb n 10) n

-- with `-` in front below 0
abbrev pub signed : ℤ → List ℕ
signed (pos n) = decimal n
signed (negsuc n) = 45 ∷ decimal (n + 1)

-- a duration, or `-`
abbrev pub lasting : Option ℕ → List ℕ
lasting (some d) = decimal d
lasting none = 45 ∷ []

-- ---- Lines

-- a field after the first, with the space that parts it
abbrev pub field : List ℕ → List ℕ
field s = 32 ∷ s

abbrev pub newline : List ℕ
newline = 10 ∷ []

-- number, start and duration of cue n
abbrev pub times : ℕ → ℤ → Option ℕ → List ℕ
times n start duration = decimal n ++ (field (signed start) ++ field (lasting duration))

-- x1, y1, width and height
abbrev pub area : ℕ → ℕ → ℕ → ℕ → List ℕ
area x1 y1 width height = field (decimal x1) ++ (field (decimal y1) ++ (field (decimal width) ++ field (decimal height)))

-- start delay, stop delay and the number of codes
abbrev pub delays : ℕ → ℕ → ℕ → List ℕ
delays start stop codes = field (decimal start) ++ (field (decimal stop) ++ (field (decimal codes) ++ newline))

-- the line of cue n, of which s is shown
unfoldable pub shown_line : ℕ → Shown → List ℕ
shown_line n s =
    times n s.start s.duration ++ (area s.x1 s.y1 s.width s.height ++ delays s.start_delay s.stop_delay s.codes)

-- `refused`
abbrev pub refused_word : List ℕ
refused_word = 114 ∷ 101 ∷ 102 ∷ 117 ∷ 115 ∷ 101 ∷ 100 ∷ []

-- the line of cue n, which is refused with k
unfoldable pub refused_line : ℕ → ℕ → List ℕ
refused_line n k = decimal n ++ (field refused_word ++ (field (decimal k) ++ newline))

-- `cues`
abbrev pub cues_word : List ℕ
cues_word = 99 ∷ 117 ∷ 101 ∷ 115 ∷ []

-- the first line of a title with n cues
unfoldable pub cues_line : ℕ → List ℕ
cues_line n = cues_word ++ (field (decimal n) ++ newline)

-- `index refused`
abbrev pub index_refused : List ℕ
index_refused = 105 ∷ 110 ∷ 100 ∷ 101 ∷ 120 ∷ 32 ∷ refused_word

-- the one line of a title whose index is refused with k
unfoldable pub index_line : ℕ → List ℕ
index_line k = index_refused ++ (field (decimal k) ++ newline)

-- `file refused`, the one line of a title of which a file is missing, unreadable or too long
unfoldable pub file_line : List ℕ
file_line = 102 ∷ 105 ∷ 108 ∷ 101 ∷ 32 ∷ (refused_word ++ newline)
