-- What each case of the code's types stands for, and what reading a line leaves in the palette. Assumes nothing: these are definitions.
use Rattle.std.specs.Prelude.{ℕ, ◌+◌, ◌/◌, ◌%◌, ◌<◌, ◌≡◌, Bool, cond, List, [], ◌∷◌, leb, length, get_or, drop, ℤ, pos, Result, Ok, Err, option_copied}
use Rattle.std.specs.Prelude.{Option, Some as some, None as none}
use Rattle.outcome.specs.Outcome.{Res, ok, refuse, number_of, check, need, and_then, map_res, bad_time, long_time, bad_position, large_position}
use Rattle.grammar.specs.Parts.{Part}
use Rattle.grammar.specs.IndexParts.{unlike, colon}
use Rattle.grammar.specs.Index.{Said, size, palette, timestamp, filepos_word, top_stored, start_of}
use Rattle.grammar.specs.IndexCues.{some_token, palette_from}
use Rattle.idx_numbers_model.specs.Parts.{part, front, trimmed, split, starts}
use Rattle.idx_numbers_model.specs.Numbers.{digits, signed, or_else, position_of}
use Rattle.idx_lines_model.specs.Lines.{palette_at, fields, steps, first_such, last_such, is_filepos, is_other, parts_at, line_of}
use Rattle.outcome.specs.declared.Refusal.{Refusal}
use Rattle.idx_lines_model.specs.declared.Directive.{Directive}
use Rattle.idx_lines_model.specs.declared.Directive.TheVariants as directive
use Rattle.idx_lines_model.specs.declared.Found.{Found}
use Rattle.idx_lines_model.specs.declared.Counted.{Counted}
use Rattle.idx_lines_model.specs.declared.Field.{Field}

-- a line without its places: what the code answers. A contract says it for every place of the line
pub data Value : Type 0 where
  sized : (width height : ℕ) → Value
  coloured : (any : Bool) → Value
  cued : (start : ℤ) (position : ℕ) → Value

abbrev pub value_of : Said → Value
value_of (size l w h) = sized w.value h.value
value_of (palette l ts) = coloured (some_token ts)
value_of (timestamp l ps fs n) = cued (start_of fs) n.value

abbrev pub mapped : Option Said → Option Value
mapped none = none
mapped (some l) = some (value_of l)

abbrev pub lean : Res (Option Said) → Res (Option Value)
lean r = map_res mapped r

abbrev pub directive_says : Directive → Value
directive_says (directive.Size w h) = sized w h
directive_says (directive.Palette any) = coloured any
directive_says (directive.Cue z v) = cued z v

abbrev pub line_says : Result (Option Directive) Refusal → Res (Option Value)
line_says (Err e) = refuse (number_of e)
line_says (Ok none) = ok none
line_says (Ok (some d)) = ok (some (directive_says d))

-- ---- The parts of a timestamp

abbrev pub bytes_of : Option Part → Option (List ℕ)
bytes_of none = none
bytes_of (some p) = some p.bytes

-- the bytes of the time and of the position, of the parts of s
abbrev pub time_bytes : ℕ → List ℕ → Option (List ℕ)
time_bytes at s = bytes_of (first_such is_other (parts_at at s))

abbrev pub position_bytes : ℕ → List ℕ → Option (List ℕ)
position_bytes at s = bytes_of (last_such is_filepos (parts_at at s))

-- what was found so far, and a further trimmed part: the first that gives no position is the time, and the last that gives one
abbrev pub time_after : Option (List ℕ) → List ℕ → Option (List ℕ)
time_after t p = cond (starts filepos_word p) t (or_else t (some p))

abbrev pub position_after : Option (List ℕ) → List ℕ → Option (List ℕ)
position_after o p = cond (starts filepos_word p) (some p) o

pub record Noted (p : List ℕ) (f g : Found) : Type 0 where
  pub time : option_copied g.time ≡ time_after (option_copied f.time) p
  pub position : option_copied g.position ≡ position_after (option_copied f.position) p

-- both parts of s are what f has
pub record FoundIn (s : List ℕ) (f : Found) : Type 0 where
  pub time : (at : ℕ) → option_copied f.time ≡ time_bytes at s
  pub position : (at : ℕ) → option_copied f.position ≡ position_bytes at s

-- ---- The fields of a time

-- those of s from place i on, where p is the place of s; none past the end
abbrev pub fields_from : ℕ → ℕ → List ℕ → List Part
fields_from p i s = cond (leb i (length s)) (split colon (p + i) (drop i s)) []

abbrev pub head_field : List Part → Option ℤ
head_field [] = some (pos 0)
head_field (p ∷ ps) = signed p.bytes

abbrev pub later : List Part → List Part
later [] = []
later (p ∷ ps) = ps

abbrev pub field_in : Option Field → Option ℤ
field_in none = none
field_in (some f) = some f.value

-- the next field of s starts at n
abbrev pub NextField : List ℕ → ℕ → ℕ → Type 0
NextField s i n = (p : ℕ) → fields_from p n s ≡ later (fields_from p i s)

abbrev pub field_is : ℤ → ℕ → Field
field_is z n = record { value = z; next = n }

-- a number from place i on, up to a colon or the end
abbrev pub counted_in : Option Counted → Option ℕ
counted_in none = none
counted_in (some c) = some c.value

abbrev pub counted : ℕ → ℕ → Counted
counted v e = record { value = v; end = e }

abbrev pub EndOf : List ℕ → ℕ → Option Counted → Type 0
EndOf s i none = Unit {0}
EndOf s i (some c) = c.end ≡ i + length (front (unlike colon) (drop i s))

pub record CountedAt (s : List ℕ) (i top : ℕ) (r : Option Counted) : Type 0 where
  pub says : counted_in r ≡ digits 10 top (front (unlike colon) (drop i s))
  pub end : EndOf s i r

abbrev pub NextOf : List ℕ → ℕ → Option Field → Type 0
NextOf s i none = Unit {0}
NextOf s i (some f) = NextField s i f.next

-- the byte of s at place i is below the digits
pub record FrontBelow (s : List ℕ) (i : ℕ) : Type 0 where
  pub inside : i < length s
  pub below : get_or s i 0 < 48

-- the field of s at place i, and the place after it
pub record FieldAt (s : List ℕ) (i : ℕ) (r : Option Field) : Type 0 where
  pub says : (p : ℕ) → field_in r ≡ head_field (fields_from p i s)
  pub next : NextOf s i r

-- what a time's fields say: all four first, then the sum
unfoldable pub time_at : List Part → Res ℤ
time_at ps = and_then (need bad_time (fields 4 ps)) (λ fs. check (steps fs) long_time (ok (start_of fs)))

-- the position after `filepos:`, beside the time
abbrev pub position_then : ℤ → Option ℕ → Res (Option Value)
position_then z none = refuse bad_position
position_then z (some v) = check (leb v top_stored) large_position (ok (some (cued z v)))

abbrev pub position_with : ℤ → List ℕ → Res (Option Value)
position_with z s = position_then z (position_of (trimmed s))

-- ---- The palette

-- red, green and blue of a token
abbrev pub rgb : ℕ → List ℕ
rgb v = v / 65536 % 256 ∷ v / 256 % 256 ∷ v % 256 ∷ []

-- what a line lists: itself, where it says something
abbrev pub one_of : Option Said → List Said
one_of none = []
one_of (some l) = l ∷ []

-- the palette after a line: as the listed line gives it, and as it was where the line is refused
abbrev pub palette_after : List ℕ → Res (Option Said) → List ℕ
palette_after was (ok o) = palette_from was (one_of o)
palette_after was (refuse n) = was

-- what reading the tokens of s leaves
pub record TokensRead (s was : List ℕ) (r : Result (Option Directive) Refusal) (now : List ℕ) : Type 0 where
  pub says : (i : Part) (at : ℕ) → line_says r ≡ lean (palette_at i (part at s))
  pub palette : (i : Part) (at : ℕ) → now ≡ palette_after was (palette_at i (part at s))

-- what reading the trimmed line l leaves
pub record LineRead (l was : List ℕ) (r : Result (Option Directive) Refusal) (now : List ℕ) : Type 0 where
  pub says : (at : ℕ) → line_says r ≡ lean (line_of (part at l))
  pub palette : (at : ℕ) → now ≡ palette_after was (line_of (part at l))
