-- What the answers of the code mean, and what the buffers hold after a call (FORMAT 1.9 to 1.13).
-- Assumes nothing: these are definitions.
use Rattle.std.specs.Prelude.{ℕ, ◌+◌, ◌<◌, min, ◌≡◌, Bool, false, cond, ◌||◌, List, [], ◌∷◌, map, eqb, ltb, length, ℤ, pos, Result, Ok, Err}
use Rattle.std.specs.Prelude.{Option, Some as some, None as none}
use Rattle.std.proofs.lemmas.List.Edits.{sets}
use Rattle.outcome.specs.Outcome.{Res, ok, refuse, need, and_then, listed, listed_by, no_cue, short_cues}
use Rattle.grammar.specs.Index.{Said, ListedText, of_lines, no_bytes}
use Rattle.grammar.specs.IndexCues.{Cue, cues_of_lines, cues_of, cue_at, palette_from, palette_of, has_palette, display_size, duration_of}
use Rattle.clock_model.specs.Answers.{micros}
use Rattle.clock_model.specs.declared.Micros.{Micros}
use Rattle.idx_lines_model.specs.Answers.{Value, sized, coloured, cued, value_of}
use Rattle.outcome.specs.declared.Refusal.{Refusal}
use Rattle.idx_lines_model.specs.declared.Directive.{Directive}
use Rattle.idx_lines_model.specs.declared.Directive.TheVariants as directive
use Rattle.idx_model.specs.Text.{text_in, idx_in}
use Rattle.idx_model.specs.declared.Seen.{Seen}
use Rattle.idx_model.specs.declared.IdxAnswer.{IdxAnswer}
use Rattle.idx_model.specs.declared.CueAnswer.{CueAnswer}

-- ---- What was seen so far, on the way to a cue
abbrev pub nothing_seen : Seen
nothing_seen = record { cues = 0; width = 0; height = 0; has_palette = false; start = pos 0; position = 0; next = pos 0 }

abbrev pub see_size : Seen → ℕ → ℕ → Seen
see_size s w h =
    record { cues = s.cues; width = w; height = h; has_palette = s.has_palette; start = s.start; position = s.position; next = s.next }

abbrev pub see_palette : Seen → Bool → Seen
see_palette s any =
    record {
      cues = s.cues;
      width = s.width;
      height = s.height;
      has_palette = any || s.has_palette;
      start = s.start;
      position = s.position;
      next = s.next;
    }

-- a cue with this start and position: it is the one looked for, or the next one
abbrev pub see_cue : ℕ → Seen → ℤ → ℕ → Seen
see_cue cue s z v =
    record {
      cues = s.cues + 1;
      width = s.width;
      height = s.height;
      has_palette = s.has_palette;
      start = cond (eqb s.cues cue) z s.start;
      position = cond (eqb s.cues cue) v s.position;
      next = cond (eqb s.cues (cue + 1)) z s.next;
    }

abbrev pub see_value : ℕ → Seen → Value → Seen
see_value cue s (sized w h) = see_size s w h
see_value cue s (coloured any) = see_palette s any
see_value cue s (cued z v) = see_cue cue s z v

unfoldable pub see_all : ℕ → Seen → List Said → Seen
see_all cue s [] = s
see_all cue s (l ∷ ls) = see_all cue (see_value cue s (value_of l)) ls

-- after one more line: refused, or seen
abbrev pub see_line : ℕ → ℕ → Seen → Res (Option Value) → Res Seen
see_line cue room s (refuse n) = refuse n
see_line cue room s (ok none) = ok s
see_line cue room s (ok (some (sized w h))) = ok (see_size s w h)
see_line cue room s (ok (some (coloured any))) = ok (see_palette s any)
see_line cue room s (ok (some (cued z v))) = cond (ltb s.cues room) (ok (see_cue cue s z v)) (refuse short_cues)

abbrev pub measured_of : ℕ → Seen → Res (List Said) → Res Seen
measured_of cue s (ok ls) = ok (see_all cue s ls)
measured_of cue s (refuse n) = refuse n

-- what measuring leaves: the answer, and the palette of an accepted text
pub record MeasuredAs (cue : ℕ) (was : List ℕ) (lines : Res (List Said)) (r : Res Seen) (now : List ℕ) : Type 0 where
  pub says : r ≡ measured_of cue nothing_seen lines
  pub palette : (ls : List Said) → lines ≡ ok ls → now ≡ palette_from was ls

-- of a text of no bytes: one cue, whose start and position are 0
abbrev pub one_seen : Seen
one_seen = record { cues = 1; width = 0; height = 0; has_palette = false; start = pos 0; position = 0; next = pos 0 }

abbrev pub seen_of : ℕ → ListedText → Seen
seen_of cue (of_lines ls) = see_all cue nothing_seen ls
seen_of cue (no_bytes p) = one_seen

-- the palette of a listed text, where this one was before
abbrev pub palette_over : List ℕ → ListedText → List ℕ
palette_over was (of_lines ls) = palette_from was ls
palette_over was (no_bytes p) = p

abbrev pub idx_measured_of : ℕ → Res ListedText → Res Seen
idx_measured_of cue (ok t) = ok (seen_of cue t)
idx_measured_of cue (refuse n) = refuse n

-- what measuring a text leaves, with a byte or without
pub record IdxMeasuredAs (cue : ℕ) (was : List ℕ) (text : Res ListedText) (r : Res Seen) (now : List ℕ) : Type 0 where
  pub says : r ≡ idx_measured_of cue text
  pub palette : (t : ListedText) → text ≡ ok t → now ≡ palette_over was t

-- ---- Cues in the lent buffers
abbrev pub starts_of : List Cue → List ℤ
starts_of cs = map (λ (c : Cue). c.start) cs

abbrev pub positions_of : List Cue → List ℕ
positions_of cs = map (λ (c : Cue). c.position) cs

-- a line that adds a cue has room in both
unfoldable pub CueFits : Result (Option Directive) Refusal → ℕ → ℕ → ℕ → Type 0
CueFits (Err k) n a b = Unit {0}
CueFits (Ok none) n a b = Unit {0}
CueFits (Ok (some (directive.Size w h))) n a b = Unit {0}
CueFits (Ok (some (directive.Palette any))) n a b = Unit {0}
CueFits (Ok (some (directive.Cue z v))) n a b = (n < a) × (n < b)

abbrev pub line_starts : Result (Option Directive) Refusal → List ℤ
line_starts (Err k) = []
line_starts (Ok none) = []
line_starts (Ok (some (directive.Size w h))) = []
line_starts (Ok (some (directive.Palette any))) = []
line_starts (Ok (some (directive.Cue z v))) = z ∷ []

abbrev pub line_positions : Result (Option Directive) Refusal → List ℕ
line_positions (Err k) = []
line_positions (Ok none) = []
line_positions (Ok (some (directive.Size w h))) = []
line_positions (Ok (some (directive.Palette any))) = []
line_positions (Ok (some (directive.Cue z v))) = v ∷ []

-- a line's cue, stored as cue n
pub record CueStored (l : Result (Option Directive) Refusal) (n : ℕ) (starts : List ℤ) (positions : List ℕ) (r : ℕ) (starts' : List ℤ) (positions' : List ℕ) : Type 0 where
  pub next : r ≡ n + length (line_starts l)
  pub starts_are : starts' ≡ sets starts n (line_starts l)
  pub positions_are : positions' ≡ sets positions n (line_positions l)

-- the cues of listed lines, stored
pub record CuesStored (lines : Res (List Said)) (starts : List ℤ) (positions : List ℕ) (starts' : List ℤ) (positions' : List ℕ) : Type 0 where
  pub starts_are : starts' ≡ sets starts 0 (starts_of (cues_of_lines (listed lines)))
  pub positions_are : positions' ≡ sets positions 0 (positions_of (cues_of_lines (listed lines)))

-- ---- The whole text

-- size, palette and the number of cues, or the refusal
unfoldable pub idx_answer : Res ListedText → Res IdxAnswer
idx_answer (refuse n) = refuse n
idx_answer (ok t) =
    ok
    (record {
      width = (display_size t).width;
      height = (display_size t).height;
      has_palette = has_palette t;
      palette = palette_of t;
      cues = length (cues_of t);
    })

-- the lines of a text, with buffers of these lengths
abbrev pub lines_with : List ℤ → List ℕ → List ℕ → Res (List Said)
lines_with starts positions text = text_in (some (min (length starts) (length positions))) text

-- what is listed of it, with buffers of these lengths
abbrev pub idx_with : List ℤ → List ℕ → List ℕ → Res ListedText
idx_with starts positions text = idx_in (some (min (length starts) (length positions))) text

-- its cues, stored: none on a refusal
pub record IdxStored (text : List ℕ) (starts : List ℤ) (positions : List ℕ) (starts' : List ℤ) (positions' : List ℕ) : Type 0 where
  pub starts_are : starts' ≡ sets starts 0 (starts_of (listed_by (idx_with starts positions text) cues_of))
  pub positions_are : positions' ≡ sets positions 0 (positions_of (listed_by (idx_with starts positions text) cues_of))

-- the answer, and the front of both buffers; on a refusal both are as found
pub record IdxRead (text : List ℕ) (starts : List ℤ) (positions : List ℕ) (r : Res IdxAnswer) (starts' : List ℤ) (positions' : List ℕ) : Type 0 where
  pub answer : r ≡ idx_answer (idx_with starts positions text)
  pub stored : IdxStored text starts positions starts' positions'

-- ---- One cue
pub record Picked : Type 0 where
  pub cue : Cue
  pub duration : Option ℕ
  pub palette : List ℕ
  pub coloured : Bool

-- cue n of a text, if there is one
unfoldable pub pick_of : Res ListedText → ℕ → Res Picked
pick_of text n =
    and_then text
    (λ t. and_then (need no_cue (cue_at (cues_of t) n))
    (λ c. ok (record { cue = c; duration = duration_of (cues_of t) n; palette = palette_of t; coloured = has_palette t })))

abbrev pub or_zero : Option ℕ → ℕ
or_zero none = 0
or_zero (some d) = d

-- the time up to the next cue, as the code has it
abbrev pub duration_in : Option ℕ → Option Micros
duration_in none = none
duration_in (some d) = some (micros (pos d))

unfoldable pub cue_answer : Res Picked → Res CueAnswer
cue_answer (refuse n) = refuse n
cue_answer (ok p) =
    ok
    (record {
      start = micros p.cue.start;
      position = p.cue.position;
      duration = duration_in p.duration;
      has_palette = p.coloured;
      palette = p.palette;
    })
