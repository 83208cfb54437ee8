-- What a trimmed line of the index text says, found: a listed line, nothing, or the number of the refusal (FORMAT 1.2 to 1.8).
-- What is asked first refuses first. Assumes nothing: these are definitions.
use Rattle.std.specs.Prelude.{ℕ, zero, suc, ◌+◌, Bool, not, cond, ◌&&◌, List, [], ◌∷◌, map, leb, length, ℤ, pos, ◌*ℤ◌}
use Rattle.std.specs.Prelude.{Option, Some as some, None as none}
use Rattle.outcome.specs.Outcome.{Res, ok, check, need, and_then, bad_width, bad_height, bad_token, no_time, no_position, bad_time, long_time, bad_position, large_position}
use Rattle.grammar.specs.Parts.{Part}
use Rattle.grammar.specs.IndexParts.{parting, token_byte, unlike, comma, colon, letter_x}
use Rattle.grammar.specs.IndexNumbers.{Valued}
use Rattle.grammar.specs.Index.{Said, size, palette, timestamp, size_word, palette_word, timestamp_word, filepos_word, top_side, top_token, top_stored, field, minutes, seconds, start_of}
use Rattle.clock_model.specs.Sums.{stays}
use Rattle.idx_numbers_model.specs.Parts.{part, valued, front, rest, trim, split, after, starts}
use Rattle.idx_numbers_model.specs.Numbers.{unsigned, signed, hex, or_else, position_of}

-- ---- `size:` (FORMAT 1.4)
pub record Two : Type 0 where
  pub left : Part
  pub right : Part

-- the two sides of the first separator: its front, and what is left
abbrev pub halved : ℕ → List ℕ → List ℕ → Option Two
halved at a [] = none
halved at a (b ∷ s) = some (record { left = part at a; right = part (at + suc (length a)) s })

abbrev pub halves : ℕ → Part → Option Two
halves sep p = halved p.place (front (unlike sep) p.bytes) (rest (unlike sep) p.bytes)

abbrev pub size_at : Part → Two → Res (Option Said)
size_at i t =
    and_then (need bad_width (unsigned 10 top_side (trim t.left).bytes))
    (λ w. and_then (need bad_height (unsigned 10 top_side (trim t.right).bytes))
    (λ h. ok (some (size i (valued (trim t.left) w) (valued (trim t.right) h)))))

-- without an `x` it says nothing
abbrev pub size_or : Part → Option Two → Res (Option Said)
size_or i none = ok none
size_or i (some t) = size_at i t

-- ---- `palette:` (FORMAT 1.5)
abbrev pub cons_with : {A : Type 0} → Part → Option A → Option (List (Valued A)) → Option (List (Valued A))
cons_with p none o = none
cons_with p (some v) none = none
cons_with p (some v) (some vs) = some (valued p v ∷ vs)

-- the token at the front of s, if it has any byte, and then what `more` says
abbrev pub token_and : ℕ → List ℕ → (ℕ → List ℕ → Option (List (Valued ℕ))) → Option (List (Valued ℕ))
token_and at [] more = some []
token_and at (b ∷ s) more =
    cons_with (part at (front token_byte (b ∷ s))) (hex top_token (front token_byte (b ∷ s)))
    (more (at + length (front token_byte (b ∷ s))) (rest token_byte (b ∷ s)))

-- n tokens at most
unfoldable pub tokens : ℕ → ℕ → List ℕ → Option (List (Valued ℕ))
tokens zero at s = some []
tokens (suc n) at s = token_and (at + length (front parting s)) (rest parting s) (tokens n)

abbrev pub palette_at : Part → Part → Res (Option Said)
palette_at i r = and_then (need bad_token (tokens 16 r.place r.bytes)) (λ ts. ok (some (palette i ts)))

-- ---- `timestamp:` (FORMAT 1.6 to 1.8)

-- the first n fields
unfoldable pub fields : ℕ → List Part → Option (List (Valued ℤ))
fields zero ps = some []
fields (suc n) [] = some []
fields (suc n) (p ∷ ps) = cons_with p (signed p.bytes) (fields n ps)

unfoldable pub steps : List (Valued ℤ) → Bool
steps fs =
    stays (field 0 fs *ℤ pos 60)
    && (stays (minutes fs)
    && (stays (minutes fs *ℤ pos 60)
    && (stays (seconds fs) && (stays (seconds fs *ℤ pos 1000000) && (stays (field 3 fs *ℤ pos 1000) && stays (start_of fs))))))

unfoldable pub first_such : (Part → Bool) → List Part → Option Part
first_such t [] = none
first_such t (p ∷ ps) = cond (t p) (some p) (first_such t ps)

unfoldable pub last_such : (Part → Bool) → List Part → Option Part
last_such t [] = none
last_such t (p ∷ ps) = or_else (last_such t ps) (cond (t p) (some p) none)

-- of a trimmed part
abbrev pub is_filepos : Part → Bool
is_filepos p = starts filepos_word p.bytes

abbrev pub is_other : Part → Bool
is_other p = not (is_filepos p)

-- the parts between commas, trimmed
unfoldable pub parts_at : ℕ → List ℕ → List Part
parts_at at s = map trim (split comma at s)

-- the position, after a time with these fields; ps are the parts of the line i. Whether it is too large is asked of the
-- number that was read
abbrev pub position_at : Part → List Part → List (Valued ℤ) → Part → Res (Option Said)
position_at i ps fs p =
    and_then (need bad_position (after filepos_word p))
    (λ x. and_then (need bad_position (position_of (trim x).bytes))
    (λ v. check (leb v top_stored) large_position (ok (some (timestamp i ps fs (valued (trim x) v))))))

abbrev pub timestamp_of : Part → List Part → Res (Option Said)
timestamp_of i ps =
    and_then (need no_time (first_such is_other ps))
    (λ t. and_then (need no_position (last_such is_filepos ps))
    (λ p. and_then (need bad_time (fields 4 (split colon t.place t.bytes))) (λ fs. check (steps fs) long_time (position_at i ps fs p))))

abbrev pub timestamp_at : Part → Part → Res (Option Said)
timestamp_at i r = timestamp_of i (parts_at r.place r.bytes)

-- ---- a line (FORMAT 1.2)
abbrev pub by_word : Part → Option Part → Option Part → Option Part → Res (Option Said)
by_word i (some r) p t = size_or i (halves letter_x r)
by_word i none (some r) t = palette_at i r
by_word i none none (some r) = timestamp_at i r
by_word i none none none = ok none

unfoldable pub line_of : Part → Res (Option Said)
line_of i = by_word i (after size_word i) (after palette_word i) (after timestamp_word i)
