-- A text is refused with a number of the table: 1, then 2 to 10 or 41 of its first faulty line; and for one cue 11
-- after these. Assumes nothing.
use Prim.Native.Nat.{ℕ, ◌+◌}
use mathlib.Core.Path.{◌≡◌, refl, subst}
use Rattle.std.specs.Prelude.{Option, Some as some, None as none}
use mathlib.Core.List.{List, [], ◌∷◌, ◌++◌}
use Rattle.outcome.proofs.Numbers.{in_table, check-numbered, need-numbered, and_then-numbered, map_res-numbered, refused_also}
use Rattle.outcome.specs.Outcome.{InTable, ok, refuse, need, high_byte, short_cues, no_cue, RefusedWith, Numbered, bad_width, bad_token, bad_position, large_position}
use Rattle.grammar.specs.Parts.{Part}
use Rattle.grammar.specs.IndexParts.{line_end}
use Rattle.grammar.specs.IndexCues.{cues_of, cue_at}
use Rattle.idx_numbers_model.specs.Parts.{all, trim, split, strip, front, rest, shorn}
use Rattle.idx_lines_model.specs.Lines.{line_of, tokens, parts_at, first_such, last_such, fields, steps}
use Rattle.idx_model.specs.Text.{or_none, cues_in, room_after, room_for, lines_in, low_byte, text_in, idx_in, idx_of}
use Rattle.idx_model.specs.Answers.{pick_of}
use Rattle.idx_lines_model.proofs.Refusals.{TextNumber, text-number, line-numbered}
use Rattle.idx_lines_model.proofs.Cards.{past_stored, stamp}
use Rattle.outcome.proofs.Numbers.{not-0}
use Rattle.grammar.specs.IndexNumbers.{numeral}
use Rattle.grammar.specs.Index.{start_of, greys, of_lines, no_bytes}
use Rattle.idx_numbers_model.specs.Numbers.{unsigned, signed, bare}

lines-numbered : (room : Option ℕ) (ps : List Part) (k : ℕ) → RefusedWith TextNumber (lines_in room k ps)
unfolding lines_in
lines-numbered room [] k = tt
lines-numbered room (p ∷ ps) k =
    and_then-numbered TextNumber (line_of (trim p)) _ (line-numbered (trim p))
    (λ o. check-numbered TextNumber (room_for room k o) short_cues _ (text-number short_cues refl refl)
    (and_then-numbered TextNumber (lines_in room (k + cues_in o) ps) (λ ls. ok (or_none o ls)) (lines-numbered room ps (k + cues_in o)) (λ ls. tt)))

text-lines-refused : (room : Option ℕ) (text : List ℕ) → RefusedWith TextNumber (text_in room text)
unfolding text_in
text-lines-refused room text =
    check-numbered TextNumber (all low_byte text) high_byte (lines_in room 0 (split line_end 0 text)) (text-number high_byte refl refl) (lines-numbered room (split line_end 0 text) 0)

text_refused : (room : Option ℕ) (text : List ℕ) → RefusedWith TextNumber (idx_in room text)
unfolding idx_in
text_refused room [] =
    check-numbered TextNumber (room_after room 0) short_cues (ok (no_bytes greys)) (text-number short_cues refl refl) tt
text_refused room (b ∷ s) = map_res-numbered TextNumber of_lines (text_in room (b ∷ s)) (text-lines-refused room (b ∷ s))

pub text_numbered : (room : Option ℕ) (text : List ℕ) → Numbered (idx_in room text)
text_numbered room text = refused_also TextNumber InTable (λ n h. h.listed) (idx_in room text) (text_refused room text)

-- and never with 11
pub text-not-11 : (room : Option ℕ) (text : List ℕ) (n : ℕ) → idx_in room text ≡ refuse n → n ≡ no_cue → ⊥
text-not-11 room text n e = (subst (RefusedWith TextNumber) e (text_refused room text)).not_no_cue

pub text_refuses : (room : Option ℕ) (text : List ℕ) (n : ℕ) → idx_in room text ≡ refuse n → n ≡ 0 → ⊥
text_refuses room text n e z = not-0 n (subst Numbered e (text_numbered room text)) z

pub pick-numbered : (text : List ℕ) (n : ℕ) → Numbered (pick_of (idx_of text) n)
unfolding pick_of
pick-numbered text n =
    and_then-numbered InTable (idx_of text) _ (text_numbered none text)
    (λ t. and_then-numbered InTable (need no_cue (cue_at (cues_of t) n)) _ (need-numbered InTable no_cue (cue_at (cues_of t) n) (in_table no_cue refl)) (λ c. tt))

-- each order of FORMAT 9: a text and the room of the cue buffers on which both are true, and the number that is given
pub orders :
    -- 1, and 2: `size:x` and a byte 80
    (idx_in none (115 ∷ 105 ∷ 122 ∷ 101 ∷ 58 ∷ 120 ∷ 128 ∷ []) ≡ refuse high_byte)
    -- of two faulty lines the first: `palette:g`, `size:x`
    × (idx_in none (112 ∷ 97 ∷ 108 ∷ 101 ∷ 116 ∷ 116 ∷ 101 ∷ 58 ∷ 103 ∷ 10 ∷ 115 ∷ 105 ∷ 122 ∷ 101 ∷ 58 ∷ 120 ∷ []) ≡ refuse bad_token)
    -- 9, and 10 of one line: `timestamp:0,filepos:`, and no place
    × (idx_in (some 0) (116 ∷ 105 ∷ 109 ∷ 101 ∷ 115 ∷ 116 ∷ 97 ∷ 109 ∷ 112 ∷ 58 ∷ 48 ∷ 44 ∷ 102 ∷ 105 ∷ 108 ∷ 101 ∷ 112 ∷ 111 ∷ 115 ∷ 58 ∷ []) ≡ refuse bad_position)
    -- 10, and then 2: `timestamp:0,filepos:0`, `size:x`, and no place
    × (idx_in (some 0) (116 ∷ 105 ∷ 109 ∷ 101 ∷ 115 ∷ 116 ∷ 97 ∷ 109 ∷ 112 ∷ 58 ∷ 48 ∷ 44 ∷ 102 ∷ 105 ∷ 108 ∷ 101 ∷ 112 ∷ 111 ∷ 115 ∷ 58 ∷ 48 ∷ 10 ∷ 115 ∷ 105 ∷ 122 ∷ 101 ∷ 58 ∷ 120 ∷ []) ≡ refuse short_cues)
    -- 2, and then 10: `size:x`, `timestamp:0,filepos:0`, and no place
    × (idx_in (some 0) (115 ∷ 105 ∷ 122 ∷ 101 ∷ 58 ∷ 120 ∷ 10 ∷ 116 ∷ 105 ∷ 109 ∷ 101 ∷ 115 ∷ 116 ∷ 97 ∷ 109 ∷ 112 ∷ 58 ∷ 48 ∷ 44 ∷ 102 ∷ 105 ∷ 108 ∷ 101 ∷ 112 ∷ 111 ∷ 115 ∷ 58 ∷ 48 ∷ []) ≡ refuse bad_width)
    -- 1, and 41: `timestamp:0,filepos:100000000` and a byte 80
    × (idx_in none (stamp past_stored ++ 10 ∷ 128 ∷ []) ≡ refuse high_byte)
    -- 41, and 10 of one line: the second, where the first has the one place
    × (idx_in (some 1) (stamp (48 ∷ []) ++ 10 ∷ stamp past_stored) ≡ refuse large_position)
    -- 10, and then 41: no place for the first
    × (idx_in (some 0) (stamp (48 ∷ []) ++ 10 ∷ stamp past_stored) ≡ refuse short_cues)
    -- 2, and then 41: `size:x` before it; and 41, and then 2
    × (idx_in none (115 ∷ 105 ∷ 122 ∷ 101 ∷ 58 ∷ 120 ∷ 10 ∷ stamp past_stored) ≡ refuse bad_width)
    × (idx_in none (stamp past_stored ++ 10 ∷ 115 ∷ 105 ∷ 122 ∷ 101 ∷ 58 ∷ 120 ∷ []) ≡ refuse large_position)
unfolding idx_in text_in lines_in line_of tokens strip trim front rest shorn split parts_at first_such last_such fields steps unsigned signed bare all numeral start_of
orders = (refl, refl, refl, refl, refl, refl, refl, refl, refl, refl)

-- and for one cue: a text and the cue
pub cue-orders :
    -- 4, and 11: `palette:g`, of which no cue is the first
    (pick_of (idx_of (112 ∷ 97 ∷ 108 ∷ 101 ∷ 116 ∷ 116 ∷ 101 ∷ 58 ∷ 103 ∷ [])) 0 ≡ refuse bad_token)
    -- 41, and 11: `timestamp:0,filepos:100000000`, of which no cue is the second
    × (pick_of (idx_of (stamp past_stored)) 1 ≡ refuse large_position)
    -- 41 of a later cue, and of an earlier one, than the one that is asked for
    × (pick_of (idx_of (stamp (48 ∷ []) ++ 10 ∷ stamp past_stored)) 0 ≡ refuse large_position)
    × (pick_of (idx_of (stamp past_stored ++ 10 ∷ stamp (48 ∷ []))) 1 ≡ refuse large_position)
unfolding pick_of idx_in text_in lines_in line_of tokens strip trim front rest shorn split parts_at first_such last_such fields steps unsigned signed bare all numeral start_of
cue-orders = (refl, refl, refl, refl)
