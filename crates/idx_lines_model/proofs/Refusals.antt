-- A line is refused with 2 to 9 or 41, in this order. Assumes nothing.
use Prim.Native.Nat.{ℕ}
use mathlib.Core.Path.{◌≡◌, refl, sym, subst}
use mathlib.Core.Bool.{true, false}
use lib.Dec.{eqb, leb}
use Rattle.std.specs.Prelude.{Option, Some as some, None as none}
use Rattle.outcome.proofs.Laws.{clash}
use Rattle.outcome.proofs.Numbers.{in_table, check-numbered, need-numbered, and_then-numbered}
use Rattle.outcome.specs.Outcome.{InTable, need, bad_width, bad_height, bad_token, no_time, no_position, bad_time, long_time, bad_position, large_position, no_cue, refusals, is_one_of, RefusedWith, refuse}
use Rattle.grammar.specs.Parts.{Part}
use Rattle.grammar.specs.IndexParts.{colon, letter_x}
use Rattle.grammar.specs.Index.{size_word, palette_word, timestamp_word, filepos_word, top_side, top_stored, start_of}
use Rattle.idx_numbers_model.specs.Parts.{trim, split, after, part, strip, front, rest, shorn, all}
use Rattle.idx_numbers_model.specs.Numbers.{unsigned, position_of, signed, bare}
use Rattle.idx_lines_model.specs.Lines.{Two, halves, size_or, tokens, fields, steps, first_such, last_such, is_filepos, is_other, parts_at, position_at, by_word, line_of}
use mathlib.Core.List.{[], ◌∷◌, ◌++◌}
use Rattle.grammar.specs.IndexNumbers.{numeral}
use Rattle.idx_lines_model.proofs.Cards.{past_stored, stamp}

-- a number of the table, and not that of a cue that is not there: texts are refused before a cue is asked for
pub record TextNumber (n : ℕ) : Type 0 where
  pub listed : InTable n
  pub not_no_cue : n ≡ no_cue → ⊥

pub text-number : (n : ℕ) → is_one_of n refusals ≡ true → eqb n no_cue ≡ false → TextNumber n
text-number n h k = record { listed = in_table n h; not_no_cue = λ e. clash (eqb n no_cue) (subst (λ (m : ℕ). eqb m no_cue ≡ true) (sym e) refl) k }

pub line-numbered : (i : Part) → RefusedWith TextNumber (line_of i)
unfolding line_of
line-numbered i = go (after size_word i) (after palette_word i) (after timestamp_word i)
  where
    sides : (t : Option Two) → RefusedWith TextNumber (size_or i t)
    sides none = tt
    sides (some t) =
        and_then-numbered TextNumber (need bad_width (unsigned 10 top_side (trim t.left).bytes)) _ (need-numbered TextNumber bad_width (unsigned 10 top_side (trim t.left).bytes) (text-number bad_width refl refl))
        (λ w. and_then-numbered TextNumber (need bad_height (unsigned 10 top_side (trim t.right).bytes)) _ (need-numbered TextNumber bad_height (unsigned 10 top_side (trim t.right).bytes) (text-number bad_height refl refl)) (λ h. tt))

    go : (a b c : Option Part) → RefusedWith TextNumber (by_word i a b c)
    go (some r) b c = sides (halves letter_x r)
    go none (some r) c = and_then-numbered TextNumber (need bad_token (tokens 16 r.place r.bytes)) _ (need-numbered TextNumber bad_token (tokens 16 r.place r.bytes) (text-number bad_token refl refl)) (λ ts. tt)
    go none none (some r) =
        and_then-numbered TextNumber (need no_time (first_such is_other (parts_at r.place r.bytes))) _ (need-numbered TextNumber no_time (first_such is_other (parts_at r.place r.bytes)) (text-number no_time refl refl))
        (λ t. and_then-numbered TextNumber (need no_position (last_such is_filepos (parts_at r.place r.bytes))) _ (need-numbered TextNumber no_position (last_such is_filepos (parts_at r.place r.bytes)) (text-number no_position refl refl))
        (λ p. and_then-numbered TextNumber (need bad_time (fields 4 (split colon t.place t.bytes))) _ (need-numbered TextNumber bad_time (fields 4 (split colon t.place t.bytes)) (text-number bad_time refl refl))
        (λ fs. check-numbered TextNumber (steps fs) long_time (position_at i (parts_at r.place r.bytes) fs p) (text-number long_time refl refl)
        (and_then-numbered TextNumber (need bad_position (after filepos_word p)) _ (need-numbered TextNumber bad_position (after filepos_word p) (text-number bad_position refl refl))
        (λ x. and_then-numbered TextNumber (need bad_position (position_of (trim x).bytes)) _
        (need-numbered TextNumber bad_position (position_of (trim x).bytes) (text-number bad_position refl refl))
        (λ v.
        check-numbered TextNumber (leb v top_stored) large_position _ (text-number large_position refl refl) tt))))))
    go none none none = tt

-- each order of FORMAT 9 in a line: one on which both are true, and the number that is given
pub orders :
    -- 2, and 3: `size:x`
    (line_of (part 0 (115 ∷ 105 ∷ 122 ∷ 101 ∷ 58 ∷ 120 ∷ [])) ≡ refuse bad_width)
    -- 5, and 9: `timestamp:filepos:`
    × (line_of (part 0 (116 ∷ 105 ∷ 109 ∷ 101 ∷ 115 ∷ 116 ∷ 97 ∷ 109 ∷ 112 ∷ 58 ∷ 102 ∷ 105 ∷ 108 ∷ 101 ∷ 112 ∷ 111 ∷ 115 ∷ 58 ∷ [])) ≡ refuse no_time)
    -- 6, and 7: `timestamp:`
    × (line_of (part 0 (116 ∷ 105 ∷ 109 ∷ 101 ∷ 115 ∷ 116 ∷ 97 ∷ 109 ∷ 112 ∷ 58 ∷ [])) ≡ refuse no_position)
    -- 6, and 8: `timestamp:2562047789`
    × (line_of (part 0 (116 ∷ 105 ∷ 109 ∷ 101 ∷ 115 ∷ 116 ∷ 97 ∷ 109 ∷ 112 ∷ 58 ∷ 50 ∷ 53 ∷ 54 ∷ 50 ∷ 48 ∷ 52 ∷ 55 ∷ 55 ∷ 56 ∷ 57 ∷ [])) ≡ refuse no_position)
    -- 7, and 8: `timestamp:2562047789:x,filepos:0`
    × (line_of (part 0 (116 ∷ 105 ∷ 109 ∷ 101 ∷ 115 ∷ 116 ∷ 97 ∷ 109 ∷ 112 ∷ 58 ∷ 50 ∷ 53 ∷ 54 ∷ 50 ∷ 48 ∷ 52 ∷ 55 ∷ 55 ∷ 56 ∷ 57 ∷ 58 ∷ 120 ∷ 44 ∷ 102 ∷ 105 ∷ 108 ∷ 101 ∷ 112 ∷ 111 ∷ 115 ∷ 58 ∷ 48 ∷ [])) ≡ refuse bad_time)
    -- 7, and 9: `timestamp:x,filepos:`
    × (line_of (part 0 (116 ∷ 105 ∷ 109 ∷ 101 ∷ 115 ∷ 116 ∷ 97 ∷ 109 ∷ 112 ∷ 58 ∷ 120 ∷ 44 ∷ 102 ∷ 105 ∷ 108 ∷ 101 ∷ 112 ∷ 111 ∷ 115 ∷ 58 ∷ [])) ≡ refuse bad_time)
    -- 8, and 9: `timestamp:2562047789,filepos:`
    × (line_of (part 0 (116 ∷ 105 ∷ 109 ∷ 101 ∷ 115 ∷ 116 ∷ 97 ∷ 109 ∷ 112 ∷ 58 ∷ 50 ∷ 53 ∷ 54 ∷ 50 ∷ 48 ∷ 52 ∷ 55 ∷ 55 ∷ 56 ∷ 57 ∷ 44 ∷ 102 ∷ 105 ∷ 108 ∷ 101 ∷ 112 ∷ 111 ∷ 115 ∷ 58 ∷ [])) ≡ refuse long_time)
    -- 5, and 41: `timestamp:filepos:100000000`
    × (line_of (part 0 (timestamp_word ++ filepos_word ++ past_stored)) ≡ refuse no_time)
    -- 7, and 41: `timestamp:x,filepos:100000000`
    × (line_of (part 0 (timestamp_word ++ 120 ∷ 44 ∷ filepos_word ++ past_stored)) ≡ refuse bad_time)
    -- 8, and 41: `timestamp:2562047789,filepos:100000000`
    × (line_of
    (part 0 (timestamp_word ++ 50 ∷ 53 ∷ 54 ∷ 50 ∷ 48 ∷ 52 ∷ 55 ∷ 55 ∷ 56 ∷ 57 ∷ 44 ∷ filepos_word ++ past_stored))
    ≡ refuse long_time)
    -- 9, and no 41: `timestamp:0,filepos:18446744073709551616`, which is above 64 bits
    × (line_of
    (part 0
    (stamp
    (49 ∷ 56 ∷ 52 ∷ 52 ∷ 54 ∷ 55 ∷ 52 ∷ 52 ∷ 48 ∷ 55 ∷ 51 ∷ 55 ∷ 48 ∷ 57 ∷ 53 ∷ 53 ∷ 49 ∷ 54 ∷ 49 ∷ 54 ∷ [])))
    ≡ refuse bad_position)
unfolding line_of strip trim front rest shorn split parts_at first_such last_such fields steps unsigned signed bare all numeral start_of
orders = (refl, refl, refl, refl, refl, refl, refl, refl, refl, refl, refl)
