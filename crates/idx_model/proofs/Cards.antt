-- Closed inputs on which each edit of this crate's definitions gives another value. Assumes nothing.
use Prim.Native.Nat.{ℕ}
use mathlib.Core.Path.{◌≡◌, refl}
use mathlib.Core.Bool.{true, false}
use Rattle.std.specs.Prelude.{Some as some, None as none}
use mathlib.Core.List.{[], ◌∷◌}
use lib.IntN.{pos}
use Rattle.outcome.specs.Outcome.{ok, refuse, map_res, large_position, short_cues, no_cue}
use Rattle.grammar.specs.IndexNumbers.{numeral}
use Rattle.grammar.specs.Index.{start_of, greys_from}
use Rattle.grammar.specs.IndexCues.{cues_of_lines, cue_at, duration_of}
use Rattle.idx_numbers_model.specs.Parts.{strip, trim, front, rest, shorn, split, all}
use Rattle.idx_numbers_model.specs.Numbers.{unsigned, signed, bare}
use Rattle.idx_lines_model.specs.Lines.{line_of, parts_at, first_such, last_such, fields, steps}
use Rattle.idx_lines_model.proofs.Cards.{past_stored, stamp}
use Rattle.grammar.specs.Record.{given}
use Rattle.clock_model.specs.Answers.{micros}
use Rattle.idx_model.specs.Text.{room_after, lines_in, text_in, idx_in, idx_of}
use Rattle.idx_model.specs.Answers.{idx_answer, idx_with, Picked, pick_of, or_zero, cue_answer}

-- no place is left after as many cues as there are places
pub no_place : room_after (some 0) 0 ≡ false
no_place = refl

-- `#`, 0D, `size:x`: one line, which says nothing
pub one_line : text_in none (35 ∷ 13 ∷ 115 ∷ 105 ∷ 122 ∷ 101 ∷ 58 ∷ 120 ∷ []) ≡ ok []
unfolding text_in lines_in line_of strip trim front rest shorn split all
one_line = refl

-- the last of two cues, `timestamp:0,filepos:0` and `timestamp:1,filepos:0`, has no duration
pub last-duration : map_res (λ (p : Picked). p.duration) (pick_of (idx_of (116 ∷ 105 ∷ 109 ∷ 101 ∷ 115 ∷ 116 ∷ 97 ∷ 109 ∷ 112 ∷ 58 ∷ 48 ∷ 44 ∷ 102 ∷ 105 ∷ 108 ∷ 101 ∷ 112 ∷ 111 ∷ 115 ∷ 58 ∷ 48 ∷ 10 ∷ 116 ∷ 105 ∷ 109 ∷ 101 ∷ 115 ∷ 116 ∷ 97 ∷ 109 ∷ 112 ∷ 58 ∷ 49 ∷ 44 ∷ 102 ∷ 105 ∷ 108 ∷ 101 ∷ 112 ∷ 111 ∷ 115 ∷ 58 ∷ 48 ∷ [])) 1) ≡ ok none
unfolding pick_of idx_in text_in lines_in line_of strip trim front rest shorn split parts_at first_such last_such fields steps unsigned signed bare all numeral start_of cues_of_lines cue_at duration_of
last-duration = refl

-- a duration that is not given is 0
pub duration-given :
    (given {A = ℕ} none ≡ false) × (given {A = ℕ} (some 7) ≡ true) × (or_zero none ≡ 0) × (or_zero (some 7) ≡ 7)
duration-given = (refl, refl, refl, refl)

-- `timestamp:0,filepos:100000000`, and no place: 41, and not 10
pub large_without_place : idx_in (some 0) (stamp past_stored) ≡ refuse large_position
unfolding idx_in text_in lines_in line_of strip trim front rest shorn split parts_at first_such last_such fields steps unsigned signed bare all numeral start_of
large_without_place = refl

-- no bytes and a place in both buffers: one cue, in greys that no line gives
pub empty-read :
    idx_answer (idx_with (pos 5 ∷ []) (6 ∷ 7 ∷ []) [])
    ≡ ok (record {
      width = 0;
      height = 0;
      has_palette = false;
      palette = 0 ∷ 0 ∷ 0 ∷ 17 ∷ 17 ∷ 17 ∷ greys_from 14 2;
      cues = 1;
    })
unfolding idx_answer idx_in greys_from
empty-read = refl

-- no place in either buffer
pub empty_short : (idx_with [] (6 ∷ []) [] ≡ refuse short_cues) × (idx_with (pos 5 ∷ []) [] [] ≡ refuse short_cues)
unfolding idx_in
empty_short = (refl, refl)

-- cue 0 starts at 0 at the file's front and has no duration; there is no cue 1
pub empty_picked :
    (cue_answer (pick_of (idx_of []) 0)
    ≡ ok (record {
      start = micros (pos 0);
      position = 0;
      duration = none;
      has_palette = false;
      palette = 0 ∷ 0 ∷ 0 ∷ 17 ∷ 17 ∷ 17 ∷ greys_from 14 2;
    }))
    × (pick_of (idx_of []) 1 ≡ refuse no_cue)
unfolding pick_of idx_in cue_answer cue_at duration_of greys_from
empty_picked = (refl, refl)
