-- What the contracts say of the text of no bytes (FORMAT 1.13), and of a text of blanks alone, which is not it.
-- Assumes nothing.
use Prim.Native.Nat.{ℕ, zero, suc, ◌<◌, min}
use mathlib.Core.Path.{◌≡◌, refl, ap, ◌∙◌}
use mathlib.Core.Bool.{false}
use mathlib.Core.List.{List, []}
use native.Mathlib.Omega.{arith}
use lib.IntN.{ℤ, pos}
use lib.ListN.{length, set, replicate}
use borrow.Author.Tests.{lt-ltb}
use Rattle.outcome.specs.Outcome.{Res, ok, refuse, no_cue, short_cues}
use Rattle.grammar.specs.IndexParts.{blank, line_end, All}
use Rattle.grammar.specs.Index.{greys, ListedText, of_lines, no_bytes, IsText}
use Rattle.grammar.specs.IndexCues.{cues_of_lines, palette_from, lines_have_palette, size_from, cues_of, cue_at, duration_of}
use Rattle.grammar.specs.Reading.{Wanted, Reading, IsReading}
use Rattle.grammar.proofs.NoBytes.{low_blanks, blanks_say-nothing, no_cue-unread}
use Rattle.idx_numbers_model.specs.Parts.{split}
use Rattle.idx_numbers_model.proofs.Grammar.{split-is}
use Rattle.clock_model.specs.Answers.{micros}
use Rattle.idx_model.specs.Text.{idx_in, idx_of}
use Rattle.idx_model.specs.Answers.{idx_answer, idx_with, IdxRead, pick_of, cue_answer}
use Rattle.std.specs.Prelude.{None as none}
use Rattle.idx_model.specs.declared.IdxAnswer.{IdxAnswer}
use Rattle.idx_model.specs.declared.CueAnswer.{CueAnswer}
use Rattle.idx_model.proofs.Grammar.{text_iff, room_iff, text_unique}

-- ---- the text of no bytes
module _ (starts : List ℤ) (positions : List ℕ) (r : Res IdxAnswer) (starts' : List ℤ) (positions' : List ℕ)
    (h : IdxRead [] starts positions r starts' positions') where
  -- with no place in one of the buffers it is refused, and both are as found
  pub read_short : min (length starts) (length positions) ≡ 0
      → (r ≡ refuse short_cues) × (starts' ≡ starts) × (positions' ≡ positions)
  unfolding idx_in idx_answer
  read_short e =
      let q : idx_with starts positions [] ≡ refuse short_cues = rw e in (
        h.answer ∙ ap idx_answer q,
        rw q at h.stored.starts_are,
        rw q at h.stored.positions_are,
      )

  -- with one in each it is one cue, stored in the first of them
  pub read-stored : 0 < min (length starts) (length positions)
      → (r ≡ ok (record { width = 0; height = 0; has_palette = false; palette = greys; cues = 1 }))
      × (starts' ≡ set starts 0 (pos 0)) × (positions' ≡ set positions 0 0)
  unfolding idx_in idx_answer
  read-stored k =
      let q : idx_with starts positions [] ≡ ok (no_bytes greys) =
      rw (lt-ltb 0 (min (length starts) (length positions)) k) in
      (h.answer ∙ ap idx_answer q, rw q at h.stored.starts_are, rw q at h.stored.positions_are)

pub picked_first : (r : Res CueAnswer) → r ≡ cue_answer (pick_of (idx_of []) 0)
    → r
    ≡ ok
    (record {
      start = micros (pos 0);
      position = 0;
      duration = none;
      has_palette = false;
      palette = greys;
    })
unfolding pick_of idx_in cue_at duration_of cue_answer
picked_first r h = h

pub picked_other : (n : ℕ) (r : Res CueAnswer) → r ≡ cue_answer (pick_of (idx_of []) n) → 0 < n → r ≡ refuse no_cue
unfolding pick_of idx_in cue_at cue_answer
picked_other zero r h k = absurd (omega arith)
picked_other (suc n) r h k = h

-- ---- blanks alone say nothing: no cue, and black
pub blanks-listed : (text : List ℕ) → All blank text → (text ≡ [] → ⊥) → IsText text (of_lines [])
blanks-listed text h f = (
  f,
  record {
    low = low_blanks text h;
    all_lines = split line_end 0 text;
    parted = split-is line_end 0 text;
    listed = blanks_say-nothing 0 text (split line_end 0 text) (split-is line_end 0 text) h;
  },
)

pub blanks_unread : (text file : List ℕ) (q : Wanted) → All blank text → (text ≡ [] → ⊥)
    → (x : Reading) → IsReading text file q x → ⊥
unfolding cues_of_lines
blanks_unread text file q h f = no_cue-unread text file q (of_lines []) (blanks-listed text h f) refl

module _ (text : List ℕ) (h : All blank text) (f : text ≡ [] → ⊥) where
  pub blanks_cueless : (t : ListedText) → IsText text t → cues_of t ≡ []
  unfolding cues_of_lines
  blanks_cueless t k = ap cues_of (text_unique text t (of_lines []) k (blanks-listed text h f))

  pub blanks-read : (starts : List ℤ) (positions : List ℕ) (r : Res IdxAnswer) (starts' : List ℤ) (positions' : List ℕ)
      → IdxRead text starts positions r starts' positions'
      → (r ≡ ok (record { width = 0; height = 0; has_palette = false; palette = replicate 48 0; cues = 0 }))
      × (starts' ≡ starts) × (positions' ≡ positions)
  unfolding cues_of_lines palette_from lines_have_palette size_from idx_answer
  blanks-read starts positions r starts' positions' d =
      let q : idx_with starts positions text ≡ ok (of_lines []) =
      (room_iff (min (length starts) (length positions)) text (of_lines [])).1 (blanks-listed text h f, omega arith) in
      (d.answer ∙ ap idx_answer q, rw q at d.stored.starts_are, rw q at d.stored.positions_are)

  pub blanks_picked : (n : ℕ) (r : Res CueAnswer) → r ≡ cue_answer (pick_of (idx_of text) n) → r ≡ refuse no_cue
  unfolding pick_of cue_answer cues_of_lines cue_at
  blanks_picked n r d =
      let q : idx_of text ≡ ok (of_lines []) = (text_iff text (of_lines [])).1 (blanks-listed text h f) in
      d ∙ ap (λ (x : Res ListedText). cue_answer (pick_of x n)) q
