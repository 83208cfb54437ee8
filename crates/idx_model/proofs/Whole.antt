-- From a text, with a byte or without, to what is measured and stored of it, and from there to the answers, over plain
-- variables. Assumes nothing.
use Prim.Native.Nat.{ℕ, zero, suc, ◌<◌, min}
use mathlib.Core.Path.{◌≡◌, refl, sym, ap, ◌∙◌, subst}
use Rattle.std.specs.Prelude.{Option, Some as some}
use mathlib.Core.List.{List, [], ◌∷◌}
use native.Mathlib.Omega.{arith}
use lib.IntN.{ℤ, pos}
use lib.ListN.{length, set}
use lib.Seq.{sets}
use borrow.Author.Tests.{lt-ltb}
use Rattle.outcome.specs.Outcome.{Res, ok, refuse, map_res, listed, listed_by, IsOk, short_cues}
use Rattle.outcome.proofs.Laws.{ok-injective, ok-not-refuse}
use Rattle.grammar.specs.Index.{Said, greys, ListedText, of_lines, no_bytes}
use Rattle.grammar.specs.IndexCues.{Cue, cues_of_lines, cues_of, first_palette, palette_of}
use Rattle.idx_numbers_model.proofs.Grammar.{never}
use Rattle.idx_model.specs.Text.{text_in, idx_in, idx_of}
use Rattle.idx_model.specs.Answers.{MeasuredAs, one_seen, seen_of, palette_over, idx_measured_of, IdxMeasuredAs, starts_of, positions_of, CuesStored, idx_answer, lines_with, idx_with, IdxStored, IdxRead, pick_of, cue_answer}
use Rattle.idx_model.specs.declared.Seen.{Seen}
use Rattle.idx_model.specs.declared.IdxAnswer.{IdxAnswer}
use Rattle.idx_model.specs.declared.CueAnswer.{CueAnswer}
use Rattle.idx_model.proofs.Picks.{text_open}

-- ---- a text of no bytes, and one with a byte
no_text : (text : List ℕ) → length text ≡ 0 → [] ≡ text
no_text [] e = refl
no_text (b ∷ s) e = absurd (omega arith)

with-bytes : (room : Option ℕ) (text : List ℕ) → (length text ≡ 0 → ⊥)
    → idx_in room text ≡ map_res of_lines (text_in room text)
unfolding idx_in
with-bytes room [] h = absurd (h refl)
with-bytes room (b ∷ s) h = refl

-- ---- `measure_empty`
module _ (cue room : ℕ) (was : List ℕ) where
  pub empty_refused : room ≡ 0 → IdxMeasuredAs cue was (idx_in (some room) []) (refuse short_cues) was
  unfolding idx_in
  empty_refused e =
      let q : idx_in (some room) [] ≡ refuse short_cues = rw e in
      record {
        says = ap (idx_measured_of cue) (sym q);
        palette = λ t f. ok-not-refuse (sym q ∙ f);
      }

  pub empty_seen : 0 < room → (s : Seen) → s ≡ one_seen → (p : List ℕ) → p ≡ greys
      → IdxMeasuredAs cue was (idx_in (some room) []) (ok s) p
  unfolding idx_in
  empty_seen h s e p f =
      let q : idx_in (some room) [] ≡ ok (no_bytes greys) = rw (lt-ltb 0 room h) in
      record {
        says = ap ok e ∙ ap (idx_measured_of cue) (sym q);
        palette = λ t g. f ∙ ap (palette_over was) (ok-injective (sym q ∙ g));
      }

-- ---- `measure_idx`
module _ (text : List ℕ) (cue room : ℕ) (was : List ℕ) (r : Res Seen) (now : List ℕ) where
  pub empty-measured : length text ≡ 0 → IdxMeasuredAs cue was (idx_in (some room) []) r now
      → IdxMeasuredAs cue was (idx_in (some room) text) r now
  empty-measured e =
      subst (λ (s : List ℕ). IdxMeasuredAs cue was (idx_in (some room) s) r now) (no_text text e)

  lines-measured : (x : Res (List Said)) → MeasuredAs cue was x r now → IdxMeasuredAs cue was (map_res of_lines x) r now
  lines-measured (ok ls) h =
      record {
        says = h.says;
        palette = λ t e. h.palette ls refl ∙ ap (palette_over was) (ok-injective e);
      }
  lines-measured (refuse n) h = record { says = h.says; palette = λ t e. ok-not-refuse e }

  pub bytes-measured : (length text ≡ 0 → ⊥) → MeasuredAs cue was (text_in (some room) text) r now
      → IdxMeasuredAs cue was (idx_in (some room) text) r now
  bytes-measured f h =
      subst (λ (x : Res ListedText). IdxMeasuredAs cue was x r now) (sym (with-bytes (some room) text f))
      (lines-measured (text_in (some room) text) h)

-- ---- `fill_idx`
module _ (text : List ℕ) (starts : List ℤ) (positions : List ℕ) (so : IsOk (idx_with starts positions text)) where
  module _ (e : length text ≡ 0) where
    empty_with : idx_with starts positions [] ≡ idx_with starts positions text
    empty_with = ap (idx_with starts positions) (no_text text e)

    -- an accepted text of no bytes has a place in both buffers
    pub empty_room : 0 < min (length starts) (length positions)
    unfolding idx_in
    empty_room = go (min (length starts) (length positions)) refl
      where
        go : (n : ℕ) → min (length starts) (length positions) ≡ n → 0 < min (length starts) (length positions)
        go zero f =
            let q : idx_with starts positions [] ≡ refuse short_cues = rw f in
            absurd (subst IsOk (sym empty_with ∙ q) so)
        go (suc n) f = omega arith

    pub empty-stored : (z : ℤ) → z ≡ pos 0 → IdxStored text starts positions (set starts 0 z) (set positions 0 0)
    unfolding idx_in
    empty-stored z f =
        let q : idx_with starts positions [] ≡ ok (no_bytes greys) =
        rw (lt-ltb 0 (min (length starts) (length positions)) empty_room) in
        let g : idx_with starts positions text ≡ ok (no_bytes greys) = sym empty_with ∙ q in
        record { starts_are = rw (f, g); positions_are = rw g }

  module _ (f : length text ≡ 0 → ⊥) where
    lines_with_lem : idx_with starts positions text ≡ map_res of_lines (lines_with starts positions text)
    lines_with_lem = with-bytes (some (min (length starts) (length positions))) text f

    lines_ok : (x : Res (List Said)) → IsOk (map_res of_lines x) → IsOk x
    lines_ok (ok ls) h = tt
    lines_ok (refuse n) h = h

    lines-cues : (x : Res (List Said)) → cues_of_lines (listed x) ≡ listed_by (map_res of_lines x) cues_of
    unfolding cues_of_lines
    lines-cues (ok ls) = refl
    lines-cues (refuse n) = refl

    pub bytes_ok : IsOk (lines_with starts positions text)
    bytes_ok = lines_ok (lines_with starts positions text) (subst IsOk lines_with_lem so)

    pub bytes-stored : (starts' : List ℤ) (positions' : List ℕ)
        → CuesStored (lines_with starts positions text) starts positions starts' positions'
        → IdxStored text starts positions starts' positions'
    bytes-stored starts' positions' h =
        let e : cues_of_lines (listed (lines_with starts positions text)) ≡ listed_by (idx_with starts positions text) cues_of =
        lines-cues (lines_with starts positions text) ∙ ap (λ (x : Res ListedText). listed_by x cues_of) (sym lines_with_lem) in
        record {
          starts_are = h.starts_are ∙ ap (λ (cs : List Cue). sets starts 0 (starts_of cs)) e;
          positions_are = h.positions_are ∙ ap (λ (cs : List Cue). sets positions 0 (positions_of cs)) e;
        }

-- ---- what measuring says of a text
measured-refused : (cue : ℕ) (text : Res ListedText) (r : Res Seen) (n : ℕ) → r ≡ idx_measured_of cue text
    → r ≡ refuse n → text ≡ refuse n
measured-refused cue (ok t) r n e f = never (cc)
measured-refused cue (refuse m) r n e f = let q : m ≡ n = cc in ap refuse q

measured-saw : (cue : ℕ) (text : Res ListedText) (r : Res Seen) (s : Seen) → r ≡ idx_measured_of cue text
    → r ≡ ok s → (t : ListedText) × (text ≡ ok t) × (s ≡ seen_of cue t)
measured-saw cue (ok t) r s e f = (t, refl, cc)
measured-saw cue (refuse m) r s e f = never (cc)

-- over a black palette it is the text's own
over_black : (t : ListedText) → palette_over first_palette t ≡ palette_of t
over_black (of_lines ls) = refl
over_black (no_bytes p) = refl

-- ---- `parse_idx`
module _ (text : List ℕ) (starts : List ℤ) (positions : List ℕ)
    (room : ℕ) (short : room ≡ min (length starts) (length positions))
    (r : Res Seen) (now : List ℕ) (told : IdxMeasuredAs 0 first_palette (idx_in (some room) text) r now) where
  same : idx_in (some room) text ≡ idx_with starts positions text
  same = ap (λ (n : ℕ). idx_in (some n) text) short

  pub idx_refused : (n : ℕ) → r ≡ refuse n → (a : Res IdxAnswer) → a ≡ refuse n
      → IdxRead text starts positions a starts positions
  unfolding idx_answer
  idx_refused n e a f =
      let q : idx_with starts positions text ≡ refuse n =
      sym same ∙ measured-refused 0 (idx_in (some room) text) r n told.says e in
      record {
        answer = f ∙ ap idx_answer (sym q);
        stored = record { starts_are = rw q; positions_are = rw q };
      }

  module _ (s : Seen) (e : r ≡ ok s) where
    seen : (t : ListedText) × (idx_in (some room) text ≡ ok t) × (s ≡ seen_of 0 t)
    seen = measured-saw 0 (idx_in (some room) text) r s told.says e

    found : idx_with starts positions text ≡ ok seen.0
    found = sym same ∙ seen.1

    pub idx_accepted : (a : Res IdxAnswer)
        → ((t : ListedText) (cue : ℕ) → s ≡ seen_of cue t → now ≡ palette_of t → a ≡ idx_answer (ok t))
        → (starts' : List ℤ) (positions' : List ℕ) → IdxStored text starts positions starts' positions'
        → IdxRead text starts positions a starts' positions'
    idx_accepted a f starts' positions' h =
        record {
          answer =
              f seen.0 0 seen.2 (told.palette seen.0 seen.1 ∙ over_black seen.0)
              ∙ ap idx_answer (sym found);
          stored = h;
        }

-- ---- `pick_cue`
module _ (text : List ℕ) (cue room : ℕ) (large : length text < room)
    (r : Res Seen) (now : List ℕ) (told : IdxMeasuredAs cue first_palette (idx_in (some room) text) r now) where
  pub cue-refused : (n : ℕ) → r ≡ refuse n → (a : Res CueAnswer) → a ≡ refuse n
      → a ≡ cue_answer (pick_of (idx_of text) cue)
  unfolding pick_of cue_answer
  cue-refused n e a f =
      f
      ∙ rw (sym (text_open text room large) ∙ measured-refused cue (idx_in (some room) text) r n told.says e)

  pub cue-picked : (s : Seen) → r ≡ ok s → (a : Res CueAnswer)
      → ((t : ListedText) → s ≡ seen_of cue t → now ≡ palette_of t → a ≡ cue_answer (pick_of (ok t) cue))
      → a ≡ cue_answer (pick_of (idx_of text) cue)
  cue-picked s e a f =
      let w = measured-saw cue (idx_in (some room) text) r s told.says e in
      f w.0 w.2 (told.palette w.0 w.1 ∙ over_black w.0)
      ∙ ap (λ (x : Res ListedText). cue_answer (pick_of x cue)) (sym w.1 ∙ text_open text room large)
