-- A text is refused with 41 exactly where its first faulty line has a position above what is stored, and there is room
-- for the cues before it; and of an accepted one every position is stored whole. Assumes nothing.
use Prim.Native.Nat.{ℕ, zero, suc, ◌+◌, ◌≤◌, ◌<◌, min}
use mathlib.Core.Path.{◌≡◌, refl, sym, ap, ◌∙◌}
use mathlib.Core.Logic.{⊎_elim, ◌↔◌}
use Rattle.std.specs.Prelude.{Option, Some as some, None as none}
use mathlib.Core.List.{List, [], ◌∷◌, ◌++◌}
use native.Mathlib.Omega.{arith}
use native.Mathlib.Nat.{add-zero}
use lib.ListN.{length, get_or, length-map, get_or-append}
use lib.Seq.{sets-eq}
use lib.IntN.{ℤ}
use Rattle.outcome.specs.Outcome.{Res, ok, refuse, and_then, need, map_res, high_byte, large_position, short_cues, no_cue, IsOk}
use Rattle.outcome.proofs.Laws.{ok-not-refuse, refuse-injective}
use Rattle.grammar.specs.Parts.{Part}
use Rattle.grammar.specs.IndexParts.{line_end, Trimmed}
use Rattle.grammar.specs.Index.{Said, LargePosition, LinesListed, LargeIn, FirstLarge, greys, ListedText, of_lines, no_bytes, IsText}
use Rattle.grammar.specs.IndexCues.{Cue, cues_of_lines, cues_of, cue_at, duration_of, palette_of, has_palette}
use Rattle.grammar.proofs.Positions.{large_text, positions-stored}
use Rattle.idx_numbers_model.specs.Parts.{all, trim, split}
use Rattle.idx_numbers_model.proofs.Grammar.{trim-is, trim-one, split-is, split_one, all_true, true-all}
use Rattle.idx_lines_model.specs.Lines.{line_of}
use Rattle.idx_lines_model.proofs.Grammar.{SaysThis, line-is, line-one, line-large, large-line, unchecked}
use Rattle.idx_model.specs.Text.{or_none, cues_in, room_after, room_for, lines_in, low_byte, text_in, idx_in, idx_of}
use Rattle.idx_model.specs.Answers.{positions_of, idx_answer, idx_with, IdxRead, Picked, pick_of, cue_answer}
use Rattle.idx_model.specs.declared.IdxAnswer.{IdxAnswer}
use Rattle.idx_model.specs.declared.CueAnswer.{CueAnswer}
use Rattle.idx_model.proofs.Grammar.{Roomy, count, list-one, room_next, room_sum, room-yes, sum_room, none_yet, from_zero, to-zero, text_unique}
use Rattle.idx_model.proofs.Claim.{idx_claim, cue-claim}

-- what follows a line that was read, where the whole was refused
after_line : {A B : Type 0} (r : Res A) (k : A → Res B) (n : ℕ) → and_then r k ≡ refuse n
    → {C : Type 0} → (r ≡ refuse n → C) → ((a : A) → r ≡ ok a → k a ≡ refuse n → C) → C
after_line (ok a) k n e f g = g a refl e
after_line (refuse m) k n e f g = let q : m ≡ n = cc in f (ap refuse q)

-- ---- lines that were refused with 41
record Met (room : Option ℕ) (k : ℕ) (ps : List Part) : Type 0 where
  front : List Part
  line : Part
  back : List Part
  are : ps ≡ front ++ line ∷ back
  before : List Said
  listed : LinesListed front before
  roomy : Roomy room (k + length (cues_of_lines before))
  large : LargePosition (trim line)

lines-met : (room : Option ℕ) (ps : List Part) (k : ℕ) → Roomy room k → lines_in room k ps ≡ refuse large_position
    → Met room k ps
unfolding lines_in cues_of_lines
lines-met room [] k r e = ok-not-refuse (sym e)
lines-met room (p ∷ ps) k r e =
    after_line (line_of (trim p)) _ large_position e here
    (λ o q f. unchecked short_cues large_position (room_for room k o) _ f (λ t z. absurd (omega arith))
    (λ t g. after_line (lines_in room (k + cues_in o) ps) _ large_position g
    (λ h. later o q (lines-met room ps (k + cues_in o) (room_next room k o r t) h)) (λ ls h m. ok-not-refuse (sym m))))
  where
    here : line_of (trim p) ≡ refuse large_position → Met room k (p ∷ ps)
    here q =
        record {
          front = [];
          line = p;
          back = ps;
          are = refl;
          before = [];
          listed = tt;
          roomy = rw (add-zero k) r;
          large = line-large (trim p) q;
        }

    later : (o : Option Said) → line_of (trim p) ≡ ok o → Met room (k + cues_in o) ps → Met room k (p ∷ ps)
    later o q m =
        record {
          front = p ∷ m.front;
          line = m.line;
          back = m.back;
          are = ap (λ (x : List Part). p ∷ x) m.are;
          before = or_none o m.before;
          listed = list-one p m.front o m.before (line-is (trim p) o q) m.listed;
          roomy =
              room_sum room k (cues_in o) (length (cues_of_lines m.before))
              (length (cues_of_lines (or_none o m.before))) (count o m.before) m.roomy;
          large = m.large;
        }

-- ---- lines after listed ones, for which there is room: where they are refused, all are
module _ (room : Option ℕ) (rest : List Part) (n : ℕ) (refused : (j : ℕ) → lines_in room j rest ≡ refuse n) where
  next : (p : Part) (ps : List Part) (k : ℕ) (o : Option Said) (ms : List Said) (i : Part) → Trimmed p i → SaysThis i o
      → Roomy room (k + length (cues_of_lines (or_none o ms)))
      → ((j : ℕ) → Roomy room (j + length (cues_of_lines ms)) → lines_in room j (ps ++ rest) ≡ refuse n)
      → lines_in room k (p ∷ ps ++ rest) ≡ refuse n
  unfolding lines_in
  next p ps k o ms i t s r more =
      let left =
      sum_room room k (cues_in o) (length (cues_of_lines ms)) (length (cues_of_lines (or_none o ms))) (count o ms) r in
      rw (trim-one p i t, line-one i o s, room-yes room k o ms r, more (k + cues_in o) left)

  refused-after : (front : List Part) (k : ℕ) (ls : List Said) → LinesListed front ls
      → Roomy room (k + length (cues_of_lines ls)) → lines_in room k (front ++ rest) ≡ refuse n
  refused-after [] k ls h r = refused k
  refused-after (p ∷ ps) k [] h r =
      next p ps k none [] h.0 h.1 h.2 r (λ j. refused-after ps j [] h.3)
  refused-after (p ∷ ps) k (l ∷ ls) h r =
      ⊎_elim (λ m. next p ps k none (l ∷ ls) h.0 h.1 m.0 r (λ j. refused-after ps j (l ∷ ls) m.1))
      (λ m. next p ps k (some l) ls h.0 h.1 m.0 r (λ j. refused-after ps j ls m.1)) h.2

-- ---- the text
large_is : (room : Option ℕ) (text : List ℕ) → idx_in room text ≡ refuse large_position
    → (ls : List Said) × FirstLarge text ls × Roomy room (length (cues_of_lines ls))
unfolding idx_in text_in
large_is room [] e =
    unchecked short_cues large_position (room_after room 0) (ok (no_bytes greys)) e (λ t z. absurd (omega arith))
    (λ t z. ok-not-refuse (sym z))
large_is room (b ∷ s) e =
    unchecked high_byte large_position (all low_byte (b ∷ s)) (lines_in room 0 (split line_end 0 (b ∷ s)))
    (plain (text_in room (b ∷ s)) e) (λ t z. absurd (omega arith))
    (λ t f.
    let m = lines-met room (split line_end 0 (b ∷ s)) 0 (none_yet room) f in (
      m.before,
      record {
        there =
            record {
              front = m.front;
              line = m.line;
              back = m.back;
              parted = rw m.are at (split-is line_end 0 (b ∷ s));
              trimmed = trim m.line;
              trims = trim-is m.line;
              large = m.large;
            };
        low = true-all low_byte (b ∷ s) t;
        listed = m.listed;
      },
      from_zero room (length (cues_of_lines m.before)) m.roomy,
    ))
  where
    plain : (x : Res (List Said)) → map_res of_lines x ≡ refuse large_position → x ≡ refuse large_position
    plain (ok ls) f = ok-not-refuse (sym f)
    plain (refuse m) f = let q : m ≡ large_position = cc in ap refuse q

large-one : (room : Option ℕ) (text : List ℕ) (ls : List Said) → FirstLarge text ls
    → Roomy room (length (cues_of_lines ls)) → idx_in room text ≡ refuse large_position
unfolding idx_in text_in lines_in
large-one room [] ls h r = absurd (large_text [] h.there (no_bytes greys) (refl, refl))
large-one room (b ∷ s) ls h r =
    let l = h.there in
    let last : (j : ℕ) → lines_in room j (l.line ∷ l.back) ≡ refuse large_position =
    λ j. rw (trim-one l.line l.trimmed l.trims, large-line l.trimmed l.large) in
    rw (
      all_true low_byte (b ∷ s) h.low,
      split_one line_end 0 (b ∷ s) (l.front ++ l.line ∷ l.back) l.parted,
      refused-after room (l.line ∷ l.back) large_position last l.front 0 ls h.listed
          (to-zero room (length (cues_of_lines ls)) r),
    )

pub text_large : (text : List ℕ) → (idx_of text ≡ refuse large_position) ↔ ((ls : List Said) × FirstLarge text ls)
text_large text = (
  λ e. let h = large_is none text e in (h.0, h.1),
  λ h. large-one none text h.0 h.1 tt,
)

-- ---- what the contracts say of it
answer_large : (x : Res ListedText) → (idx_answer x ≡ refuse large_position) ↔ (x ≡ refuse large_position)
unfolding idx_answer
answer_large (ok t) = (λ e. ok-not-refuse (sym e), λ e. ok-not-refuse (sym e))
answer_large (refuse n) = (λ e. ap refuse (refuse-injective e), λ e. ap refuse (refuse-injective e))

-- with cue buffers there is room for the cues of the lines before it
pub read-large : (text : List ℕ) (starts : List ℤ) (positions : List ℕ) (r : Res IdxAnswer)
    (starts' : List ℤ) (positions' : List ℕ)
    → IdxRead text starts positions r starts' positions'
    → (r ≡ refuse large_position)
    ↔ ((ls : List Said) × FirstLarge text ls × (length (cues_of_lines ls) ≤ min (length starts) (length positions)))
read-large text starts positions r starts' positions' d =
    let a = answer_large (idx_with starts positions text) in
    let e : r ≡ idx_answer (idx_with starts positions text) = d.answer in (
      λ f. large_is (some (min (length starts) (length positions))) text (a.0 (sym e ∙ f)),
      λ h. e ∙ a.1 (large-one (some (min (length starts) (length positions))) text h.0 h.1 h.2),
    )

cue-large : (x : Res ListedText) (n : ℕ)
    → (cue_answer (pick_of x n) ≡ refuse large_position) ↔ (x ≡ refuse large_position)
unfolding pick_of cue_answer
cue-large (refuse m) n = (λ e. ap refuse (refuse-injective e), λ e. ap refuse (refuse-injective e))
cue-large (ok t) n = (go (cue_at (cues_of t) n), λ e. ok-not-refuse (sym e))
  where
    picked : Cue → Picked
    picked c =
        record { cue = c; duration = duration_of (cues_of t) n; palette = palette_of t; coloured = has_palette t }

    go : (o : Option Cue) → cue_answer (and_then (need no_cue o) (λ c. ok (picked c))) ≡ refuse large_position
        → ok t ≡ refuse large_position
    go none e = absurd (omega (arith, refuse-injective e))
    go (some c) e = ok-not-refuse (sym e)

pub picked_large : (text : List ℕ) (n : ℕ) (r : Res CueAnswer) → r ≡ cue_answer (pick_of (idx_of text) n)
    → (r ≡ refuse large_position) ↔ ((ls : List Said) × FirstLarge text ls)
picked_large text n r d =
    let a = cue-large (idx_of text) n in
    let e : r ≡ cue_answer (pick_of (idx_of text) n) = d in (
      λ f. (text_large text).0 (a.0 (sym e ∙ f)),
      λ h. e ∙ a.1 ((text_large text).1 h),
    )

-- a text that has such a line anywhere is refused, and nothing is stored
pub large_refused : (text : List ℕ) → LargeIn text
    → (starts : List ℤ) (positions : List ℕ) (r : Res IdxAnswer) (starts' : List ℤ) (positions' : List ℕ)
    → IdxRead text starts positions r starts' positions'
    → (IsOk r → ⊥) × (starts' ≡ starts) × (positions' ≡ positions)
large_refused text h starts positions r starts' positions' d =
    let k = idx_claim text starts positions r starts' positions' d in
    let f : (IsOk r → ⊥) = λ e. let u = k.exactly_when.0 e in large_text text h u.0 u.1 in
    (f, (k.as_found f).0, (k.as_found f).1)

pub large_unpicked : (text : List ℕ) → LargeIn text
    → (n : ℕ) (r : Res CueAnswer) → r ≡ cue_answer (pick_of (idx_of text) n) → IsOk r → ⊥
large_unpicked text h n r d e = let u = (cue-claim text n r d).exactly_when.0 e in large_text text h u.0 u.1

-- ---- what is stored: the place of each cue holds its position, which is of 32 bits
position-there : (cs : List Cue) (n : ℕ) (c : Cue) → cue_at cs n ≡ some c
    → (n < length (positions_of cs)) × (get_or (positions_of cs) n 0 ≡ c.position)
unfolding cue_at
position-there [] n c e = absurd (let z : ◌≡◌ {A = ℕ} 0 1 = cc in omega arith)
position-there (d ∷ cs) zero c e = let q : d ≡ c = cc in (omega arith, ap (λ (x : Cue). x.position) q)
position-there (d ∷ cs) (suc n) c e = let k = position-there cs n c e in (omega (arith, k.0), k.1)

pub held_whole : (text : List ℕ) (starts : List ℤ) (positions : List ℕ) (r : Res IdxAnswer)
    (starts' : List ℤ) (positions' : List ℕ)
    → IdxRead text starts positions r starts' positions' → (t : ListedText) → IsText text t → (a : IdxAnswer) → r ≡ ok a
    → (n : ℕ) (c : Cue) → cue_at (cues_of t) n ≡ some c → (get_or positions' n 0 ≡ c.position) × (c.position ≤ 4294967295)
held_whole text starts positions r starts' positions' d t h a z n c e =
    let k = idx_claim text starts positions r starts' positions' d in
    let u = k.exactly_when.0 (rw z tt) in
    let q : u.0 ≡ t = text_unique text u.0 t u.1 h in
    let at = position-there (cues_of t) n c e in
    let room : length (cues_of t) ≤ min (length starts) (length positions) = rw q at u.2 in
    let same : length (positions_of (cues_of t)) ≡ length (cues_of t) = length-map (cues_of t) (λ (x : Cue). x.position) in
    let long : 0 + length (positions_of (cues_of t)) ≤ length positions = omega (arith, room, same) in
    let whole = (k.same t h a z).positions_are ∙ sets-eq (positions_of (cues_of t)) positions 0 long in (
      ap (λ (l : List ℕ). get_or l n 0) whole ∙ get_or-append (positions_of (cues_of t)) _ 0 n at.0 ∙ at.1,
      positions-stored text t h n c e,
    )
