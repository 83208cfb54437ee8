-- The text: the definition finds exactly what the grammar lists, with cue buffers where the cues have room in them.
-- Assumes nothing.
use Prim.Native.Nat.{ℕ, ◌+◌, ◌≤◌}
use mathlib.Core.Path.{◌≡◌, refl, sym, ap, ◌∙◌, subst}
use mathlib.Core.Bool.{true}
use mathlib.Core.Logic.{◌⊎◌, inl, inr, ◌↔◌}
use Rattle.std.specs.Prelude.{Option, Some as some, None as none}
use mathlib.Core.List.{List, [], ◌∷◌}
use native.Mathlib.Omega.{arith}
use native.Mathlib.Nat.{add-zero}
use lib.ListN.{length}
use borrow.Author.Tests.{ltb-true, lt-ltb}
use Rattle.outcome.specs.Outcome.{ok, check, and_then, high_byte, short_cues}
use Rattle.outcome.proofs.Laws.{ok-injective, and_then-ok, check-ok, map_res-ok}
use Rattle.grammar.specs.Parts.{Part}
use Rattle.grammar.specs.IndexParts.{line_end}
use Rattle.grammar.specs.Index.{Said, size, palette, timestamp, Says, SaysNothing, LinesListed, IsLines, greys, ListedText, of_lines, no_bytes, IsText}
use Rattle.grammar.specs.IndexCues.{cues_of_lines, cues_of}
use Rattle.grammar.proofs.UniqueParts.{has-byte}
use Rattle.idx_numbers_model.specs.Parts.{all, trim, split}
use Rattle.idx_numbers_model.proofs.Grammar.{trim-is, trim-one, split-is, split_one, all_true, true-all}
use Rattle.idx_lines_model.specs.Lines.{line_of}
use Rattle.idx_lines_model.proofs.Grammar.{SaysThis, line-is, line-one}
use Rattle.idx_model.specs.Text.{or_none, cues_in, room_after, room_for, lines_in, low_byte, text_in, idx_in, idx_of}

-- ---- room
-- m cues have room
abbrev pub Roomy : Option ℕ → ℕ → Type 0
Roomy none m = Unit {0}
Roomy (some n) m = m ≤ n

pub count : (o : Option Said) (ls : List Said) → length (cues_of_lines (or_none o ls)) ≡ cues_in o + length (cues_of_lines ls)
unfolding cues_of_lines
count none ls = omega arith
count (some (size l w h)) ls = omega arith
count (some (palette l ts)) ls = omega arith
count (some (timestamp l ps fs n)) ls = omega arith

pub room_next : (room : Option ℕ) (k : ℕ) (o : Option Said) → Roomy room k → room_for room k o ≡ true
    → Roomy room (k + cues_in o)
room_next none k o r e = tt
room_next (some n) k none r e = omega arith
room_next (some n) k (some (size l w h)) r e = omega arith
room_next (some n) k (some (palette l ts)) r e = omega arith
room_next (some n) k (some (timestamp l ps fs v)) r e = omega (arith, ltb-true k n e)

pub room_sum : (room : Option ℕ) (k a b c : ℕ) → c ≡ a + b → Roomy room (k + a + b) → Roomy room (k + c)
room_sum none k a b c e r = tt
room_sum (some n) k a b c e r = omega arith

pub sum_room : (room : Option ℕ) (k a b c : ℕ) → c ≡ a + b → Roomy room (k + c) → Roomy room (k + a + b)
sum_room none k a b c e r = tt
sum_room (some n) k a b c e r = omega arith

pub room-yes : (room : Option ℕ) (k : ℕ) (o : Option Said) (ls : List Said)
    → Roomy room (k + length (cues_of_lines (or_none o ls))) → room_for room k o ≡ true
room-yes room k none ls r = refl
room-yes room k (some (size l w h)) ls r = refl
room-yes room k (some (palette l ts)) ls r = refl
room-yes none k (some (timestamp l ps fs v)) ls r = refl
room-yes (some n) k (some (timestamp l ps fs v)) ls r = lt-ltb k n (omega (arith, count (some (timestamp l ps fs v)) ls))

-- ---- the lines
list-nothing : (p : Part) (ps : List Part) (ls : List Said) → SaysNothing (trim p) → LinesListed ps ls → LinesListed (p ∷ ps) ls
list-nothing p ps [] s h = (trim p, trim-is p, s, h)
list-nothing p ps (l ∷ ls) s h = (trim p, trim-is p, inl (s, h))

pub list-one : (p : Part) (ps : List Part) (o : Option Said) (ls : List Said) → SaysThis (trim p) o
    → LinesListed ps ls → LinesListed (p ∷ ps) (or_none o ls)
list-one p ps none ls s h = list-nothing p ps ls s h
list-one p ps (some l) ls s h = (trim p, trim-is p, inr (s, h))

pub lines-is : (room : Option ℕ) (ps : List Part) (k : ℕ) (ls : List Said) → Roomy room k → lines_in room k ps ≡ ok ls
    → LinesListed ps ls × Roomy room (k + length (cues_of_lines ls))
unfolding lines_in cues_of_lines
lines-is room [] k ls r e = subst (λ (x : List Said). LinesListed [] x × Roomy room (k + length (cues_of_lines x))) (ok-injective e) (tt, rw (add-zero k) r)
lines-is room (p ∷ ps) k ls r e =
    let w = and_then-ok (line_of (trim p)) (λ o. check (room_for room k o) short_cues (and_then (lines_in room (k + cues_in o) ps) (λ ms. ok (or_none o ms)))) e in
    let c = check-ok (room_for room k w.0) short_cues (and_then (lines_in room (k + cues_in w.0) ps) (λ ms. ok (or_none w.0 ms))) w.2 in
    let v = and_then-ok (lines_in room (k + cues_in w.0) ps) (λ ms. ok (or_none w.0 ms)) c.1 in
    let i = lines-is room ps (k + cues_in w.0) v.0 (room_next room k w.0 r c.0) v.1 in
    subst (λ (x : List Said). LinesListed (p ∷ ps) x × Roomy room (k + length (cues_of_lines x))) (ok-injective v.2)
    (list-one p ps w.0 v.0 (line-is (trim p) w.0 w.1) i.0, room_sum room k (cues_in w.0) (length (cues_of_lines v.0)) (length (cues_of_lines (or_none w.0 v.0))) (count w.0 v.0) i.1)

pub lines-one : (room : Option ℕ) (ps : List Part) (k : ℕ) (ls : List Said) → LinesListed ps ls → Roomy room (k + length (cues_of_lines ls)) → lines_in room k ps ≡ ok ls
unfolding lines_in
lines-one room [] k [] h r = refl
lines-one room [] k (l ∷ ls) h r = absurd h
lines-one room (p ∷ ps) k [] h r =
    rw (trim-one p h.0 h.1, line-one h.0 none h.2, lines-one room ps (k + 0) [] h.3 (sum_room room k 0 (length (cues_of_lines [])) (length (cues_of_lines [])) (omega arith) r))
lines-one room (p ∷ ps) k (l ∷ ls) h r = go (λ j ms. lines-one room ps j ms) h.2
  where
    said : (o : Option Said) (ms : List Said) → or_none o ms ≡ l ∷ ls → SaysThis h.0 o → lines_in room (k + cues_in o) ps ≡ ok ms
        → and_then (line_of (trim p)) (λ x. check (room_for room k x) short_cues (and_then (lines_in room (k + cues_in x) ps) (λ ns. ok (or_none x ns)))) ≡ ok (l ∷ ls)
    said o ms e s i =
        rw (trim-one p h.0 h.1, line-one h.0 o s, room-yes room k o ms (subst (λ (x : List Said). Roomy room (k + length (cues_of_lines x))) (sym e) r), i) (ap ok e)

    left : (o : Option Said) (ms : List Said) → or_none o ms ≡ l ∷ ls
        → Roomy room (k + cues_in o + length (cues_of_lines ms))
    left o ms e = sum_room room k (cues_in o) (length (cues_of_lines ms)) (length (cues_of_lines (or_none o ms))) (count o ms) (subst (λ (x : List Said). Roomy room (k + length (cues_of_lines x))) (sym e) r)

    go : ((j : ℕ) (ms : List Said) → LinesListed ps ms → Roomy room (j + length (cues_of_lines ms)) → lines_in room j ps ≡ ok ms)
        → (SaysNothing h.0 × LinesListed ps (l ∷ ls)) ⊎ (Says h.0 l × LinesListed ps ls)
        → and_then (line_of (trim p)) (λ x. check (room_for room k x) short_cues (and_then (lines_in room (k + cues_in x) ps) (λ ns. ok (or_none x ns)))) ≡ ok (l ∷ ls)
    go ih (inl q) = said none (l ∷ ls) refl q.0 (ih (k + 0) (l ∷ ls) q.1 (left none (l ∷ ls) refl))
    go ih (inr q) = said (some l) ls refl q.0 (ih (k + cues_in (some l)) ls q.1 (left (some l) ls refl))

-- ---- the lines of a text
pub none_yet : (room : Option ℕ) → Roomy room 0
none_yet none = tt
none_yet (some n) = omega arith

pub from_zero : (room : Option ℕ) (m : ℕ) → Roomy room (0 + m) → Roomy room m
from_zero none m r = tt
from_zero (some n) m r = omega arith

pub to-zero : (room : Option ℕ) (m : ℕ) → Roomy room m → Roomy room (0 + m)
to-zero none m r = tt
to-zero (some n) m r = omega arith

text-lines-are : (room : Option ℕ) (text : List ℕ) (ls : List Said) → text_in room text ≡ ok ls
    → IsLines text ls × Roomy room (length (cues_of_lines ls))
unfolding text_in
text-lines-are room text ls e =
    let c = check-ok (all low_byte text) high_byte (lines_in room 0 (split line_end 0 text)) e in
    let i = lines-is room (split line_end 0 text) 0 ls (none_yet room) c.1 in (
      record { low = true-all low_byte text c.0; all_lines = split line_end 0 text; parted = split-is line_end 0 text; listed = i.0 },
      from_zero room (length (cues_of_lines ls)) i.1,
    )

text-lines-found : (room : Option ℕ) (text : List ℕ) (ls : List Said) → IsLines text ls
    → Roomy room (length (cues_of_lines ls)) → text_in room text ≡ ok ls
unfolding text_in
text-lines-found room text ls h r =
    rw (all_true low_byte text h.low, split_one line_end 0 text h.all_lines h.parted)
    (lines-one room h.all_lines 0 ls h.listed (to-zero room (length (cues_of_lines ls)) r))

-- ---- the text
-- the cue of no bytes has a place exactly where there is room for one
one_place : (room : Option ℕ) → room_after room 0 ≡ true → Roomy room 1
one_place none e = tt
one_place (some n) e = omega (arith, ltb-true 0 n e)

place_there : (room : Option ℕ) → Roomy room 1 → room_after room 0 ≡ true
place_there none r = refl
place_there (some n) r = lt-ltb 0 n (omega arith)

pub text_is : (room : Option ℕ) (text : List ℕ) (t : ListedText) → idx_in room text ≡ ok t
    → IsText text t × Roomy room (length (cues_of t))
unfolding idx_in
text_is room [] t e =
    let c = check-ok (room_after room 0) short_cues (ok (no_bytes greys)) e in
    subst (λ (x : ListedText). IsText [] x × Roomy room (length (cues_of x))) (ok-injective c.1)
    ((refl, refl), one_place room c.0)
text_is room (b ∷ s) t e =
    let m = map_res-ok of_lines (text_in room (b ∷ s)) e in
    let i = text-lines-are room (b ∷ s) m.0 m.1 in
    subst (λ (x : ListedText). IsText (b ∷ s) x × Roomy room (length (cues_of x))) m.2 ((has-byte b s, i.0), i.1)

pub text-one : (room : Option ℕ) (text : List ℕ) (t : ListedText) → IsText text t → Roomy room (length (cues_of t))
    → idx_in room text ≡ ok t
unfolding idx_in
text-one room [] (of_lines ls) h r = absurd (h.0 refl)
text-one room [] (no_bytes p) h r = rw (place_there room r, h.1)
text-one room (b ∷ s) (of_lines ls) h r = rw (text-lines-found room (b ∷ s) ls h.1 r)
text-one room (b ∷ s) (no_bytes p) h r = absurd (has-byte b s h.0)

-- a text is accepted exactly where the grammar lists it
pub text_iff : (text : List ℕ) (t : ListedText) → (idx_of text ≡ ok t) ↔ IsText text t
text_iff text t = (λ e. (text_is none text t e).0, λ h. text-one none text t h tt)

-- and with buffers, where they have room for its cues
pub room_iff : (n : ℕ) (text : List ℕ) (t : ListedText) → (idx_in (some n) text ≡ ok t) ↔ (IsText text t × (length (cues_of t) ≤ n))
room_iff n text t = (text_is (some n) text t, λ h. text-one (some n) text t h.0 h.1)

-- no two lists pass
pub text_unique : (text : List ℕ) (t u : ListedText) → IsText text t → IsText text u → t ≡ u
text_unique text t u h k = ok-injective (sym (text-one none text t h tt) ∙ text-one none text u k tt)
