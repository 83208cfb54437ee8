-- The turns that store cues, over plain variables. Assumes nothing.
use Prim.Native.Nat.{ℕ, suc, ◌+◌, ◌-◌, ◌≤◌, ◌<◌, min}
use mathlib.Core.Path.{◌≡◌, refl, sym, ap, ◌∙◌, subst}
use mathlib.Core.Bool.{true}
use mathlib.Core.Logic.{⊎_elim}
use Rattle.std.specs.Prelude.{Option, Some as some, None as none}
use mathlib.Core.List.{List, [], ◌∷◌, ◌++◌}
use native.Mathlib.Omega.{arith}
use native.Mathlib.Nat.{add-zero}
use lib.IntN.{ℤ}
use lib.ListN.{length, set, take, drop}
use lib.Seq.{sets, length-sets}
use borrow.Author.Tests.{ltb-true}
use Rattle.outcome.specs.Outcome.{Res, ok, refuse, check, and_then, listed, IsOk, high_byte, short_cues}
use Rattle.outcome.proofs.Laws.{ok-injective, ok-not-refuse, and_then-ok, check-ok, le_or_lt}
use Rattle.grammar.specs.Parts.{Part}
use Rattle.grammar.specs.IndexParts.{line_end, unlike}
use Rattle.grammar.specs.Index.{Said, size, palette, timestamp}
use Rattle.grammar.specs.IndexCues.{cues_of_lines}
use Rattle.idx_numbers_model.specs.Parts.{part, front, all, trim, trimmed, split}
use Rattle.idx_numbers_model.proofs.Grammar.{never}
use Rattle.idx_numbers_model.proofs.Steps.{last-part, next-part}
use Rattle.idx_lines_model.specs.Lines.{line_of}
use Rattle.idx_lines_model.specs.Answers.{mapped, lean, line_says, LineRead}
use Rattle.std.specs.Prelude.{Result, Ok, Err}
use Rattle.outcome.specs.declared.Refusal.{Refusal}
use Rattle.idx_lines_model.specs.declared.Directive.{Directive}
use Rattle.idx_lines_model.specs.declared.Directive.TheVariants as directive
use Rattle.idx_model.specs.Text.{or_none, cues_in, room_for, lines_in, low_byte, text_in}
use Rattle.idx_model.specs.Answers.{starts_of, positions_of, CueFits, line_starts, line_positions, CueStored, CuesStored, lines_with}

-- stores one after the other
sets_more : {A : Type 0} (l : List A) (i : ℕ) (a b : List A) → sets l i (a ++ b) ≡ sets (sets l i a) (i + length a) b
sets_more l i [] b = let z : i + 0 ≡ i = omega arith in rw z
sets_more l i (x ∷ a) b = let z : i + suc (length a) ≡ suc i + length a = omega arith in rw z (sets_more (set l i x) (suc i) a b)

-- ---- what listed lines store
abbrev starts_of_lines : List Said → List ℤ
starts_of_lines ls = starts_of (cues_of_lines ls)

abbrev positions_of_lines : List Said → List ℕ
positions_of_lines ls = positions_of (cues_of_lines ls)

-- ---- what a line adds, as it was read and as it is listed
record Agree (x : Result (Option Directive) Refusal) (o : Option Said) : Type 0 where
  starts : (ls : List Said) → starts_of_lines (or_none o ls) ≡ line_starts x ++ starts_of_lines ls
  positions : (ls : List Said) → positions_of_lines (or_none o ls) ≡ line_positions x ++ positions_of_lines ls
  count : length (line_starts x) ≡ cues_in o
  same : length (line_positions x) ≡ cues_in o
  fits : (n a b : ℕ) → room_for (some (min a b)) n o ≡ true → CueFits x n a b

agree : (x : Result (Option Directive) Refusal) (o : Option Said) → line_says x ≡ ok (mapped o) → Agree x o
unfolding cues_of_lines CueFits
agree (Err k) o e = ok-not-refuse e
agree (Ok none) none e = record { starts = λ ls. refl; positions = λ ls. refl; count = refl; same = refl; fits = λ n a b r. tt }
agree (Ok none) (some (size l w h)) e = never (cc)
agree (Ok none) (some (palette l ts)) e = never (cc)
agree (Ok none) (some (timestamp l ps fs v)) e = never (cc)
agree (Ok (some (directive.Size a b))) none e = never (cc)
agree (Ok (some (directive.Size a b))) (some (size l w h)) e = record { starts = λ ls. refl; positions = λ ls. refl; count = refl; same = refl; fits = λ n a b r. tt }
agree (Ok (some (directive.Size a b))) (some (palette l ts)) e = never (cc)
agree (Ok (some (directive.Size a b))) (some (timestamp l ps fs v)) e = never (cc)
agree (Ok (some (directive.Palette t))) none e = never (cc)
agree (Ok (some (directive.Palette t))) (some (size l w h)) e = never (cc)
agree (Ok (some (directive.Palette t))) (some (palette l ts)) e = record { starts = λ ls. refl; positions = λ ls. refl; count = refl; same = refl; fits = λ n a b r. tt }
agree (Ok (some (directive.Palette t))) (some (timestamp l ps fs v)) e = never (cc)
agree (Ok (some (directive.Cue z k))) none e = never (cc)
agree (Ok (some (directive.Cue z k))) (some (size l w h)) e = never (cc)
agree (Ok (some (directive.Cue z k))) (some (palette l ts)) e = never (cc)
agree (Ok (some (directive.Cue z k))) (some (timestamp l ps fs v)) e =
    let p = ok-injective e in
    record {
      starts = λ ls. ap (λ (y : ℤ). y ∷ starts_of_lines ls) (cc);
      positions = λ ls. ap (λ (y : ℕ). y ∷ positions_of_lines ls) (cc);
      count = refl;
      same = refl;
      fits = λ n a b r. let h : n < min a b = ltb-true n (min a b) r in (omega arith, omega arith);
    }

-- ---- the cues before i were stored: n of them
pub record Filling (text : List ℕ) (starts₀ : List ℤ) (positions₀ : List ℕ) (starts : List ℤ) (positions : List ℕ) (n i : ℕ) : Type 0 where
  pub inside : i ≤ length text
  pub starts_long : length starts ≡ length starts₀
  pub positions_long : length positions ≡ length positions₀
  pub rest : List Said
  pub found : lines_in (some (min (length starts₀) (length positions₀))) n (split line_end (0 + i) (drop i text)) ≡ ok rest
  pub starts_are : sets starts₀ 0 (starts_of_lines (listed (lines_with starts₀ positions₀ text))) ≡ sets starts n (starts_of_lines rest)
  pub positions_are : sets positions₀ 0 (positions_of_lines (listed (lines_with starts₀ positions₀ text))) ≡ sets positions n (positions_of_lines rest)

is_ok : (r : Res (List Said)) → IsOk r → r ≡ ok (listed r)
is_ok (ok ls) h = refl
is_ok (refuse n) h = absurd h

pub filling-starts : (text : List ℕ) (starts : List ℤ) (positions : List ℕ) → IsOk (lines_with starts positions text) → Filling text starts positions starts positions 0 0
unfolding text_in
filling-starts text starts positions h =
    let q = is_ok (lines_with starts positions text) h in
    record {
      inside = omega arith;
      starts_long = refl;
      positions_long = refl;
      rest = listed (lines_with starts positions text);
      found = (check-ok (all low_byte text) high_byte (lines_in (some (min (length starts) (length positions))) 0 (split line_end 0 text)) q).1;
      starts_are = refl;
      positions_are = refl;
    }

module _ (text : List ℕ) (i k : ℕ) (inside : i ≤ length text) (lead : k ≡ length (front (unlike line_end) (take (length text - i) (drop i text))))
    (l : List ℕ) (cut : l ≡ trimmed (take (i + k - i) (drop i text))) (was new : List ℕ) (x : Result (Option Directive) Refusal) (read : LineRead l was x new)
    (starts₀ : List ℤ) (positions₀ : List ℕ) (starts : List ℤ) (positions : List ℕ) (n : ℕ) (so_far : Filling text starts₀ positions₀ starts positions n i) where
  room : ℕ
  room = min (length starts₀) (length positions₀)

  -- the line at i, and the lines ps after it
  record Head (ps : List Part) : Type 0 where
    said : Option Said
    agrees : Agree x said
    has_room : room_for (some room) n said ≡ true
    left : List Said
    left_found : lines_in (some room) (n + cues_in said) ps ≡ ok left
    is_rest : or_none said left ≡ so_far.rest

  head : (ps : List Part) → split line_end (0 + i) (drop i text) ≡ part (0 + i) (take (i + k - i) (drop i text)) ∷ ps → Head ps
  unfolding lines_in room trim
  head ps e =
      let p : Part = part (0 + i) (take (i + k - i) (drop i text)) in
      let f : lines_in (some room) n (p ∷ ps) ≡ ok so_far.rest = rw e at so_far.found in
      let w = and_then-ok (line_of (trim p)) (λ o. check (room_for (some room) n o) short_cues (and_then (lines_in (some room) (n + cues_in o) ps) (λ ms. ok (or_none o ms)))) f in
      let c = check-ok (room_for (some room) n w.0) short_cues (and_then (lines_in (some room) (n + cues_in w.0) ps) (λ ms. ok (or_none w.0 ms))) w.2 in
      let v = and_then-ok (lines_in (some room) (n + cues_in w.0) ps) (λ ms. ok (or_none w.0 ms)) c.1 in
      let b : trim p ≡ part (trim p).place l = ap (part (trim p).place) (sym cut) in
      let s : line_says x ≡ ok (mapped w.0) = read.says (trim p).place ∙ ap (λ (q : Part). lean (line_of q)) (sym b) ∙ ap lean w.1 in
      record { said = w.0; agrees = agree x w.0 s; has_room = c.0; left = v.0; left_found = v.1; is_rest = ok-injective v.2 }

  pub fill_fits : CueFits x n (length starts) (length positions)
  unfolding room
  fill_fits =
      rw (so_far.starts_long, so_far.positions_long)
      (⊎_elim (λ h. go [] (head [] (last-part line_end text i k inside lead (0 + i) h)))
      (λ h. go (split line_end (0 + (i + k + 1)) (drop (i + k + 1) text)) (head (split line_end (0 + (i + k + 1)) (drop (i + k + 1) text)) (next-part line_end text i k inside lead 0 h)))
      (le_or_lt (length text) (i + k)))
    where
      go : (ps : List Part) → Head ps → CueFits x n (length starts₀) (length positions₀)
      go ps h = h.agrees.fits n (length starts₀) (length positions₀) h.has_room

  module _ (r : ℕ) (starts' : List ℤ) (positions' : List ℕ) (stored : CueStored x n starts positions r starts' positions') where
    pub long-starts : length starts' ≡ length starts₀
    long-starts = ap length stored.starts_are ∙ length-sets starts n (line_starts x) ∙ so_far.starts_long

    pub long_positions : length positions' ≡ length positions₀
    long_positions = ap length stored.positions_are ∙ length-sets positions n (line_positions x) ∙ so_far.positions_long

    next_is : (ps : List Part) (h : Head ps) → n + cues_in h.said ≡ r
    next_is ps h = sym (stored.next ∙ ap (λ (m : ℕ). n + m) h.agrees.count)

    starts-after : (ps : List Part) (h : Head ps) → sets starts n (starts_of_lines so_far.rest) ≡ sets starts' r (starts_of_lines h.left)
    starts-after ps h =
        ap (λ (ls : List Said). sets starts n (starts_of_lines ls)) (sym h.is_rest)
        ∙ ap (sets starts n) (h.agrees.starts h.left)
        ∙ sets_more starts n (line_starts x) (starts_of_lines h.left)
        ∙ ap (λ (y : List ℤ). sets y (n + length (line_starts x)) (starts_of_lines h.left)) (sym stored.starts_are)
        ∙ ap (λ (m : ℕ). sets starts' m (starts_of_lines h.left)) (sym stored.next)

    positions-after : (ps : List Part) (h : Head ps) → sets positions n (positions_of_lines so_far.rest) ≡ sets positions' r (positions_of_lines h.left)
    positions-after ps h =
        let q : n + length (line_positions x) ≡ r = ap (λ (m : ℕ). n + m) h.agrees.same ∙ next_is ps h in
        ap (λ (ls : List Said). sets positions n (positions_of_lines ls)) (sym h.is_rest)
        ∙ ap (sets positions n) (h.agrees.positions h.left)
        ∙ sets_more positions n (line_positions x) (positions_of_lines h.left)
        ∙ ap (λ (y : List ℕ). sets y (n + length (line_positions x)) (positions_of_lines h.left)) (sym stored.positions_are)
        ∙ ap (λ (m : ℕ). sets positions' m (positions_of_lines h.left)) q

    pub filling-next : i + k < length text → Filling text starts₀ positions₀ starts' positions' r (i + k + 1)
    unfolding room
    filling-next h =
        let d = head (split line_end (0 + (i + k + 1)) (drop (i + k + 1) text)) (next-part line_end text i k inside lead 0 h) in
        record {
          inside = omega arith;
          starts_long = long-starts;
          positions_long = long_positions;
          rest = d.left;
          found = rw (next_is (split line_end (0 + (i + k + 1)) (drop (i + k + 1) text)) d) at d.left_found;
          starts_are = so_far.starts_are ∙ starts-after (split line_end (0 + (i + k + 1)) (drop (i + k + 1) text)) d;
          positions_are = so_far.positions_are ∙ positions-after (split line_end (0 + (i + k + 1)) (drop (i + k + 1) text)) d;
        }

    pub filling_done : length text ≤ i + k → CuesStored (lines_with starts₀ positions₀ text) starts₀ positions₀ starts' positions'
    unfolding lines_in cues_of_lines
    filling_done h =
        let d = head [] (last-part line_end text i k inside lead (0 + i) h) in
        let z : [] ≡ d.left = ok-injective d.left_found in
        record {
          starts_are = sym (so_far.starts_are ∙ starts-after [] d ∙ ap (λ (ls : List Said). sets starts' r (starts_of_lines ls)) (sym z));
          positions_are = sym (so_far.positions_are ∙ positions-after [] d ∙ ap (λ (ls : List Said). sets positions' r (positions_of_lines ls)) (sym z));
        }

-- ---- one line's cue
module _ (x : Result (Option Directive) Refusal) (n : ℕ) (starts : List ℤ) (positions : List ℕ) where
  pub stored-none : line_starts x ≡ [] → line_positions x ≡ [] → CueStored x n starts positions n starts positions
  stored-none e f = record { next = rw e (sym (add-zero n)); starts_are = rw e; positions_are = rw f }

  pub cue-fits : (z : ℤ) (v : ℕ) → x ≡ Ok (some (directive.Cue z v)) → CueFits x n (length starts) (length positions) → (n < length starts) × (n < length positions)
  unfolding CueFits
  cue-fits z v e h = subst (λ (y : Result (Option Directive) Refusal). CueFits y n (length starts) (length positions)) e h
