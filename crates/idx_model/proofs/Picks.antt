-- What was seen of listed lines is what they give. Assumes nothing.
use Prim.Native.Nat.{ℕ, zero, suc, ◌+◌, ◌-◌, ◌≤◌, ◌<◌}
use mathlib.Core.Path.{◌≡◌, refl, sym, ap, ◌∙◌}
use mathlib.Core.Bool.{Bool, true, false, cond, ◌||◌}
use Rattle.std.specs.Prelude.{Option, Some as some, None as none}
use Rattle.std.specs.Bool.{then_some}
use mathlib.Core.List.{List, [], ◌∷◌}
use native.Mathlib.Omega.{arith}
use native.Mathlib.Numerals.{add-one}
use native.Mathlib.Nat.{add-zero, zero-add}
use lib.Dec.{eqb, ltb}
use lib.IntN.{ℤ, pos, ◌-ℤ◌}
use lib.ListN.{length}
use borrow.Author.Tests.{eq-eqb, ne_eqb, lt-ltb, ltb-true, ltb-false}
use Rattle.outcome.specs.Outcome.{Res, ok, refuse, check, and_then, no_cue, short_cues}
use Rattle.grammar.specs.Parts.{Part}
use Rattle.grammar.specs.IndexParts.{line_end}
use Rattle.grammar.specs.Index.{Said, size, palette, timestamp, ListedText, of_lines, no_bytes}
use Rattle.grammar.specs.IndexCues.{Cue, cues_of_lines, cues_of, cue_at, palette_of, some_token, lines_have_palette, has_palette, size_from, display_size, duration_of, clip}
use Rattle.grammar.specs.IndexCues as cues
use Rattle.idx_numbers_model.specs.Parts.{part, push, trim, split}
use Rattle.idx_numbers_model.proofs.Grammar.{never}
use Rattle.idx_lines_model.specs.Lines.{line_of}
use Rattle.clock_model.specs.Answers.{micros}
use Rattle.clock_model.specs.declared.Micros.{Micros}
use Rattle.idx_model.specs.Text.{or_none, cues_in, room_for, lines_in, text_in, idx_in, idx_of}
use Rattle.idx_model.specs.Answers.{nothing_seen, see_all, seen_of, idx_answer, pick_of, cue_answer}
use Rattle.idx_model.specs.declared.Seen.{Seen}

-- ---- of cue k, from cue n on, d before it was met
pick_from : {A : Type 0} → (Cue → A) → ℕ → ℕ → A → List Cue → A
pick_from f n k d [] = d
pick_from f n k d (c ∷ cs) = pick_from f (n + 1) k (cond (eqb n k) (f c) d) cs

pick-past : {A : Type 0} (f : Cue → A) (cs : List Cue) (n k : ℕ) (d : A) → k < n → pick_from f n k d cs ≡ d
unfolding pick_from
pick-past f [] n k d h = refl
pick-past f (c ∷ cs) n k d h = rw (ne_eqb n k (λ e. omega arith)) (pick-past f cs (n + 1) k d (omega arith))

pick_at : {A : Type 0} (f : Cue → A) (cs : List Cue) (n m : ℕ) (d : A) (c : Cue) → cue_at cs m ≡ some c → pick_from f n (n + m) d cs ≡ f c
unfolding pick_from cue_at
pick_at f [] n m d c e = never (cc)
pick_at f (x ∷ cs) n zero d c e =
    let q : x ≡ c = cc in
    rw (eq-eqb n (n + 0) (omega arith)) (pick-past f cs (n + 1) (n + 0) (f x) (omega arith) ∙ ap f q)
pick_at f (x ∷ cs) n (suc m) d c e =
    let z : n + suc m ≡ n + 1 + m = omega arith in
    rw (ne_eqb n (n + suc m) (λ q. omega arith), z) (pick_at f cs (n + 1) m d c e)

-- ---- the fields of what was seen
see_cues : (cue : ℕ) (ls : List Said) (s : Seen) → (see_all cue s ls).cues ≡ s.cues + length (cues_of_lines ls)
unfolding see_all cues_of_lines
see_cues cue [] s = sym (add-zero s.cues)
see_cues cue (size l w h ∷ ls) s = see_cues cue ls _
see_cues cue (palette l ts ∷ ls) s = see_cues cue ls _
see_cues cue (timestamp l ps fs v ∷ ls) s = see_cues cue ls _ ∙ omega arith

see_size_lem : (cue : ℕ) (ls : List Said) (s : Seen) → cues.size_is (see_all cue s ls).width (see_all cue s ls).height ≡ size_from (cues.size_is s.width s.height) ls
unfolding see_all size_from
see_size_lem cue [] s = refl
see_size_lem cue (size l w h ∷ ls) s = see_size_lem cue ls _
see_size_lem cue (palette l ts ∷ ls) s = see_size_lem cue ls _
see_size_lem cue (timestamp l ps fs v ∷ ls) s = see_size_lem cue ls _

or_swap : (a b c : Bool) → (a || b) || c ≡ b || (a || c)
or_swap true true c = refl
or_swap true false c = refl
or_swap false true c = refl
or_swap false false c = refl

or_none_lem : (a : Bool) → a ≡ a || false
or_none_lem true = refl
or_none_lem false = refl

see_palette_lem : (cue : ℕ) (ls : List Said) (s : Seen)
    → (see_all cue s ls).has_palette ≡ s.has_palette || lines_have_palette ls
unfolding see_all lines_have_palette
see_palette_lem cue [] s = or_none_lem s.has_palette
see_palette_lem cue (size l w h ∷ ls) s = see_palette_lem cue ls _
see_palette_lem cue (palette l ts ∷ ls) s = see_palette_lem cue ls _ ∙ or_swap (some_token ts) s.has_palette (lines_have_palette ls)
see_palette_lem cue (timestamp l ps fs v ∷ ls) s = see_palette_lem cue ls _

see-start : (cue : ℕ) (ls : List Said) (s : Seen) → (see_all cue s ls).start ≡ pick_from (λ c. c.start) s.cues cue s.start (cues_of_lines ls)
unfolding see_all cues_of_lines pick_from
see-start cue [] s = refl
see-start cue (size l w h ∷ ls) s = see-start cue ls _
see-start cue (palette l ts ∷ ls) s = see-start cue ls _
see-start cue (timestamp l ps fs v ∷ ls) s = see-start cue ls _

see-position : (cue : ℕ) (ls : List Said) (s : Seen) → (see_all cue s ls).position ≡ pick_from (λ c. c.position) s.cues cue s.position (cues_of_lines ls)
unfolding see_all cues_of_lines pick_from
see-position cue [] s = refl
see-position cue (size l w h ∷ ls) s = see-position cue ls _
see-position cue (palette l ts ∷ ls) s = see-position cue ls _
see-position cue (timestamp l ps fs v ∷ ls) s = see-position cue ls _

see-next : (cue : ℕ) (ls : List Said) (s : Seen) → (see_all cue s ls).next ≡ pick_from (λ c. c.start) s.cues (cue + 1) s.next (cues_of_lines ls)
unfolding see_all cues_of_lines pick_from
see-next cue [] s = refl
see-next cue (size l w h ∷ ls) s = see-next cue ls _
see-next cue (palette l ts ∷ ls) s = see-next cue ls _
see-next cue (timestamp l ps fs v ∷ ls) s = see-next cue ls _

-- ---- cues by number
pub cue-in : (cs : List Cue) (n : ℕ) → n < length cs → (c : Cue) × (cue_at cs n ≡ some c)
unfolding cue_at
cue-in [] n h = absurd (omega arith)
cue-in (c ∷ cs) zero h = (c, refl)
cue-in (c ∷ cs) (suc n) h = cue-in cs n (omega arith)

pub cue-out : (cs : List Cue) (n : ℕ) → length cs ≤ n → cue_at cs n ≡ none
unfolding cue_at
cue-out [] n h = refl
cue-out (c ∷ cs) zero h = absurd (omega arith)
cue-out (c ∷ cs) (suc n) h = cue-out cs n (omega arith)

pub last-duration : (cs : List Cue) (n : ℕ) → length cs ≤ n + 1 → duration_of cs n ≡ none
unfolding duration_of
last-duration [] n h = refl
last-duration (c ∷ []) n h = refl
last-duration (c ∷ d ∷ cs) zero h = absurd (omega arith)
last-duration (c ∷ d ∷ cs) (suc n) h = last-duration (d ∷ cs) n (omega arith)

pub next-duration : (cs : List Cue) (n : ℕ) (c d : Cue) → cue_at cs n ≡ some c → cue_at cs (suc n) ≡ some d → duration_of cs n ≡ some (clip (d.start -ℤ c.start))
unfolding duration_of cue_at
next-duration [] n c d e f = never (cc)
next-duration (x ∷ []) zero c d e f = never (cc)
next-duration (x ∷ []) (suc n) c d e f = never (cc)
next-duration (x ∷ y ∷ cs) zero c d e f =
    let p : x ≡ c = cc in
    let q : y ≡ d = cc in
    rw (p, q)
next-duration (x ∷ y ∷ cs) (suc n) c d e f = next-duration (y ∷ cs) n c d e f

-- ---- the fields of what was seen of a listed text
either_way : {A : Type 0} (b : Bool) (x : A) → x ≡ cond b x x
either_way true x = refl
either_way false x = refl

seen_cues : (cue : ℕ) (t : ListedText) → (seen_of cue t).cues ≡ length (cues_of t)
seen_cues cue (of_lines ls) = see_cues cue ls nothing_seen ∙ zero-add (length (cues_of_lines ls))
seen_cues cue (no_bytes p) = refl

seen-palette : (cue : ℕ) (t : ListedText) → (seen_of cue t).has_palette ≡ has_palette t
seen-palette cue (of_lines ls) = see_palette_lem cue ls nothing_seen
seen-palette cue (no_bytes p) = refl

seen_size : (cue : ℕ) (t : ListedText) → cues.size_is (seen_of cue t).width (seen_of cue t).height ≡ display_size t
seen_size cue (of_lines ls) = see_size_lem cue ls nothing_seen
seen_size cue (no_bytes p) = refl

seen_start : (cue : ℕ) (t : ListedText) → (seen_of cue t).start ≡ pick_from (λ c. c.start) 0 cue (pos 0) (cues_of t)
unfolding pick_from
seen_start cue (of_lines ls) = see-start cue ls nothing_seen
seen_start cue (no_bytes p) = either_way (eqb 0 cue) (pos 0)

seen-position : (cue : ℕ) (t : ListedText) → (seen_of cue t).position ≡ pick_from (λ c. c.position) 0 cue 0 (cues_of t)
unfolding pick_from
seen-position cue (of_lines ls) = see-position cue ls nothing_seen
seen-position cue (no_bytes p) = either_way (eqb 0 cue) 0

seen_next : (cue : ℕ) (t : ListedText) → (seen_of cue t).next ≡ pick_from (λ c. c.start) 0 (cue + 1) (pos 0) (cues_of t)
unfolding pick_from
seen_next cue (of_lines ls) = see-next cue ls nothing_seen
seen_next cue (no_bytes p) = either_way (eqb 0 (cue + 1)) (pos 0)

-- ---- the answers
module _ (cue : ℕ) (t : ListedText) (seen : Seen) (all : seen ≡ seen_of cue t) (p : List ℕ) (hues : p ≡ palette_of t) where
  cues-are : seen.cues ≡ length (cues_of t)
  cues-are = ap (λ (s : Seen). s.cues) all ∙ seen_cues cue t

  coloured-is : seen.has_palette ≡ has_palette t
  coloured-is = ap (λ (s : Seen). s.has_palette) all ∙ seen-palette cue t

  size_is_lem : cues.size_is seen.width seen.height ≡ display_size t
  size_is_lem = ap (λ (s : Seen). cues.size_is s.width s.height) all ∙ seen_size cue t

  pub idx_answer_lem :
      ok (record {
        width = seen.width;
        height = seen.height;
        has_palette = seen.has_palette;
        palette = p;
        cues = seen.cues;
      })
      ≡ idx_answer (ok t)
  unfolding idx_answer
  idx_answer_lem = λ i. ok (record {
    width = ap (λ (s : cues.Size). s.width) size_is_lem i;
    height = ap (λ (s : cues.Size). s.height) size_is_lem i;
    has_palette = coloured-is i;
    palette = hues i;
    cues = cues-are i;
  })

  pub pick-none : seen.cues ≤ cue → refuse no_cue ≡ cue_answer (pick_of (ok t) cue)
  unfolding pick_of cue_answer
  pick-none h = rw (cue-out (cues_of t) cue (omega (arith, cues-are)))

  start_is : (c : Cue) → cue_at (cues_of t) cue ≡ some c → seen.start ≡ c.start
  start_is c e =
      ap (λ (s : Seen). s.start) all ∙ seen_start cue t
      ∙ ap (λ (k : ℕ). pick_from (λ x. x.start) 0 k (pos 0) (cues_of t)) (sym (zero-add cue))
      ∙ pick_at (λ x. x.start) (cues_of t) 0 cue (pos 0) c e

  position-is : (c : Cue) → cue_at (cues_of t) cue ≡ some c → seen.position ≡ c.position
  position-is c e =
      ap (λ (s : Seen). s.position) all ∙ seen-position cue t
      ∙ ap (λ (k : ℕ). pick_from (λ x. x.position) 0 k 0 (cues_of t)) (sym (zero-add cue))
      ∙ pick_at (λ x. x.position) (cues_of t) 0 cue 0 c e

  next_is : (d : Cue) → cue_at (cues_of t) (cue + 1) ≡ some d → seen.next ≡ d.start
  next_is d e =
      ap (λ (s : Seen). s.next) all ∙ seen_next cue t
      ∙ ap (λ (k : ℕ). pick_from (λ x. x.start) 0 k (pos 0) (cues_of t)) (sym (zero-add (cue + 1)))
      ∙ pick_at (λ x. x.start) (cues_of t) 0 (cue + 1) (pos 0) d e

  pick-last : cue < seen.cues → seen.cues - cue ≡ 1 → (y : ℤ) → y ≡ seen.start
      → ok (record {
        start = micros y;
        position = seen.position;
        duration = none;
        has_palette = seen.has_palette;
        palette = p;
      })
      ≡ cue_answer (pick_of (ok t) cue)
  unfolding pick_of cue_answer
  pick-last h l y g =
      let c = cue-in (cues_of t) cue (omega (arith, cues-are)) in
      rw (c.1, last-duration (cues_of t) cue (omega (arith, cues-are)))
      (λ i. ok (record {
        start = micros ((g ∙ start_is c.0 c.1) i);
        position = position-is c.0 c.1 i;
        duration = none;
        has_palette = coloured-is i;
        palette = hues i;
      }))

  pick_next : cue < seen.cues → (seen.cues - cue ≡ 1 → ⊥) → (y : ℤ) → y ≡ seen.start
      → (v : ℤ) → v ≡ pos (clip (seen.next -ℤ seen.start))
      → ok (record {
        start = micros y;
        position = seen.position;
        duration = some (micros v);
        has_palette = seen.has_palette;
        palette = p;
      })
      ≡ cue_answer (pick_of (ok t) cue)
  unfolding pick_of cue_answer
  pick_next h n y g v f =
      let k : cue + 1 < length (cues_of t) = omega (arith, cues-are) in
      let c = cue-in (cues_of t) cue (omega (arith, cues-are)) in
      let d = cue-in (cues_of t) (cue + 1) k in
      let s : v ≡ pos (clip (d.0.start -ℤ c.0.start)) =
      f ∙ ap (λ (x : ℤ). pos (clip (x -ℤ seen.start))) (next_is d.0 d.1)
      ∙ ap (λ (x : ℤ). pos (clip (d.0.start -ℤ x))) (start_is c.0 c.1) in
      let e = ap (cue_at (cues_of t)) (sym (add-one cue)) ∙ d.1 in
      rw (c.1, next-duration (cues_of t) cue c.0 d.0 c.1 e)
      (λ i. ok (record {
        start = micros ((g ∙ start_is c.0 c.1) i);
        position = position-is c.0 c.1 i;
        duration = some (micros (s i));
        has_palette = coloured-is i;
        palette = hues i;
      }))

  pub pick_there : cue < seen.cues → (y : ℤ) → y ≡ seen.start → (v : ℤ) → v ≡ pos (clip (seen.next -ℤ seen.start))
      → (o : Option Micros) → o ≡ then_some (ltb 1 (seen.cues - cue)) (micros v)
      → ok (record {
        start = micros y;
        position = seen.position;
        duration = o;
        has_palette = seen.has_palette;
        palette = p;
      })
      ≡ cue_answer (pick_of (ok t) cue)
  pick_there h y g v f o d = go (ltb 1 (seen.cues - cue)) refl d
    where
      go : (b : Bool) → ltb 1 (seen.cues - cue) ≡ b → o ≡ then_some b (micros v)
          → ok (record {
            start = micros y;
            position = seen.position;
            duration = o;
            has_palette = seen.has_palette;
            palette = p;
          })
          ≡ cue_answer (pick_of (ok t) cue)
      go true e q = rw q (pick_next h (λ k. omega (arith, ltb-true 1 (seen.cues - cue) e)) y g v f)
      go false e q = rw q (pick-last h (omega (arith, ltb-false 1 (seen.cues - cue) e)) y g)

-- ---- room for more cues than there are lines is no bound
split-few : (sep at : ℕ) (s : List ℕ) → length (split sep at s) ≤ suc (length s)
unfolding split
split-few sep at [] = omega arith
split-few sep at (b ∷ s) = go (split-few sep (suc at) s) (eqb b sep)
  where
    pushed : (ps : List Part) → length (push at b ps) ≤ length ps
    pushed [] = omega arith
    pushed (p ∷ ps) = omega arith

    go : length (split sep (suc at) s) ≤ suc (length s) → (t : Bool) → length (cond t (part at [] ∷ split sep (suc at) s) (push at b (split sep (suc at) s))) ≤ suc (suc (length s))
    go ih true = omega arith
    go ih false = omega (arith, pushed (split sep (suc at) s))

room_open : (n k : ℕ) (o : Option Said) → k < n → room_for (some n) k o ≡ room_for none k o
room_open n k none h = refl
room_open n k (some (size l w x)) h = refl
room_open n k (some (palette l ts)) h = refl
room_open n k (some (timestamp l ps fs v)) h = lt-ltb k n h

few_cues : (o : Option Said) → cues_in o ≤ 1
few_cues none = omega arith
few_cues (some (size l w x)) = omega arith
few_cues (some (palette l ts)) = omega arith
few_cues (some (timestamp l ps fs v)) = omega arith

lines-open : (ps : List Part) (n k : ℕ) → k + length ps ≤ n → lines_in (some n) k ps ≡ lines_in none k ps
unfolding lines_in
lines-open [] n k h = refl
lines-open (p ∷ ps) n k h = go (λ j l. lines-open ps n j l) (line_of (trim p))
  where
    go : ((j : ℕ) → j + length ps ≤ n → lines_in (some n) j ps ≡ lines_in none j ps) → (r : Res (Option Said))
        → and_then r (λ o. check (room_for (some n) k o) short_cues (and_then (lines_in (some n) (k + cues_in o) ps) (λ ls. ok (or_none o ls))))
        ≡ and_then r (λ o. check (room_for none k o) short_cues (and_then (lines_in none (k + cues_in o) ps) (λ ls. ok (or_none o ls))))
    go ih (refuse m) = refl
    go ih (ok o) = rw (room_open n k o (omega arith), ih (k + cues_in o) (omega (arith, few_cues o)))

text-lines-open : (text : List ℕ) (n : ℕ) → length text < n → text_in (some n) text ≡ text_in none text
unfolding text_in
text-lines-open text n h = rw (lines-open (split line_end 0 text) n 0 (omega (arith, split-few line_end 0 text)))

pub text_open : (text : List ℕ) (n : ℕ) → length text < n → idx_in (some n) text ≡ idx_of text
unfolding idx_in
text_open [] n h = rw (lt-ltb 0 n h)
text_open (b ∷ s) n h = rw (text-lines-open (b ∷ s) n h)
