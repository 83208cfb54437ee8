-- One law for each turn over the lines of a text, over plain variables. Assumes nothing.
use Prim.Native.Nat.{ℕ, ◌+◌, ◌-◌, ◌≤◌, ◌<◌}
use mathlib.Core.Path.{◌≡◌, refl, sym, ap, ◌∙◌}
use mathlib.Core.Bool.{Bool, true, false, cond, ◌&&◌}
use mathlib.Core.Logic.{⊎_elim}
use Rattle.std.specs.Prelude.{Option, Some as some, None as none}
use mathlib.Core.List.{List, [], ◌∷◌, ◌++◌}
use native.Mathlib.Omega.{arith}
use native.Mathlib.Numerals.{add-one}
use native.Mathlib.Nat.{add-zero}
use lib.Dec.{ltb}
use lib.ListN.{length, get_or, take, drop}
use lib.Seq.{sets, take-suc, take_all}
use borrow.Author.Tests.{lt-ltb, le-ltb}
use Rattle.outcome.specs.Outcome.{Res, ok, refuse, check, and_then, map_res, short_cues, high_byte}
use Rattle.outcome.proofs.Laws.{ok-injective, refuse-injective, ok-not-refuse, le_or_lt}
use Rattle.grammar.specs.Parts.{Part}
use Rattle.grammar.specs.IndexParts.{line_end, unlike}
use Rattle.grammar.specs.Index.{Said, size, palette, timestamp, start_of}
use Rattle.grammar.specs.IndexCues.{palette_from, colours_of}
use Rattle.idx_numbers_model.specs.Parts.{part, front, all, trim, trimmed, split}
use Rattle.idx_numbers_model.proofs.Grammar.{never}
use Rattle.idx_numbers_model.proofs.Steps.{last-part, next-part, part_in}
use Rattle.idx_lines_model.specs.Lines.{line_of}
use Rattle.idx_lines_model.specs.Answers.{Value, value_of, lean, line_says, LineRead, one_of, palette_after}
use Rattle.std.specs.Prelude.{Result}
use Rattle.outcome.specs.declared.Refusal.{Refusal}
use Rattle.idx_lines_model.specs.declared.Directive.{Directive}
use Rattle.idx_model.specs.Text.{or_none, cues_in, room_for, lines_in, low_byte, text_in}
use Rattle.idx_model.specs.Answers.{nothing_seen, see_size, see_cue, see_value, see_all, see_line, MeasuredAs}
use Rattle.idx_model.specs.declared.Seen.{Seen}

-- ---- low bytes
all_snoc : (p : ℕ → Bool) (l : List ℕ) (b : ℕ) → all p (l ++ b ∷ []) ≡ all p l && p b
unfolding all
all_snoc p [] b = go (p b)
  where
    go : (t : Bool) → t && true ≡ t
    go true = refl
    go false = refl
all_snoc p (x ∷ l) b = ap (λ (t : Bool). p x && t) (all_snoc p l b) ∙ go (p x) (all p l)
  where
    go : (t u : Bool) → t && (u && p b) ≡ (t && u) && p b
    go true u = refl
    go false u = refl

pub low-starts : (s : List ℕ) → true ≡ all low_byte (take 0 s)
unfolding all
low-starts s = refl

module _ (s : List ℕ) (low : Bool) (i : ℕ) (inv : low ≡ all low_byte (take i s)) where
  grown : i < length s → all low_byte (take (i + 1) s) ≡ all low_byte (take i s) && low_byte (get_or s i 0)
  grown h = rw (add-one i, take-suc s i 0 h) (all_snoc low_byte (take i s) (get_or s i 0))

  pub low_lost : i < length s → 128 ≤ get_or s i 0 → false ≡ all low_byte (take (i + 1) s)
  low_lost h l = rw (grown h, le-ltb (get_or s i 0) 128 l) (go (all low_byte (take i s)))
    where
      go : (t : Bool) → false ≡ t && false
      go true = refl
      go false = refl

  pub low-kept : i < length s → get_or s i 0 < 128 → low ≡ all low_byte (take (i + 1) s)
  low-kept h l = inv ∙ rw (grown h, lt-ltb (get_or s i 0) 128 l) (go (all low_byte (take i s)))
    where
      go : (t : Bool) → t ≡ t && true
      go true = refl
      go false = refl

  pub low-done : length s ≤ i → low ≡ all low_byte s
  low-done h = inv ∙ ap (all low_byte) (take_all i s h)

-- ---- what all lines tell: what is seen, and the palette
pub record Whole : Type 0 where
  pub seen : Seen
  pub palette : List ℕ

abbrev pub whole : Seen → List ℕ → Whole
whole s p = record { seen = s; palette = p }

abbrev pub tell_all : ℕ → Whole → List Said → Whole
tell_all cue w ls = whole (see_all cue w.seen ls) (palette_from w.palette ls)

-- the lines after one
joined : (cue : ℕ) (w v : Whole) (o : Option Said) → ((ls : List Said) → tell_all cue w (or_none o ls) ≡ tell_all cue v ls) → (r : Res (List Said))
    → map_res (tell_all cue w) (and_then r (λ ls. ok (or_none o ls))) ≡ map_res (tell_all cue v) r
joined cue w v o h (ok ls) = ap ok (h ls)
joined cue w v o h (refuse n) = refl

module _ (cue room : ℕ) (seen : Seen) (was : List ℕ) (ps : List Part) where
  -- the answer of the lines from one on that gives q
  from : Res (Option Said) → Res Whole
  from q =
      map_res (tell_all cue (whole seen was))
      (and_then q (λ o. check (room_for (some room) seen.cues o) short_cues (and_then (lines_in (some room) (seen.cues + cues_in o) ps) (λ ls. ok (or_none o ls)))))

  refused-at : (q : Res (Option Said)) (n : ℕ) → see_line cue room seen (lean q) ≡ refuse n → from q ≡ refuse n
  unfolding from
  refused-at (refuse m) n e = let f : m ≡ n = cc in ap refuse f
  refused-at (ok none) n e = never (cc)
  refused-at (ok (some (size l w h))) n e = never (cc)
  refused-at (ok (some (palette l ts))) n e = never (cc)
  refused-at (ok (some (timestamp l qs fs v))) n e = go (ltb seen.cues room) e
    where
      go : (t : Bool) → cond t (ok (see_cue cue seen (start_of fs) v.value)) (refuse short_cues) ≡ refuse n
          → map_res (tell_all cue (whole seen was)) (check t short_cues (and_then (lines_in (some room) (seen.cues + 1) ps) (λ ls. ok (or_none (some (timestamp l qs fs v)) ls)))) ≡ refuse n
      go true f = never (cc)
      go false f = let g : short_cues ≡ n = cc in ap refuse g

  saw-at : (q : Res (Option Said)) (s : Seen) (now : List ℕ) → see_line cue room seen (lean q) ≡ ok s
      → ((o : Option Said) → q ≡ ok o → now ≡ palette_from was (one_of o))
      → from q ≡ map_res (tell_all cue (whole s now)) (lines_in (some room) s.cues ps)
  unfolding from see_all palette_from
  saw-at (refuse m) s now e h = never (cc)
  saw-at (ok none) s now e h =
      let f : seen ≡ s = cc in
      let z : seen.cues + 0 ≡ seen.cues = add-zero seen.cues in
      rw (← f, h none refl, z) (joined cue (whole seen was) (whole seen was) none (λ ls. refl) (lines_in (some room) seen.cues ps))
  saw-at (ok (some (size l w k))) s now e h =
      let f : see_size seen w.value k.value ≡ s = cc in
      let z : seen.cues + 0 ≡ seen.cues = add-zero seen.cues in
      rw (← f, h (some (size l w k)) refl, z) (joined cue (whole seen was) (whole (see_size seen w.value k.value) was) (some (size l w k)) (λ ls. refl) (lines_in (some room) seen.cues ps))
  saw-at (ok (some (palette l ts))) s now e h =
      let z : seen.cues + 0 ≡ seen.cues = add-zero seen.cues in
      coloured-at (value_of (palette l ts)) refl z
    where
      coloured-at : (v : Value) → value_of (palette l ts) ≡ v → seen.cues + 0 ≡ seen.cues
          → map_res (tell_all cue (whole seen was)) (and_then (lines_in (some room) (seen.cues + 0) ps) (λ ls. ok (palette l ts ∷ ls)))
          ≡ map_res (tell_all cue (whole s now)) (lines_in (some room) s.cues ps)
      coloured-at v d z =
          let f : see_value cue seen (value_of (palette l ts)) ≡ s = cc in
          rw (← f, h (some (palette l ts)) refl, z)
          (joined cue (whole seen was) (whole (see_value cue seen (value_of (palette l ts))) (sets was 0 (colours_of ts))) (some (palette l ts)) (λ ls. refl) (lines_in (some room) seen.cues ps))
  saw-at (ok (some (timestamp l qs fs v))) s now e h = go (ltb seen.cues room) e
    where
      go : (t : Bool) → cond t (ok (see_cue cue seen (start_of fs) v.value)) (refuse short_cues) ≡ ok s
          → map_res (tell_all cue (whole seen was)) (check t short_cues (and_then (lines_in (some room) (seen.cues + 1) ps) (λ ls. ok (or_none (some (timestamp l qs fs v)) ls))))
          ≡ map_res (tell_all cue (whole s now)) (lines_in (some room) s.cues ps)
      go true f =
          let g : see_cue cue seen (start_of fs) v.value ≡ s = cc in
          rw (← g, h (some (timestamp l qs fs v)) refl)
          (joined cue (whole seen was) (whole (see_cue cue seen (start_of fs) v.value) was) (some (timestamp l qs fs v)) (λ ls. refl) (lines_in (some room) (seen.cues + 1) ps))
      go false f = never (cc)

-- ---- the lines before i were seen
abbrev lines_at : ℕ → ℕ → ℕ → List ℕ → Res (List Said)
lines_at room k i text = lines_in (some room) k (split line_end (0 + i) (drop i text))

pub record Measuring (text : List ℕ) (room cue : ℕ) (was : List ℕ) (i : ℕ) (seen : Seen) (now : List ℕ) : Type 0 where
  pub inside : i ≤ length text
  pub goes : map_res (tell_all cue (whole nothing_seen was)) (lines_in (some room) 0 (split line_end 0 text))
      ≡ map_res (tell_all cue (whole seen now)) (lines_at room seen.cues i text)

pub measuring-starts : (text : List ℕ) (room cue : ℕ) (was : List ℕ) (s : Seen) → s ≡ nothing_seen → Measuring text room cue was 0 s was
measuring-starts text room cue was s e = record { inside = omega arith; goes = rw e }

-- an answer from what all lines tell
answered : (cue : ℕ) (was : List ℕ) (r : Res (List Said)) (n : ℕ) → map_res (tell_all cue (whole nothing_seen was)) r ≡ refuse n → (now : List ℕ) → MeasuredAs cue was r (refuse n) now
answered cue was (ok ls) n e now = ok-not-refuse (sym e)
answered cue was (refuse m) n e now = record { says = ap refuse (sym (refuse-injective e)); palette = λ ls f. ok-not-refuse f }

accepted : (cue : ℕ) (was : List ℕ) (r : Res (List Said)) (s : Seen) (now : List ℕ) → map_res (tell_all cue (whole nothing_seen was)) r ≡ ok (whole s now) → MeasuredAs cue was r (ok s) now
accepted cue was (refuse m) s now e = ok-not-refuse e
accepted cue was (ok ls) s now e =
    let q : tell_all cue (whole nothing_seen was) ls ≡ whole s now = ok-injective e in
    record {
      says = ap (λ (w : Whole). ok w.seen) (sym q);
      palette = λ ms f. ap (λ (w : Whole). w.palette) (sym q) ∙ ap (palette_from was) (ok-injective f);
    }

module _ (text : List ℕ) (i n : ℕ) (inside : i ≤ length text) (lead : n ≡ length (front (unlike line_end) (take (length text - i) (drop i text)))) where
  pub line-in : i + n ≤ length text
  line-in = part_in line_end text i n inside lead

  module _ (l : List ℕ) (cut : l ≡ trimmed (take (i + n - i) (drop i text))) where
    bytes_of : (at : ℕ) → trim (part at (take (i + n - i) (drop i text))) ≡ part (trim (part at (take (i + n - i) (drop i text)))).place l
    unfolding trim
    bytes_of at = ap (part (trim (part at (take (i + n - i) (drop i text)))).place) (sym cut)

    module _ (room cue : ℕ) (was : List ℕ) (seen : Seen) (now : List ℕ) (so_far : Measuring text room cue was i seen now)
        (x : Result (Option Directive) Refusal) (new : List ℕ) (read : LineRead l now x new) (r : Res Seen) (told : r ≡ see_line cue room seen (line_says x)) where
      says : (at : ℕ) → see_line cue room seen (lean (line_of (trim (part at (take (i + n - i) (drop i text)))))) ≡ r
      says at = ap (λ (p : Part). see_line cue room seen (lean (line_of p))) (bytes_of at) ∙ ap (see_line cue room seen) (sym (read.says (trim (part at (take (i + n - i) (drop i text)))).place)) ∙ sym told

      hues : (at : ℕ) (o : Option Said) → line_of (trim (part at (take (i + n - i) (drop i text)))) ≡ ok o → new ≡ palette_from now (one_of o)
      hues at o e = read.palette (trim (part at (take (i + n - i) (drop i text)))).place ∙ ap (palette_after now) (ap line_of (sym (bytes_of at)) ∙ e)

      -- the line at i, and the lines ps after it
      head-refused : (ps : List Part) → split line_end (0 + i) (drop i text) ≡ part (0 + i) (take (i + n - i) (drop i text)) ∷ ps → (k : ℕ) → r ≡ refuse k
          → map_res (tell_all cue (whole seen now)) (lines_at room seen.cues i text) ≡ refuse k
      unfolding lines_in from
      head-refused ps e k f = rw e (refused-at cue room seen now ps (line_of (trim (part (0 + i) (take (i + n - i) (drop i text))))) k (says (0 + i) ∙ f))

      head-saw : (ps : List Part) → split line_end (0 + i) (drop i text) ≡ part (0 + i) (take (i + n - i) (drop i text)) ∷ ps → (s : Seen) → r ≡ ok s
          → map_res (tell_all cue (whole seen now)) (lines_at room seen.cues i text) ≡ map_res (tell_all cue (whole s new)) (lines_in (some room) s.cues ps)
      unfolding lines_in from
      head-saw ps e s f = rw e (saw-at cue room seen now ps (line_of (trim (part (0 + i) (take (i + n - i) (drop i text))))) s new (says (0 + i) ∙ f) (hues (0 + i)))

      pub measuring_refused : (k : ℕ) → r ≡ refuse k → MeasuredAs cue was (lines_in (some room) 0 (split line_end 0 text)) (refuse k) new
      measuring_refused k e =
          answered cue was (lines_in (some room) 0 (split line_end 0 text)) k
          (so_far.goes
          ∙ ⊎_elim (λ h. head-refused [] (last-part line_end text i n inside lead (0 + i) h) k e)
          (λ h. head-refused (split line_end (0 + (i + n + 1)) (drop (i + n + 1) text)) (next-part line_end text i n inside lead 0 h) k e)
          (le_or_lt (length text) (i + n)))
          new

      pub measuring_done : (s : Seen) → r ≡ ok s → length text ≤ i + n → MeasuredAs cue was (lines_in (some room) 0 (split line_end 0 text)) (ok s) new
      unfolding lines_in see_all palette_from
      measuring_done s e h =
          accepted cue was (lines_in (some room) 0 (split line_end 0 text)) s new (so_far.goes ∙ head-saw [] (last-part line_end text i n inside lead (0 + i) h) s e)

      pub measuring-next : (s : Seen) → r ≡ ok s → i + n < length text → Measuring text room cue was (i + n + 1) s new
      measuring-next s e h = record {
        inside = omega arith;
        goes = so_far.goes ∙ head-saw (split line_end (0 + (i + n + 1)) (drop (i + n + 1) text)) (next-part line_end text i n inside lead 0 h) s e;
      }

-- ---- the whole text
module _ (text : List ℕ) (r : Bool) (told : r ≡ all low_byte text) (room cue : ℕ) (was : List ℕ) where
  pub text_high : r ≡ false → MeasuredAs cue was (text_in (some room) text) (refuse high_byte) was
  unfolding text_in
  text_high e = let q : all low_byte text ≡ false = sym told ∙ e in rw q (answered cue was (refuse high_byte) high_byte refl was)

  pub text_low : r ≡ true → (a : Res Seen) (now : List ℕ) → MeasuredAs cue was (lines_in (some room) 0 (split line_end 0 text)) a now → MeasuredAs cue was (text_in (some room) text) a now
  unfolding text_in
  text_low e a now h = let q : all low_byte text ≡ true = sym told ∙ e in rw q h
