-- The arms of `parse_timestamp`, over plain variables. Assumes nothing.
use Prim.Native.Nat.{ℕ, ◌+◌, ◌-◌, ◌≤◌, ◌<◌}
use mathlib.Core.Path.{◌≡◌, refl, sym, ap, ◌∙◌}
use mathlib.Core.Bool.{Bool, true, false, cond}
use Rattle.std.specs.Prelude.{Option, Some as some, None as none, Result, Ok, Err, option_copied}
use Rattle.std.proofs.Common.{Bor}
use mathlib.Core.List.{List, [], ◌∷◌}
use native.Mathlib.Omega.{arith}
use lib.Dec.{leb}
use lib.ListN.{length, drop, take, length-drop}
use lib.Seq.{take_all}
use lib.IntN.{ℤ}
use borrow.Author.Tests.{lt-leb}
use Rattle.outcome.specs.Outcome.{Res, ok, refuse, number_of, answered, and_then, need, check, bad_time, long_time, bad_position, large_position}
use Rattle.grammar.specs.Index.{Said, timestamp, start_of, filepos_word, top_stored}
use Rattle.grammar.specs.IndexNumbers.{Valued}
use Rattle.grammar.specs.IndexParts.{colon}
use Rattle.grammar.specs.Parts.{Part}
use Rattle.idx_numbers_model.specs.Numbers.{position_of, or_else}
use Rattle.idx_numbers_model.specs.Parts.{part, valued, trim, trimmed, split, strip, moved, after, found}
use Rattle.idx_lines_model.specs.Answers.{bytes_of, FoundIn, Value, cued, lean, time_at, position_then, position_with}
use Rattle.idx_lines_model.specs.Lines.{first_such, last_such, is_filepos, fields, steps, timestamp_at, is_other, parts_at, position_at}
use Rattle.idx_numbers_model.proofs.Grammar.{never}
use Rattle.idx_numbers_model.proofs.Steps.{found-is}
use Rattle.idx_lines_model.proofs.Clock.{time-fits}
use mir.Syntax.{w64}
use mir.Val.{to_z, of_z}
use mir.Facts.{to_z-of_z}
use Rattle.idx_lines_model.specs.declared.Found.{Found}
use Rattle.outcome.specs.declared.Refusal.{Refusal}

-- the part behind its bytes
named : (o : Option Part) (b : List ℕ) → some b ≡ bytes_of o → (q : Part) × (o ≡ some q) × (q.bytes ≡ b)
named none b e = never (cc)
named (some q) b e = (q, refl, cc)

last-passes : (t : Part → Bool) (ps : List Part) (x : Part) → last_such t ps ≡ some x → t x ≡ true
unfolding last_such
last-passes t [] x e = never (cc)
last-passes t (p ∷ ps) x e = go (last_such t ps) refl (t p) refl (last-passes t ps x) e
  where
    go : (o : Option Part) → last_such t ps ≡ o → (u : Bool) → t p ≡ u → (last_such t ps ≡ some x → t x ≡ true) → or_else o (cond u (some p) none) ≡ some x → t x ≡ true
    go (some y) q u r ih e = ih (q ∙ e)
    go none q true r ih e = let f : p ≡ x = cc in rw f at r
    go none q false r ih e = never (cc)

time-then : (ps : List Part) (r : Res ℤ) (k : List (Valued ℤ) → Res (Option Said)) (g : ℤ → Res (Option Value)) → time_at ps ≡ r → ((fs : List (Valued ℤ)) → lean (k fs) ≡ g (start_of fs))
    → lean (and_then (need bad_time (fields 4 ps)) (λ fs. check (steps fs) long_time (k fs))) ≡ and_then r g
unfolding time_at
time-then ps r k g e h = go (fields 4 ps) ∙ ap (λ (x : Res ℤ). and_then x g) e
  where
    end : (fs : List (Valued ℤ)) (b : Bool) → lean (check b long_time (k fs)) ≡ and_then (check b long_time (ok (start_of fs))) g
    end fs true = h fs
    end fs false = refl

    go : (o : Option (List (Valued ℤ))) → lean (and_then (need bad_time o) (λ fs. check (steps fs) long_time (k fs)))
        ≡ and_then (and_then (need bad_time o) (λ fs. check (steps fs) long_time (ok (start_of fs)))) g
    go none = refl
    go (some fs) = end fs (steps fs)

-- ---- a timestamp whose parts were found
module _ (s : List ℕ) (f : Found) (told : FoundIn s f) (i : Part) (at : ℕ) where
  module _ (time : Bor (List ℕ)) (yes : f.time ≡ some time) where
    time-of : (q : Part) × (first_such is_other (parts_at at s) ≡ some q) × (q.bytes ≡ time.now)
    time-of = named (first_such is_other (parts_at at s)) time.now (ap option_copied (sym yes) ∙ told.time at)

    module _ (found_at : Bor (List ℕ)) (has : f.position ≡ some found_at) where
      place : List ℕ
      place = found_at.now

      place_of : (q : Part) × (last_such is_filepos (parts_at at s) ≡ some q) × (q.bytes ≡ place)
      unfolding place
      place_of = named (last_such is_filepos (parts_at at s)) found_at.now (ap option_copied (sym has) ∙ told.position at)

      starts-it : (strip filepos_word place ≡ some (drop 8 place)) × (8 ≤ length place)
      starts-it = found-is filepos_word place (ap (λ (l : List ℕ). found (strip filepos_word l)) (sym place_of.2) ∙ last-passes is_filepos (parts_at at s) place_of.0 place_of.1)

      pub long_place : 8 ≤ length found_at.now
      unfolding place
      long_place = starts-it.1

      text : Part
      text = part (place_of.0.place + 8) (drop 8 place)

      after_is : after filepos_word place_of.0 ≡ some text
      unfolding text
      after_is = ap (moved (place_of.0.place + 8)) (ap (strip filepos_word) place_of.2 ∙ starts-it.0)

      text_is : (trim text).bytes ≡ trimmed (drop 8 place)
      unfolding trim text
      text_is = refl

      tail-is : (ps : List Part) (fs : List (Valued ℤ)) → lean (position_at i ps fs place_of.0) ≡ position_with (start_of fs) (drop 8 place)
      tail-is ps fs = rw after_is (go (position_of (trim text).bytes) ∙ ap (λ (l : List ℕ). position_then (start_of fs) (position_of l)) text_is)
        where
          placed : ℕ → Said
          placed v = timestamp i ps fs (valued (trim text) v)

          within : (v : ℕ) (b : Bool)
              → lean (check b large_position (ok (some (placed v))))
              ≡ check b large_position (ok (some (cued (start_of fs) v)))
          within v true = refl
          within v false = refl

          go : (o : Option ℕ)
              → lean
              (and_then (need bad_position o) (λ v. check (leb v top_stored) large_position (ok (some (placed v)))))
              ≡ position_then (start_of fs) o
          go none = refl
          go (some v) = within v (leb v top_stored)

      module _ (n : Result ℤ Refusal) (read : (k : ℕ) → answered n ≡ time_at (split colon k time.now)) where
        whole : and_then (answered n) (λ z. position_with z (drop 8 place)) ≡ lean (timestamp_at i (part at s))
        whole =
            rw (time-of.1, place_of.1)
            (sym (time-then (split colon time-of.0.place time-of.0.bytes) (answered n) (λ fs. position_at i (parts_at at s) fs place_of.0) (λ z. position_with z (drop 8 place))
            (ap (λ (l : List ℕ). time_at (split colon time-of.0.place l)) time-of.2 ∙ sym (read time-of.0.place))
            (tail-is (parts_at at s))))

        pub stamp-bad_time : (e : Refusal) → n ≡ Err e → refuse (number_of e) ≡ lean (timestamp_at i (part at s))
        stamp-bad_time e q = rw q at whole

        pub stamp-rest : (z : ℤ) → n ≡ Ok z → (r : Res (Option Value)) → r ≡ position_with (to_z w64 (of_z w64 z)) (drop 8 found_at.now) → r ≡ lean (timestamp_at i (part at s))
        unfolding place
        stamp-rest z e r q =
            let g : to_z w64 (of_z w64 z) ≡ z = to_z-of_z {w = w64} (time-fits (split colon 0 time.now) z (sym (read 0) ∙ ap answered e)) in
            q ∙ rw g (rw e at whole)

-- ---- the position beside the time
module _ (y z : ℤ) (as_read : y ≡ z) (p x : List ℕ) (n : Option ℕ) (cut : x ≡ trimmed (take (length p - 8) (drop 8 p))) (read : n ≡ position_of x) where
  read' : n ≡ position_of (trimmed (drop 8 p))
  read' = rw (cut ∙ ap trimmed (take_all (length p - 8) (drop 8 p) (rw (length-drop 8 p) (omega arith)))) at read

  pub beside_large : (v : ℕ) → n ≡ some v → top_stored < v → refuse large_position ≡ position_with z (drop 8 p)
  beside_large v e h = rw (← read', e, lt-leb v top_stored h)
