-- The turns of `find_parts`, over plain variables. Assumes nothing.
use Prim.Native.Nat.{ℕ, ◌+◌, ◌-◌, ◌≤◌, ◌<◌}
use mathlib.Core.Path.{◌≡◌, refl, sym, ap, ◌∙◌}
use mathlib.Core.Bool.{Bool, true, false, not, cond}
use Rattle.std.specs.Prelude.{Option, Some as some, None as none, option_copied}
use mathlib.Core.List.{List, [], ◌∷◌, map}
use native.Mathlib.Omega.{arith}
use lib.ListN.{length, take, drop}
use Rattle.grammar.specs.Index.{filepos_word}
use Rattle.grammar.specs.IndexParts.{unlike, comma}
use Rattle.grammar.specs.Parts.{Part}
use Rattle.idx_numbers_model.specs.Numbers.{or_else}
use Rattle.idx_numbers_model.specs.Parts.{part, front, trimmed, trim, starts}
use Rattle.idx_lines_model.specs.Answers.{bytes_of, time_bytes, position_bytes, Noted, FoundIn}
use Rattle.idx_lines_model.specs.Lines.{first_such, last_such, is_filepos, is_other, parts_at}
use Rattle.idx_numbers_model.proofs.Steps.{last-part, next-part, part_in}
use Rattle.idx_lines_model.specs.declared.Found.{Found}

-- f holds what the parts before i gave; what follows gives the rest
pub record Finding (s : List ℕ) (i : ℕ) (f : Found) : Type 0 where
  pub inside : i ≤ length s
  pub time : (at : ℕ) → time_bytes at s ≡ or_else (option_copied f.time) (time_bytes (at + i) (drop i s))
  pub position : (at : ℕ) → position_bytes at s ≡ or_else (position_bytes (at + i) (drop i s)) (option_copied f.position)

or_none_lem : (o : Option (List ℕ)) → or_else o none ≡ o
or_none_lem none = refl
or_none_lem (some x) = refl

bytes-or : (r : Bool) (x : Part) (o : Option Part) (g : Option (List ℕ))
    → or_else (bytes_of (or_else o (cond r (some x) none))) g ≡ or_else (bytes_of o) (or_else (cond r (some x.bytes) none) g)
bytes-or r x (some p) g = refl
bytes-or true x none g = refl
bytes-or false x none g = refl

bytes-first : (r : Bool) (x : Part) (o : Option Part) → bytes_of (cond r (some x) o) ≡ cond r (some x.bytes) (bytes_of o)
bytes-first true x o = refl
bytes-first false x o = refl

-- the part at i is n bytes long, and trimmed it is kept
module _ (s : List ℕ) (i n : ℕ) (inside : i ≤ length s) (lead : n ≡ length (front (unlike comma) (take (length s - i) (drop i s)))) where
  bytes : List ℕ
  bytes = take (i + n - i) (drop i s)

  pub end_in : i + n ≤ length s
  end_in = part_in comma s i n inside lead

  module _ (kept : List ℕ) (cut : kept ≡ trimmed (take (i + n - i) (drop i s))) (f : Found) (so_far : Finding s i f) (g : Found) (after : Noted kept f g) where
    trim-bytes : (at : ℕ) → (trim (part at bytes)).bytes ≡ kept
    unfolding trim bytes
    trim-bytes at = sym cut

    is_filepos_lem : (at : ℕ) → is_filepos (trim (part at bytes)) ≡ starts filepos_word kept
    is_filepos_lem at = ap (starts filepos_word) (trim-bytes at)

    -- the parts from i on: this one, and then the rest
    time-step : (at : ℕ) (ps : List Part) → parts_at at (drop i s) ≡ trim (part at bytes) ∷ ps
        → or_else (option_copied f.time) (time_bytes at (drop i s)) ≡ or_else (option_copied g.time) (bytes_of (first_such is_other ps))
    unfolding first_such
    time-step at ps e =
        rw (e, after.time)
        (ap (λ (b : Bool). or_else (option_copied f.time) (bytes_of (cond (not b) (some (trim (part at bytes))) (first_such is_other ps)))) (is_filepos_lem at)
        ∙ ap (or_else (option_copied f.time)) (bytes-first (not (starts filepos_word kept)) (trim (part at bytes)) (first_such is_other ps))
        ∙ ap (λ (x : List ℕ). or_else (option_copied f.time) (cond (not (starts filepos_word kept)) (some x) (bytes_of (first_such is_other ps)))) (trim-bytes at)
        ∙ go (starts filepos_word kept) (option_copied f.time) (bytes_of (first_such is_other ps)))
      where
        go : (t : Bool) (h o : Option (List ℕ)) → or_else h (cond (not t) (some kept) o) ≡ or_else (cond t h (or_else h (some kept))) o
        go true h o = refl
        go false none o = refl
        go false (some x) o = refl

    position-step : (at : ℕ) (ps : List Part) → parts_at at (drop i s) ≡ trim (part at bytes) ∷ ps
        → or_else (position_bytes at (drop i s)) (option_copied f.position) ≡ or_else (bytes_of (last_such is_filepos ps)) (option_copied g.position)
    unfolding last_such
    position-step at ps e =
        rw (e, after.position)
        (ap (λ (b : Bool). or_else (bytes_of (or_else (last_such is_filepos ps) (cond b (some (trim (part at bytes))) none))) (option_copied f.position)) (is_filepos_lem at)
        ∙ bytes-or (starts filepos_word kept) (trim (part at bytes)) (last_such is_filepos ps) (option_copied f.position)
        ∙ ap (λ (x : List ℕ). or_else (bytes_of (last_such is_filepos ps)) (or_else (cond (starts filepos_word kept) (some x) none) (option_copied f.position))) (trim-bytes at)
        ∙ ap (or_else (bytes_of (last_such is_filepos ps))) (go (starts filepos_word kept) (option_copied f.position)))
      where
        go : (t : Bool) (h : Option (List ℕ)) → or_else (cond t (some kept) none) h ≡ cond t (some kept) h
        go true h = refl
        go false h = refl

    pub finding-next : i + n < length s → Finding s (i + n + 1) g
    unfolding parts_at bytes
    finding-next h = record {
      inside = omega arith;
      time = λ at. so_far.time at ∙ time-step (at + i) (parts_at (at + (i + n + 1)) (drop (i + n + 1) s)) (ap (map trim) (next-part comma s i n inside lead at h));
      position = λ at. so_far.position at ∙ position-step (at + i) (parts_at (at + (i + n + 1)) (drop (i + n + 1) s)) (ap (map trim) (next-part comma s i n inside lead at h));
    }

    pub finding_done : length s ≤ i + n → FoundIn s g
    unfolding parts_at first_such last_such bytes
    finding_done h = record {
      time = λ at. sym (so_far.time at ∙ time-step (at + i) [] (ap (map trim) (last-part comma s i n inside lead (at + i) h)) ∙ or_none_lem (option_copied g.time));
      position = λ at. sym (so_far.position at ∙ position-step (at + i) [] (ap (map trim) (last-part comma s i n inside lead (at + i) h)));
    }
