-- The unit at a place, as the code answers it. Assumes nothing.
use Prim.Native.Nat.{ℕ, ◌+◌, ◌-◌, ◌≤◌, ◌<◌, min}
use Rattle.std.specs.Prelude.{Some as some, None as none}
use native.Mathlib.Omega.{arith}
use mathlib.Core.Path.{◌≡◌, refl, sym, ap, ◌∙◌, subst}
use mathlib.Core.Bool.{Bool, true, false, cond}
use mathlib.Core.Logic.{⊎_elim}
use mathlib.Core.List.{List, []}
use lib.ListN.{length, take, drop, length-drop, drop_of_length-le}
use lib.Seq.{slice, sets, length-slice, take_all, take-nil}
use lib.Dec.{leb}
use borrow.Author.Tests.{le-leb, lt-leb, lt-ltb, le-ltb}
use Rattle.outcome.specs.Outcome.{Res, ok, refuse, past_file, bad_stream, short_scratch}
use Rattle.outcome.proofs.Laws.{either, le_or_lt}
use Rattle.grammar.specs.Bytes.{word}
use Rattle.grammar.specs.Packets.{Packet, Form, packets, unit_of, stream_id, top_stream}
use Rattle.ps_model.specs.Packets.{packets_at, is_bare, form_at}
use Rattle.ps_model.specs.Unit.{unit_at, joined_at, stream_unit}
use Rattle.ps_model.specs.Answers.{joined_given, unit_given, unit_stored, Extracted}
use Rattle.ps_model.specs.declared.UnitAt.{UnitAt}
use Rattle.ps_model.proofs.Grammar.{bare-sound}

-- an answer under another name
pub named : {f : List ℕ} {p n : ℕ} {s s' : List ℕ} {r t : Res UnitAt} → r ≡ t → Extracted f p n s r s'
    → Extracted f p n s t s'
named {f} {p} {n} {s} {s'} q d = subst (λ (x : Res UnitAt). Extracted f p n s x s') q d

-- what a call leaves in scratch: the answer, and what is stored
abbrev pub Leaves : Res Form → List ℕ → Res UnitAt → List ℕ → Type 0
Leaves m s r s' = (r ≡ unit_given m) × (s' ≡ sets s 0 (unit_stored m))

-- ---- A part, clipped

past : (s : List ℕ) (a n m : ℕ) → length s ≤ a → take m (drop (length s) s) ≡ take n (drop a s)
past s a n m h =
    let k : length s ≤ length s = omega arith in
    ap (take m) (drop_of_length-le s k) ∙ take-nil m ∙ sym (ap (take n) (drop_of_length-le s h) ∙ take-nil n)

rest : (s : List ℕ) (a n : ℕ) → length s - a ≤ n → take (length s - a) (drop a s) ≡ take n (drop a s)
rest s a n h =
    let k : length (drop a s) ≤ length s - a = rw (length-drop a s) (omega arith) in
    let l : length (drop a s) ≤ n = rw (length-drop a s) (omega arith) in
    take_all (length s - a) (drop a s) k ∙ sym (take_all n (drop a s) l)

-- n bytes from a on, both within the slice
pub part_clipped : (s : List ℕ) (a n b e : ℕ) → b ≡ min a (length s) → e ≡ b + min n (length s - b) → take (e - b) (drop b s) ≡ take n (drop a s)
part_clipped s a n b e p q = ⊎_elim (λ h. let z : b ≡ length s = omega arith in rw z (past s a n (e - length s) h)) inside (le_or_lt (length s) a)
  where
    inside : a < length s → take (e - b) (drop b s) ≡ take n (drop a s)
    inside h =
        let z : b ≡ a = omega arith in
        ⊎_elim
        (λ (l : length s - a ≤ n). let w : e - a ≡ length s - a = omega arith in rw (z, w) (rest s a n l))
        (λ (l : n < length s - a). let w : e - a ≡ n = omega arith in rw (z, w))
        (le_or_lt (length s - a) n)

-- ---- A bare unit

module _ (f : List ℕ) (p : ℕ) where
  pub bare-few : length f < p + 4 → none ≡ cond (is_bare f p) (some (word f p)) none
  unfolding is_bare
  bare-few h = rw (lt-leb (p + 4) (length f) h)

  module _ (four : p + 4 ≤ length f) where
    pub bare-small : word f p < 4 → none ≡ cond (is_bare f p) (some (word f p)) none
    unfolding is_bare
    bare-small h = rw (le-leb (p + 4) (length f) four, lt-leb 4 (word f p) h)

    module _ (least : 4 ≤ word f p) where
      pub bare-long : length f < p + word f p → none ≡ cond (is_bare f p) (some (word f p)) none
      unfolding is_bare
      bare-long h = rw (le-leb (p + 4) (length f) four, le-leb 4 (word f p) least, lt-leb (p + word f p) (length f) h)

      pub bare-yes : p + word f p ≤ length f → some (word f p) ≡ cond (is_bare f p) (some (word f p)) none
      unfolding is_bare
      bare-yes h = rw (le-leb (p + 4) (length f) four, le-leb 4 (word f p) least, le-leb (p + word f p) (length f) h)

-- ---- What packets give

module _ (id : ℕ → Bool) (f : List ℕ) (p : ℕ) where
  -- the packets that a measure speaks of
  pub holds_list : (t : ℕ) → ok t ≡ joined_given (packets_at id f p [])
      → (ps : List Packet) × (packets_at id f p [] ≡ ok ps) × (t ≡ length (unit_of (packets ps)))
  holds_list t e = go (packets_at id f p []) refl e
    where
      go : (r : Res (List Packet)) → packets_at id f p [] ≡ r → ok t ≡ joined_given r
          → (ps : List Packet) × (packets_at id f p [] ≡ ok ps) × (t ≡ length (unit_of (packets ps)))
      go (ok ps) q g = (ps, q, cc)
      go (refuse n) q g = let z : ◌≡◌ {A = ℕ} 0 1 = cc in absurd (omega arith)

  module _ (s : List ℕ) where
    pub joined-refused : (n : ℕ) → refuse n ≡ joined_given (packets_at id f p [])
        → Leaves (joined_at id f p (length s)) s (refuse n) s
    unfolding joined_at
    joined-refused n e = go (packets_at id f p []) refl e
      where
        go : (r : Res (List Packet)) → packets_at id f p [] ≡ r → refuse n ≡ joined_given r
            → Leaves (joined_at id f p (length s)) s (refuse n) s
        go (ok ps) q g = let z : ◌≡◌ {A = ℕ} 0 1 = cc in absurd (omega arith)
        go (refuse m) q g = let z : n ≡ m = cc in (rw q (ap refuse z), rw q)

    module _ (t : ℕ) (e : ok t ≡ joined_given (packets_at id f p [])) where
      pub joined-short : length s < t → Leaves (joined_at id f p (length s)) s (refuse short_scratch) s
      unfolding joined_at
      joined-short h =
          let w = holds_list t e in
          let x = w.2 in
          let l : length s < length (unit_of (packets w.0)) = omega arith in
          (rw (w.1, lt-leb (length (unit_of (packets w.0))) (length s) l), rw (w.1, lt-leb (length (unit_of (packets w.0))) (length s) l))

      pub joined-fits : t ≤ length s → (s' : List ℕ)
          → ((ps : List Packet) → packets_at id f p [] ≡ ok ps → s' ≡ sets s 0 (unit_of (packets ps)))
          → Leaves (joined_at id f p (length s)) s (ok (UnitAt.Joined t)) s'
      unfolding joined_at
      joined-fits h s' g =
          let w = holds_list t e in
          let x = w.2 in
          let l : length (unit_of (packets w.0)) ≤ length s = omega arith in
          (rw (w.1, le-leb (length (unit_of (packets w.0))) (length s) l) (ap (λ x. ok (UnitAt.Joined x)) w.2), rw (w.1, le-leb (length (unit_of (packets w.0))) (length s) l) (g w.0 w.1))

    -- ---- The unit at a position

    pub unit-past : length f ≤ p → Leaves (unit_at id f p (length s)) s (refuse past_file) s
    unfolding unit_at form_at
    unit-past h = (rw (le-ltb p (length f) h), rw (le-ltb p (length f) h))

    module _ (h : p < length f) where
      pub unit-bare : (n : ℕ) → some n ≡ cond (is_bare f p) (some (word f p)) none → Leaves (unit_at id f p (length s)) s (ok (UnitAt.Bare n)) s
      unfolding unit_at form_at
      unit-bare n e = ⊎_elim yes no (either (is_bare f p))
        where
          yes : is_bare f p ≡ true → Leaves (unit_at id f p (length s)) s (ok (UnitAt.Bare n)) s
          yes t =
              let b = bare-sound f p t in
              let i = b.fits in
              let g : some n ≡ some (word f p) = e ∙ rw t in
              let q : n ≡ word f p = cc in
              let l : length (slice p (p + word f p) f) ≡ n = length-slice p (p + word f p) f i ∙ omega arith in
              let z : leb 0 (length s) ≡ true = le-leb 0 (length s) (omega arith) in
              (rw (lt-ltb p (length f) h, t, z) (ap (λ x. ok (UnitAt.Bare x)) (sym l)), rw (lt-ltb p (length f) h, t, z))

          no : is_bare f p ≡ false → Leaves (unit_at id f p (length s)) s (ok (UnitAt.Bare n)) s
          no t = let q : some n ≡ none = e ∙ rw t in let y : ◌≡◌ {A = ℕ} 0 1 = cc in absurd (omega arith)

      pub unit_joined_lem : none ≡ cond (is_bare f p) (some (word f p)) none → (r : Res UnitAt) (s' : List ℕ) → Leaves (joined_at id f p (length s)) s r s'
          → Leaves (unit_at id f p (length s)) s r s'
      unfolding unit_at form_at joined_at
      unit_joined_lem e r s' g = ⊎_elim yes no (either (is_bare f p))
        where
          yes : is_bare f p ≡ true → Leaves (unit_at id f p (length s)) s r s'
          yes t = let q : none ≡ some (word f p) = e ∙ rw t in let y : ◌≡◌ {A = ℕ} 0 1 = cc in absurd (omega arith)

          no : is_bare f p ≡ false → Leaves (unit_at id f p (length s)) s r s'
          no t = (rw (lt-ltb p (length f) h, t) g.0, rw (lt-ltb p (length f) h, t) g.1)

-- ---- The unit of a stream

module _ (f : List ℕ) (p n : ℕ) (s : List ℕ) where
  pub stream_high : top_stream < n → Extracted f p n s (refuse bad_stream) s
  unfolding stream_unit
  stream_high h = record { answer = rw (lt-leb n top_stream h); scratch = rw (lt-leb n top_stream h) }

  pub stream_low : n ≤ top_stream → (r : Res UnitAt) (s' : List ℕ) → Leaves (unit_at (stream_id n) f p (length s)) s r s'
      → Extracted f p n s r s'
  unfolding stream_unit
  stream_low h r s' l = record { answer = rw (le-leb n top_stream h) l.0; scratch = rw (le-leb n top_stream h) l.1 }
