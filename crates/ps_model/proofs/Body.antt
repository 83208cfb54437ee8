-- The header of a PES packet, read from the packet's own bytes. Assumes nothing.
use Prim.Native.Nat.{ℕ, zero, suc, ◌+◌, ◌-◌, ◌/◌, ◌≤◌, ◌<◌, min}
use native.Mathlib.Omega.{arith}
use mathlib.Core.Path.{◌≡◌, refl, sym, ap, ◌∙◌}
use mathlib.Core.List.{List, [], ◌∷◌}
use lib.ListN.{length, take, drop, length-drop}
use lib.Seq.{take_all}
use borrow.Author.Tests.{eq-eqb, ne_eqb, le-leb, lt-leb, lt-ltb, le-ltb}
use mathlib.Core.Bool.{cond}
use mathlib.Core.Logic.{⊎_elim}
use lib.Dec.{eqb, leb}
use Rattle.std.specs.Prelude.{Some, None}
use Rattle.std.specs.List.{prefix_len}
use Rattle.std.proofs.lemmas.List.{drop_more, drop_all}
use Rattle.outcome.proofs.Laws.{le_or_lt}
use Rattle.outcome.specs.Outcome.{Res, ok, refuse, check, no_unit}
use Rattle.grammar.specs.Bytes.{byte}
use Rattle.grammar.specs.Packets.{buffer_size, stamp_size}
use Rattle.ps_model.specs.OnePacket.{leading, header1_at, header_at, body_at}
use Rattle.ps_model.specs.PacketAnswers.{body_given, body_answer, body_part}
use Rattle.ps_model.proofs.PacketGrammar.{body_iff}

-- past the end there is no stuffing
byte_past : (s : List ℕ) (i : ℕ) → length s ≤ i → byte s i ≡ 0
byte_past [] i h = refl
byte_past (x ∷ s) zero h = absurd (omega arith)
byte_past (x ∷ s) (suc i) h = byte_past s i (omega arith)

-- the stuffing in front, as the code counts it
stuffed_from : (j : ℕ) (s : List ℕ) (a : ℕ) → prefix_len (λ x. eqb x 0xFF) (take j (drop a s)) ≡ leading j s a
unfolding leading
stuffed_from zero s a = refl
stuffed_from (suc j) s a = ⊎_elim here (past (stuffed_from j s (a + 1))) (le_or_lt (length s) a)
  where
    past : prefix_len (λ x. eqb x 0xFF) (take j (drop (a + 1) s)) ≡ leading j s (a + 1) → a < length s → prefix_len (λ x. eqb x 0xFF) (take (suc j) (drop a s)) ≡ cond (eqb (byte s a) 0xFF) (suc (leading j s (a + 1))) 0
    past e h =
        let z : 1 + prefix_len (λ x. eqb x 0xFF) (take j (drop (a + 1) s)) ≡ suc (leading j s (a + 1)) = omega (arith, e) in
        rw (drop_more s a 0 h) (ap (λ (n : ℕ). cond (eqb (byte s a) 0xFF) n 0) z)

    here : length s ≤ a → prefix_len (λ x. eqb x 0xFF) (take (suc j) (drop a s)) ≡ cond (eqb (byte s a) 0xFF) (suc (leading j s (a + 1))) 0
    here h = rw (drop_all a s h, byte_past s a h)

front_16 : (s : List ℕ) (n : ℕ) → n ≡ min (length s) 16 → take n s ≡ take 16 s
front_16 s n e =
    ⊎_elim
    (λ (h : length s ≤ 16). let l : length s ≤ n = omega arith in take_all n s l ∙ sym (take_all 16 s h))
    (λ (h : 16 < length s). let z : n ≡ 16 = omega arith in rw z)
    (le_or_lt (length s) 16)

-- no more than 16 of it, and of what is there
pub stuffed : (s : List ℕ) (n : ℕ) → n ≡ min (length s) 16 → prefix_len (λ x. eqb x 0xFF) (take n s) ≡ leading 16 s 0
stuffed s n e = rw (front_16 s n e) (stuffed_from 16 s 0)

module _ (s : List ℕ) where
  -- ---- The older form

  module _ (n : ℕ) where
    z : 0 + n ≡ n
    z = omega arith

    pub older-none : length s ≤ n → refuse no_unit ≡ body_answer (length s) (header1_at s 0 (length s) n)
    unfolding header1_at
    older-none h = rw (z, le-ltb n (length s) h)

    module _ (h : n < length s) (p : ℕ) (e : p ≡ n + buffer_size (byte s n)) where
      pub older-cut : length s ≤ p → refuse no_unit ≡ body_answer (length s) (header1_at s 0 (length s) n)
      unfolding header1_at
      older-cut k = rw (z, lt-ltb n (length s) h, ← e, le-ltb p (length s) k)

      module _ (k : p < length s) (b : ℕ) (f : b ≡ p + stamp_size (byte s p)) where
        pub older_at : check (leb b (length s)) no_unit (ok b) ≡ body_answer (length s) (header1_at s 0 (length s) n)
        unfolding header1_at
        older_at = rw (z, lt-ltb n (length s) h, ← e, lt-ltb p (length s) k, ← f)

  -- ---- Either form

  pub body-none : length s ≡ 0 → refuse no_unit ≡ body_given (body_at s 0 (length s))
  unfolding body_at
  body-none h = let l : length s ≤ 0 = omega arith in rw (le-ltb 0 (length s) l)

  module _ (h : 0 < length s) where
    module _ (t : byte s 0 / 64 ≡ 2) where
      pub body-cut : length s < 3 → refuse no_unit ≡ body_given (body_at s 0 (length s))
      unfolding body_at header_at
      body-cut l = rw (lt-ltb 0 (length s) h, eq-eqb (byte s 0 / 64) 2 t, lt-leb 3 (length s) l)

      pub body_at_lem : 3 ≤ length s → check (leb (3 + byte s 2) (length s)) no_unit (ok (3 + byte s 2)) ≡ body_given (body_at s 0 (length s))
      unfolding body_at header_at
      body_at_lem k = rw (lt-ltb 0 (length s) h, eq-eqb (byte s 0 / 64) 2 t, le-leb 3 (length s) k)

    pub body_older : (byte s 0 / 64 ≡ 2 → ⊥) → (n : ℕ) → n ≡ leading 16 s 0 → body_answer (length s) (header1_at s 0 (length s) n) ≡ body_given (body_at s 0 (length s))
    unfolding body_at header_at
    body_older t n e = rw (lt-ltb 0 (length s) h, ne_eqb (byte s 0 / 64) 2 t, ← e)

-- ---- The rest of a PES

pub record Rest (s : List ℕ) (b : ℕ) : Type 0 where
  pub inside : b ≤ length s
  pub rest : Some (take (length s - b) (drop b s)) ≡ body_part s (body_at s 0 (length s))

pub rest_at : (s : List ℕ) (b : ℕ) → ok b ≡ body_given (body_at s 0 (length s)) → Rest s b
rest_at s b e = go (body_at s 0 (length s)) refl e
  where
    go : (r : Res ℕ) → body_at s 0 (length s) ≡ r → ok b ≡ body_given r → Rest s b
    go (refuse n) q f = let y : ◌≡◌ {A = ℕ} 0 1 = cc in absurd (omega arith)
    go (ok c) q f =
        let y : b ≡ c = cc in
        let i = ((body_iff s 0 (length s) c).0 q).within in
        let l : length (drop b s) ≤ length s - b = rw (length-drop b s) (omega arith) in
        record { inside = omega arith; rest = ap Some (take_all (length s - b) (drop b s) l ∙ ap (λ (x : ℕ). drop x s) y) ∙ sym (ap (body_part s) q) }

pub rest-none : (s : List ℕ) (n : ℕ) → refuse n ≡ body_given (body_at s 0 (length s)) → None ≡ body_part s (body_at s 0 (length s))
rest-none s n e = go (body_at s 0 (length s)) refl e
  where
    go : (r : Res ℕ) → body_at s 0 (length s) ≡ r → refuse n ≡ body_given r → None ≡ body_part s (body_at s 0 (length s))
    go (ok c) q f = let y : ◌≡◌ {A = ℕ} 0 1 = cc in absurd (omega arith)
    go (refuse m) q f = sym (ap (body_part s) q)

-- a sum by its second part
pub ap-plus : (n : ℕ) {x y : ℕ} → x ≡ y → n + x ≡ n + y
ap-plus n e = ap (λ (k : ℕ). n + k) e
