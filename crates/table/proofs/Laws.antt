-- Laws of parts and of written bytes: one for each turn of a loop, over plain variables. Assumes nothing.
use Prim.Native.Nat.{ℕ, suc, ◌+◌, ◌-◌, ◌*◌, ◌≤◌, ◌<◌, min}
use native.Mathlib.Numerals.{add-one}
use native.Mathlib.Omega.{arith}
use mathlib.Core.Path.{◌≡◌, refl, sym, ap, ◌∙◌}
use mathlib.Core.Bool.{false}
use mathlib.Core.Logic.{⊎_elim}
use mathlib.Core.List.{List, [], ◌∷◌}
use lib.ListN.{length, take, drop, get_or, set, length-drop, length-set, drop_of_length-le}
use lib.Seq.{sets, drop-drop, drop-cons}
use Rattle.std.proofs.lemmas.List.{take_rest, get_or-take, get_or-drop}
use lib.Dec.{eqb}
use borrow.Author.Tests.{eq-eqb, ne_eqb}
use Rattle.outcome.proofs.Laws.{le_or_lt}
use Rattle.grammar.specs.IndexParts.{unlike}
use Rattle.idx_numbers_model.specs.Parts.{front, rest}
use Rattle.idx_numbers_model.proofs.Loops.{drop-front, front-le, take-front}
use Rattle.table.specs.Table.{part_at, number_of, given_at, hex_digit, bytes_of, Written, Stored}
use Rattle.table.specs.declared.Item.{Item}

-- ---- Parts

-- m is the mark; n bytes stand before the next one from a place on
module _ (m : ℕ) (s : List ℕ) (from n : ℕ) (h : from ≤ length s) (e : n ≡ length (front (unlike m) (take (length s - from) (drop from s)))) where
  before-is : n ≡ length (front (unlike m) (drop from s))
  before-is = e ∙ ap (λ (l : List ℕ). length (front (unlike m) l)) (take_rest s from)

  pub before-inside : from + n ≤ length s
  before-inside = omega (arith, before-is, front-le (unlike m) (drop from s), length-drop from s)

  behind-is : (to : ℕ) → to ≡ min (from + n + 1) (length s) → drop to s ≡ drop (from + n + 1) s
  behind-is to f =
      ⊎_elim (λ a. let q : to ≡ from + n + 1 = omega arith in ap (λ (k : ℕ). drop k s) q)
      (λ a. let p : length s ≤ to = omega arith in let q : length s ≤ from + n + 1 = omega arith in drop_of_length-le s p ∙ sym (drop_of_length-le s q))
      (le_or_lt (from + n + 1) (length s))

  rest-is : drop (from + n + 1) s ≡ drop 1 (rest (unlike m) (drop from s))
  rest-is =
      sym (drop-drop 1 (from + n) s) ∙ ap (drop 1) (sym (drop-drop n from s)) ∙ ap (λ (k : ℕ). drop 1 (drop k (drop from s))) before-is
      ∙ ap (drop 1) (drop-front (unlike m) (drop from s))

  pub part-turn : (left to : ℕ) → 0 < left → to ≡ min (from + n + 1) (length s) → part_at m (left - 1) (drop to s) ≡ part_at m left (drop from s)
  unfolding part_at
  part-turn left to l f = let z : left ≡ suc (left - 1) = omega arith in go left z
    where
      go : (k : ℕ) → k ≡ suc (left - 1) → part_at m (left - 1) (drop to s) ≡ part_at m k (drop from s)
      go k q = rw q (ap (part_at m (left - 1)) (behind-is to f ∙ rest-is))

  pub part_end : (left : ℕ) → left ≡ 0 → take n (take (length s - from) (drop from s)) ≡ part_at m left (drop from s)
  unfolding part_at
  part_end left q =
      rw q (ap (take n) (take_rest s from) ∙ ap (λ (k : ℕ). take k (drop from s)) before-is ∙ take-front (unlike m) (drop from s))

  pub part-long : n ≡ length (take n (take (length s - from) (drop from s)))
  part-long = e ∙ sym (rw (e, take-front (unlike m) (take (length s - from) (drop from s))))

-- ---- Bytes

plain_other : (x : ℕ) (l : List ℕ) → eqb x 92 ≡ false → bytes_of (x ∷ l) ≡ x ∷ bytes_of l
unfolding bytes_of
plain_other x [] h = refl
plain_other x (a ∷ []) h = refl
plain_other x (a ∷ b ∷ l) h = rw h

plain-short : (x : ℕ) (l : List ℕ) → length l < 2 → bytes_of (x ∷ l) ≡ x ∷ bytes_of l
unfolding bytes_of
plain-short x [] h = refl
plain-short x (a ∷ []) h = refl
plain-short x (a ∷ b ∷ l) h = absurd (omega (arith, h))

three : (x a b : ℕ) (l : List ℕ) → x ≡ 92 → bytes_of (x ∷ a ∷ b ∷ l) ≡ (hex_digit a * 16 + hex_digit b) ∷ bytes_of l
unfolding bytes_of
three x a b l q = rw (eq-eqb x 92 q)

module _ (s : List ℕ) (i : ℕ) (h : i < length s) where
  here : drop i s ≡ get_or s i 0 ∷ drop (i + 1) s
  here = rw add-one (drop-cons s i 0 h)

  -- byte k of the part that is looked at
  left_at : (k : ℕ) → k < length s - i → get_or (take (length s - i) (drop i s)) k 0 ≡ get_or s (i + k) 0
  left_at k f = get_or-take (length s - i) (drop i s) k 0 f ∙ get_or-drop i s k 0

  pub left_first : get_or (take (length s - i) (drop i s)) 0 0 ≡ get_or s i 0
  left_first = let z : i + 0 ≡ i = omega arith in left_at 0 (omega arith) ∙ ap (λ (k : ℕ). get_or s k 0) z

  pub written-other : (r : Item) → (get_or s i 0 ≡ 92 → ⊥) → r ≡ record { byte = get_or s i 0; next = i + 1 } → Written s i r
  written-other r f q = rw q (record { first = rw here (plain_other (get_or s i 0) (drop (i + 1) s) (ne_eqb _ 92 f)); past = omega arith; inside = omega arith })

  pub written-short : (r : Item) → length s - i < 3 → r ≡ record { byte = get_or s i 0; next = i + 1 } → Written s i r
  written-short r f q = rw q (record { first = rw here (plain-short (get_or s i 0) (drop (i + 1) s) (omega (arith, length-drop (i + 1) s))); past = omega arith; inside = omega arith })

  pub written-hex : (r : Item) (b : ℕ) → get_or s i 0 ≡ 92 → 3 ≤ length s - i
      → b ≡ hex_digit (get_or (take (length s - i) (drop i s)) 1 0) * 16 + hex_digit (get_or (take (length s - i) (drop i s)) 2 0) → r ≡ record { byte = b; next = i + 3 } → Written s i r
  written-hex r b f l e q =
      let z1 : suc (i + 1) ≡ i + 2 = omega arith in
      let z2 : suc (i + 2) ≡ i + 3 = omega arith in
      let h1 : i + 1 < length s = omega arith in
      let h2 : i + 2 < length s = omega arith in
      let g1 : drop (i + 1) s ≡ get_or s (i + 1) 0 ∷ drop (i + 2) s = drop-cons s (i + 1) 0 h1 ∙ ap (λ (k : ℕ). get_or s (i + 1) 0 ∷ drop k s) z1 in
      let g2 : drop (i + 2) s ≡ get_or s (i + 2) 0 ∷ drop (i + 3) s = drop-cons s (i + 2) 0 h2 ∙ ap (λ (k : ℕ). get_or s (i + 2) 0 ∷ drop k s) z2 in
      let all : drop i s ≡ get_or s i 0 ∷ get_or s (i + 1) 0 ∷ get_or s (i + 2) 0 ∷ drop (i + 3) s = here ∙ ap (λ (t : List ℕ). get_or s i 0 ∷ t) (g1 ∙ ap (λ (t : List ℕ). get_or s (i + 1) 0 ∷ t) g2) in
      rw (q, e, left_at 1 (omega arith), left_at 2 (omega arith)) (record { first = ap bytes_of all ∙ three (get_or s i 0) (get_or s (i + 1) 0) (get_or s (i + 2) 0) (drop (i + 3) s) f; past = omega arith; inside = omega arith })

-- a turn: what is still to be stored, behind what was stored
pub record Storing (s out₀ : List ℕ) (i n : ℕ) (out : List ℕ) : Type 0 where
  pub upto : i ≤ length s
  pub few : n ≤ i
  pub size : length out ≡ length out₀
  pub count : n + length (bytes_of (drop i s)) ≡ length (bytes_of s)
  pub held : sets out n (bytes_of (drop i s)) ≡ sets out₀ 0 (bytes_of s)

pub storing_goes : (s out₀ : List ℕ) (i n : ℕ) (out : List ℕ) → Storing s out₀ i n out → (r : Item) → Written s i r
    → (out' : List ℕ) → out' ≡ set out n r.byte → Storing s out₀ r.next (n + 1) out'
storing_goes s out₀ i n out g r w out' q =
    record {
      upto = w.inside;
      few = omega (arith, g.few, w.past);
      size = rw (q, length-set) g.size;
      count = omega (arith, g.count, ap length w.first);
      held = rw (q, add-one) (sym (ap (sets out n) w.first) ∙ g.held);
    }

pub storing_ends : (s out₀ : List ℕ) (i n : ℕ) (out : List ℕ) → Storing s out₀ i n out → length s ≤ i → Stored s out₀ n out
unfolding bytes_of
storing_ends s out₀ i n out g h =
    let z : drop i s ≡ [] = drop_of_length-le s h in
    let b : bytes_of (drop i s) ≡ [] = ap bytes_of z in
    record { count = omega (arith, g.count, ap length b); held = sym (ap (sets out n) b) ∙ g.held }

-- the parts of a row
pub given_is : (s : List ℕ) (k : ℕ) (a b : List ℕ) (r : ℕ) → a ≡ part_at 124 2 s → b ≡ part_at 32 k a → r ≡ number_of b → r ≡ given_at s k
given_is s k a b r p q e = e ∙ ap number_of (q ∙ ap (part_at 32 k) p)

pub stored_is : (a b out out' : List ℕ) (r : ℕ) → a ≡ b → Stored a out r out' → Stored b out r out'
stored_is a b out out' r p g = record { count = g.count ∙ ap (λ (t : List ℕ). length (bytes_of t)) p; held = g.held ∙ ap (λ (t : List ℕ). sets out 0 (bytes_of t)) p }
