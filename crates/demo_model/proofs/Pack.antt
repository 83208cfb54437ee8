-- Nibbles packed two a byte, and a unit made of its head, its fields and its control block. Assumes nothing.
use Prim.Native.Nat.{ℕ, zero, suc, ◌+◌, ◌*◌, ◌/◌, ◌%◌, ◌<◌}
use native.Mathlib.Omega.{arith}
use mathlib.Core.Path.{◌≡◌, refl, ap, ◌∙◌}
use mathlib.Core.Bool.{Bool, true, false, cond}
use mathlib.Core.List.{List, [], ◌∷◌, ◌++◌}
use lib.ListN.{length, get_or-append}
use lib.Seq.{get_or-append-add}
use lib.Dec.{eqb}
use Rattle.grammar.specs.Bytes.{byte, nibble, nibbles}
use Rattle.demo_model.specs.Codes.{Mark, digits, nibbles_of, evened, packed, row_marks, row_nibbles, field_nibbles}
use Rattle.demo_model.proofs.Read.{Spells}

-- ---- Nibbles are below 16

unfoldable pub Small : List ℕ → Type 0
Small [] = Unit {0}
Small (n ∷ ns) = (n < 16) × Small ns

pub small-append : (a b : List ℕ) → Small a → Small b → Small (a ++ b)
unfolding Small
small-append [] b h k = k
small-append (x ∷ a) b h k = (h.0, small-append a b h.1 k)

small-digits : (k v : ℕ) → Small (digits k v)
unfolding digits Small
small-digits zero v = tt
small-digits (suc k) v = small-append (digits k (v / 16)) (v % 16 ∷ []) (small-digits k (v / 16)) (omega arith, tt)

small-marks : (ms : List Mark) → Small (nibbles_of ms)
unfolding nibbles_of Small
small-marks [] = tt
small-marks (m ∷ ms) = small-append (digits m.size m.value) (nibbles_of ms) (small-digits m.size m.value) (small-marks ms)

small-evened : (ns : List ℕ) → Small ns → Small (evened ns)
unfolding Small
small-evened ns h = small-append ns (cond (eqb (length ns % 2) 0) [] (0 ∷ [])) h (go (eqb (length ns % 2) 0))
  where
    go : (t : Bool) → Small (cond t [] (0 ∷ []))
    go true = tt
    go false = (omega arith, tt)

pub small-field : (last : ℕ → ℕ → List Mark) (rs : List (List ℕ)) → Small (field_nibbles last rs)
unfolding field_nibbles Small
small-field last [] = tt
small-field last (r ∷ rs) = small-append (row_nibbles last r) (field_nibbles last rs) (small-evened (nibbles_of (row_marks last r)) (small-marks (row_marks last r))) (small-field last rs)

-- ---- Nibbles of bytes

nibble-cons : (x : ℕ) (s : List ℕ) (i : ℕ) → nibble (x ∷ s) (suc (suc i)) ≡ nibble s i
unfolding nibble
nibble-cons x s i =
    let a : suc (suc i) % 2 ≡ i % 2 = omega arith in
    let b : suc (suc i) / 2 ≡ suc (i / 2) = omega arith in
    rw (a, b)

-- behind a prefix
pub nibble-after : (a s : List ℕ) (i : ℕ) → nibble (a ++ s) (2 * length a + i) ≡ nibble s i
unfolding nibble
nibble-after a s i =
    let x : (2 * length a + i) % 2 ≡ i % 2 = omega arith in
    let y : (2 * length a + i) / 2 ≡ length a + i / 2 = omega arith in
    rw (x, y, get_or-append-add a s (i / 2) 0)

-- before a rest
nibble-before : (a s : List ℕ) (i : ℕ) → i < 2 * length a → nibble (a ++ s) i ≡ nibble a i
unfolding nibble
nibble-before a s i h = rw (get_or-append a s 0 (i / 2) (omega arith))

pub nibbles-after : (a s : List ℕ) (i k : ℕ) → nibbles (a ++ s) (2 * length a + i) k ≡ nibbles s i k
unfolding nibbles
nibbles-after a s i zero = refl
nibbles-after a s i (suc k) =
    let z : 2 * length a + i + k ≡ 2 * length a + (i + k) = omega arith in
    let y = ap (nibble (a ++ s)) z ∙ nibble-after a s (i + k) in
    let x = nibbles-after a s i k in
    omega arith

pub length-packed : (ns : List ℕ) → length (packed ns) ≡ (length ns + 1) / 2
unfolding packed
length-packed [] = omega arith
length-packed (a ∷ []) = omega arith
length-packed (a ∷ b ∷ ns) = let i = length-packed ns in omega arith

pair-first : (x a : ℕ) (s : List ℕ) → x / 16 ≡ a → a < 16 → nibble (x ∷ s) 0 ≡ a
unfolding nibble
pair-first x a s e h = omega arith

pair-second : (x b : ℕ) (s : List ℕ) → x % 16 ≡ b → nibble (x ∷ s) 1 ≡ b
unfolding nibble
pair-second x b s e = e

packed-nibble : (ns : List ℕ) → Small ns → (i : ℕ) → i < length ns → nibble (packed ns) i ≡ byte ns i
unfolding packed Small
packed-nibble [] h i l = absurd (omega arith)
packed-nibble (a ∷ []) h zero l = pair-first (a * 16) a [] (omega arith) h.0
packed-nibble (a ∷ []) h (suc i) l = absurd (omega arith)
packed-nibble (a ∷ b ∷ ns) h zero l = let k = h.1.0 in pair-first (a * 16 + b) a (packed ns) (omega arith) h.0
packed-nibble (a ∷ b ∷ ns) h (suc zero) l = let k = h.1.0 in pair-second (a * 16 + b) b (packed ns) (omega arith)
packed-nibble (a ∷ b ∷ ns) h (suc (suc i)) l = nibble-cons (a * 16 + b) (packed ns) i ∙ packed-nibble ns h.1.1 i (omega arith)

-- packed nibbles are spelled where they stand
pub packed-spells : (a ns b : List ℕ) → Small ns → Spells (a ++ (packed ns ++ b)) (2 * length a) ns
packed-spells a ns b h =
    record {
      each = λ i l.
          let n = length-packed ns in
          nibble-after a (packed ns ++ b) i ∙ nibble-before (packed ns) b i (omega arith) ∙ packed-nibble ns h i l;
    }
