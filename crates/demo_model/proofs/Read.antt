-- What is written reads back: marks, rows and fields, by what the nibbles of a unit spell. Assumes nothing.
use Prim.Native.Nat.{ℕ, zero, suc, ◌+◌, ◌-◌, ◌*◌, ◌/◌, ◌%◌, ◌^◌, ◌≤◌, ◌<◌}
use native.Mathlib.Omega.{arith}
use mathlib.Core.Path.{◌≡◌, refl, sym, ap, ◌∙◌, subst}
use mathlib.Core.Bool.{false}
use mathlib.Core.List.{List, [], ◌∷◌, ◌++◌}
use lib.ListN.{length, replicate, length-append, get_or-append}
use lib.Seq.{get_or-append-add}
use Rattle.grammar.specs.Bytes.{byte, nibble, nibbles}
use Rattle.grammar.specs.Rows.{Code, paints, overshoots, RowCodes, after_codes}
use Rattle.grammar.specs.Pixels.{row_pixels, clipped_row}
use Rattle.demo_model.specs.Codes.{Mark, placed_code, Proper, painted, digits, nibbles_of}

-- ---- What nibbles spell

-- the nibbles of u from half byte p on are ns
pub record Spells (u : List ℕ) (p : ℕ) (ns : List ℕ) : Type 0 where
  pub each : (i : ℕ) → i < length ns → nibble u (p + i) ≡ byte ns i

pub spells-front : (u : List ℕ) (p : ℕ) (a b : List ℕ) → Spells u p (a ++ b) → Spells u p a
spells-front u p a b h =
    record { each = λ i l. h.each i (omega (arith, length-append a b)) ∙ get_or-append a b 0 i l }

pub spells-rest : (u : List ℕ) (p : ℕ) (a b : List ℕ) → Spells u p (a ++ b) → Spells u (p + length a) b
spells-rest u p a b h =
    record {
      each = λ i l.
          let z : p + length a + i ≡ p + (length a + i) = omega arith in
          ap (nibble u) z ∙ h.each (length a + i) (omega (arith, length-append a b)) ∙ get_or-append-add a b i 0;
    }

pub length_digits : (k v : ℕ) → length (digits k v) ≡ k
unfolding digits
length_digits zero v = refl
length_digits (suc k) v = length-append (digits k (v / 16)) (v % 16 ∷ []) ∙ omega (arith, length_digits k (v / 16))

-- k nibbles spell a number below 16^k
digits-read : (u : List ℕ) (p k v : ℕ) → v < 16 ^ k → Spells u p (digits k v) → nibbles u p k ≡ v
unfolding digits nibbles
digits-read u p zero v h s = omega arith
digits-read u p (suc k) v h s =
    let x = digits-read u p k (v / 16) (omega arith) (spells-front u p (digits k (v / 16)) (v % 16 ∷ []) s) in
    let t = (spells-rest u p (digits k (v / 16)) (v % 16 ∷ []) s).each 0 (omega arith) in
    let n = length_digits k (v / 16) in
    let z : p + length (digits k (v / 16)) + 0 ≡ p + k = omega arith in
    let y : nibble u (p + k) ≡ v % 16 = ap (nibble u) (sym z) ∙ t in
    omega arith

-- ---- Marks that paint a row

unfoldable pub placed : ℕ → List Mark → List Code
placed p [] = []
placed p (m ∷ ms) = placed_code p m ∷ placed (p + m.size) ms

-- the marks paint the `left` pixels px to go, and none is clipped
unfoldable pub Draws : ℕ → List Mark → List ℕ → Type 0
Draws left [] px = (left ≡ 0) × (px ≡ [])
Draws left (m ∷ ms) px =
    (0 < left) × Proper m × (overshoots left (placed_code 0 m) ≡ false)
    × ((q : List ℕ) × (px ≡ replicate (painted left m) (m.value % 4) ++ q) × Draws (left - painted left m) ms q)

-- what marks that are spelled read as
pub record Reads (u : List ℕ) (e left p : ℕ) (ms : List Mark) (px : List ℕ) : Type 0 where
  pub codes : RowCodes u e left p (placed p ms)
  pub pixels : row_pixels left (placed p ms) ≡ px
  pub after : after_codes p (placed p ms) ≡ p + length (nibbles_of ms)
  pub count : length (placed p ms) ≡ length ms
  pub clipped : clipped_row left (placed p ms) ≡ 0

paints-anywhere : (left p : ℕ) (m : Mark) → paints left (placed_code p m) ≡ painted left m
unfolding paints
paints-anywhere left p m = refl

clips_anywhere : (left p : ℕ) (m : Mark) → overshoots left (placed_code p m) ≡ overshoots left (placed_code 0 m)
unfolding overshoots
clips_anywhere left p m = refl

pub marks-read : (u : List ℕ) (e left p : ℕ) (ms : List Mark) (px : List ℕ) → Draws left ms px → Spells u p (nibbles_of ms) → p + length (nibbles_of ms) ≤ 2 * e → Reads u e left p ms px
unfolding Draws placed RowCodes row_pixels clipped_row after_codes nibbles_of
marks-read u e left p [] px d s h =
    record { codes = d.0; pixels = rw d.0 (sym d.1); after = omega arith; count = refl; clipped = refl }
marks-read u e left p (m ∷ ms) px d s h =
    let k = d.1 in
    let a = digits m.size m.value in
    let n : length (digits m.size m.value) ≡ m.size = length_digits m.size m.value in
    let l = length-append (digits m.size m.value) (nibbles_of ms) in
    let t : Spells u (p + m.size) (nibbles_of ms) = subst (λ (x : ℕ). Spells u (p + x) (nibbles_of ms)) n (spells-rest u p (digits m.size m.value) (nibbles_of ms) s) in
    let v = digits-read u p m.size m.value k.within (spells-front u p (digits m.size m.value) (nibbles_of ms) s) in
    let w = paints-anywhere left p m in
    let r = marks-read u e (left - painted left m) (p + m.size) ms d.3.0 d.3.2 t (omega arith) in
    record {
      codes = (
        d.0,
        refl,
        record { one = k.one; four = k.four; inside = omega arith; number = sym v; most = k.most; least = k.least },
        rw w r.codes,
      );
      pixels = rw w (ap (λ (q : List ℕ). replicate (painted left m) (m.value % 4) ++ q) r.pixels ∙ sym d.3.1);
      after = r.after ∙ omega arith;
      count = ap suc r.count;
      clipped = rw (clips_anywhere left p m, d.2, w) (omega (arith, r.clipped));
    }
