-- Two fields as slices of their own: what measuring and painting the one after the other leaves, and that it is what the unit's rows give.
-- Assumes nothing.
use Prim.Native.Nat.{ℕ, zero, suc, ◌+◌, ◌-◌, ◌*◌, ◌/◌, ◌%◌, ◌^◌, ◌≤◌, ◌<◌}
use native.Mathlib.Nat.{suc-mul, add-mul, mul_comm, mul_assoc, mul_left_comm, mul-le-mul_right}
use native.Mathlib.Omega.{arith}
use mathlib.Core.Path.{◌≡◌, refl, sym, ap, ◌∙◌, subst}
use mathlib.Core.Bool.{Bool, true, false, cond}
use mathlib.Core.List.{List, [], ◌∷◌}
use lib.ListN.{length, replicate, length-replicate}
use lib.Seq.{sets, slice}
use Rattle.outcome.specs.Outcome.{Res, ok, refuse, and_then, listed, IsOk, field_ran_out, map_res}
use Rattle.outcome.proofs.Laws.{ok-injective, and_then-ok}
use Rattle.grammar.specs.Rows.{Code, paints, RowCodes, after_codes, align, FieldRows}
use Rattle.grammar.specs.Pixels.{row_pixels, index_map}
use Rattle.rle_model.specs.Codes.{field_at}
use Rattle.rle_model.specs.Field.{rows_from, paint_field}
use Rattle.rle_model.specs.Fields.{weave, lower_at, fields_at, FieldsDecoded, both_answer, both_paint, blank_rows, BothFit, BothDecoded}
use Rattle.rle_model.specs.Answers.{nothing, plus, counted, AtMost, row_counts, field_counts, field_answer, plus_field, measured, part_rows, Counted}
use Rattle.rle_model.specs.declared.Counts.{Counts}
use Rattle.rle_model.proofs.Grammar.{paints-pos, field-iff}
use Rattle.rle_model.proofs.Loops.{plus-nothing, at-most_le, at-most-plus, at_most_one, fielded, unfielded, width_fits}
use Rattle.rle_model.proofs.Refusals.{field-refuses}
use Rattle.rle_model.proofs.Part.{moved_rows, moved-field_counts, moved-paint, part_field}
use Rattle.rle_model.proofs.Weave.{weave-counts, weave-pixels}

-- ---- A field counts no more than it has pixels

row-most : (u : List ℕ) (e left p : ℕ) (cs : List Code) → RowCodes u e left p cs → AtMost left (row_counts left cs)
unfolding RowCodes row_counts
row-most u e left p [] h = (omega arith, omega arith)
row-most u e left p (c ∷ cs) h =
    at-most_le (1 + (left - paints left c)) left _ (omega (arith, paints-pos u e left c h.2 h.0, h.0))
    (at-most-plus 1 (left - paints left c) (counted left c) (row_counts (left - paints left c) cs) (at_most_one left c)
    (row-most u e (left - paints left c) (p + c.size) cs h.3))

rows-most : (u : List ℕ) (e w p : ℕ) (rs : List (List Code)) → FieldRows u e w p rs → AtMost (length rs * w) (field_counts w rs)
unfolding FieldRows field_counts
rows-most u e w p [] h = (omega arith, omega arith)
rows-most u e w p (r ∷ rs) h =
    at-most_le (w + length rs * w) (suc (length rs) * w) _ (omega (arith, suc-mul (length rs) w))
    (at-most-plus w (length rs * w) (row_counts w r) (field_counts w rs) (row-most u e w p r h.0)
    (rows-most u e w (align (after_codes p r)) rs h.1))

pub field-most : (u : List ℕ) (e w n p : ℕ) (b : Counts) → ok b ≡ field_answer w (field_at u e w n p) → AtMost (n * w) b
field-most u e w n p b q = go (field_at u e w n p) refl q
  where
    go : (o : Res (List (List Code))) → field_at u e w n p ≡ o → ok b ≡ field_answer w o → AtMost (n * w) b
    go (refuse k) h q' = let z : ◌≡◌ {A = ℕ} 0 1 = cc in absurd (omega arith)
    go (ok rs) h q' =
        let z : b ≡ field_counts w rs = cc in
        let f = (field-iff u e w n p rs).0 h in
        let m : length rs * w ≡ n * w = ap (λ (k : ℕ). k * w) f.0 in
        subst (AtMost (n * w)) (sym z)
        (at-most_le (length rs * w) (n * w) (field_counts w rs) (omega arith) (rows-most u e w p rs f.1))

-- ---- Rows that stay 0

pub blank-more : (w o n : ℕ) (px px' : List ℕ) → 0 < n → px' ≡ sets px o (replicate w 0)
    → paint_field w (o + w + w) (blank_rows (n - 1)) px' ≡ paint_field w o (blank_rows n) px
unfolding paint_field row_pixels
blank-more w o n px px' h q =
    let z : n ≡ suc (n - 1) = omega arith in
    let y : o + w + w ≡ o + 2 * w = omega arith in
    (λ i. paint_field w (y i) (blank_rows (n - 1)) (q i)) ∙ sym (ap (λ (m : ℕ). paint_field w o (blank_rows m) px) z)

pub blank-end : (w o n : ℕ) (px : List ℕ) → n ≡ 0 → px ≡ paint_field w o (blank_rows n) px
unfolding paint_field
blank-end w o n px q = rw q

blank-counts : (w n : ℕ) → field_counts w (blank_rows n) ≡ nothing
unfolding field_counts row_counts
blank-counts w zero = refl
blank-counts w (suc n) = rw (blank-counts w n)

-- ---- One field, and then the other

pub more_rows : (a b r : Counts) (m : Res Counts) → ok b ≡ m → r ≡ plus a b → ok r ≡ plus_field a m
more_rows a b r m q p = ap ok p ∙ ap (plus_field a) q

pub more_refused : (a : Counts) (k : ℕ) (m : Res Counts) → refuse k ≡ m → refuse k ≡ plus_field a m
more_refused a k m q = ap (plus_field a) q

module _ (w : ℕ) (x y : Res (List (List Code))) where
  both-rows : (a : Counts) (r : Res Counts) → ok a ≡ field_answer w x → r ≡ plus_field a (field_answer w y) → r ≡ both_answer w x y
  both-rows a r q p = go x q
    where
      go : (o : Res (List (List Code))) → ok a ≡ field_answer w o → r ≡ both_answer w o y
      go (refuse k) q' = let z : ◌≡◌ {A = ℕ} 0 1 = cc in absurd (omega arith)
      go (ok xs) q' = let z : a ≡ field_counts w xs = cc in p ∙ ap (λ (b : Counts). plus_field b (field_answer w y)) z

  both_refused : (k : ℕ) → refuse k ≡ field_answer w x → refuse k ≡ both_answer w x y
  both_refused k q = go x q
    where
      go : (o : Res (List (List Code))) → refuse k ≡ field_answer w o → refuse k ≡ both_answer w o y
      go (refuse m) q' = q'
      go (ok xs) q' = let z : ◌≡◌ {A = ℕ} 0 1 = cc in absurd (omega arith)

  both-painted : IsOk x → IsOk y → (px px₁ px₂ : List ℕ) → px₁ ≡ paint_field w 0 (listed x) px → px₂ ≡ paint_field w w (listed y) px₁ → px₂ ≡ both_paint w x y px
  both-painted i j px px₁ px₂ p q = go x y i j p q
    where
      go : (o o' : Res (List (List Code))) → IsOk o → IsOk o' → px₁ ≡ paint_field w 0 (listed o) px → px₂ ≡ paint_field w w (listed o') px₁ → px₂ ≡ both_paint w o o' px
      go (refuse k) o' i j p q = absurd i
      go (ok xs) (refuse k) i j p q = absurd j
      go (ok xs) (ok ys) i j p q = q ∙ ap (paint_field w w ys) p

module _ (s t : List ℕ) (w n m : ℕ) where
  pub measured-rows : (a : Counts) (r : Res Counts) → Counted s w n a → r ≡ plus_field a (measured t w m) → r ≡ both_answer w (part_rows s w n) (part_rows t w m)
  measured-rows = both-rows w (part_rows s w n) (part_rows t w m)

  pub measured-refused : (k : ℕ) → refuse k ≡ measured s w n → refuse k ≡ both_answer w (part_rows s w n) (part_rows t w m)
  measured-refused = both_refused w (part_rows s w n) (part_rows t w m)

-- a refusal of the first: nothing was painted
pub upper-refused : (s : List ℕ) (w n k : ℕ) (y : Res (List (List Code))) (px px' : List ℕ) → refuse k ≡ measured s w n
    → px' ≡ paint_field w 0 (listed (part_rows s w n)) px → BothDecoded w (part_rows s w n) y px (refuse k) px'
unfolding paint_field
upper-refused s w n k y px px' a p =
    let e = unfielded s (length s) w n 0 k a in
    record { answer = both_refused w (part_rows s w n) y k a; pixels = rw e (rw e at p) }

-- a refusal of the second: the first is refused with the same number, or accepted and not painted
pub lower_refused : (s t : List ℕ) (w n m k : ℕ) (px : List ℕ) → refuse k ≡ measured t w m
    → BothDecoded w (part_rows s w n) (part_rows t w m) px (refuse k) px
lower_refused s t w n m k px a =
    let e = unfielded t (length t) w m 0 k a in
    go (part_rows s w n) refl (part_rows t w m) e (field-refuses t (length t) w m 0 k e)
  where
    go : (o : Res (List (List Code))) → part_rows s w n ≡ o → (o' : Res (List (List Code))) → o' ≡ refuse k → k ≡ field_ran_out
        → BothDecoded w o o' px (refuse k) px
    go (refuse j) q o' e f =
        let z : k ≡ j = f ∙ sym (field-refuses s (length s) w n 0 j q) in
        record { answer = ap refuse z; pixels = refl }
    go (ok xs) q o' e f = rw e (record { answer = refl; pixels = refl })

-- the first painted, and rows that stay 0
pub upper-painted : (s : List ℕ) (w n m : ℕ) (a : Counts) (px px₁ px₂ : List ℕ) → Counted s w n a
    → px₁ ≡ paint_field w 0 (listed (part_rows s w n)) px → px₂ ≡ paint_field w w (blank_rows m) px₁
    → BothDecoded w (part_rows s w n) (ok (blank_rows m)) px (ok a) px₂
upper-painted s w n m a px px₁ px₂ c p q =
    record {
      answer = both-rows w (part_rows s w n) (ok (blank_rows m)) a (ok a) c (ap ok (sym (plus-nothing a) ∙ ap (plus a) (sym (blank-counts w m))));
      pixels = both-painted w (part_rows s w n) (ok (blank_rows m)) (fielded s (length s) w n 0 a c) tt px px₁ px₂ p q;
    }

-- the first painted, and the second
pub lower-painted : (s t : List ℕ) (w n m : ℕ) (a b r : Counts) (px px₁ px₂ : List ℕ) → Counted s w n a → Counted t w m b → r ≡ plus a b
    → px₁ ≡ paint_field w 0 (listed (part_rows s w n)) px → px₂ ≡ paint_field w w (listed (part_rows t w m)) px₁
    → BothDecoded w (part_rows s w n) (part_rows t w m) px (ok r) px₂
lower-painted s t w n m a b r px px₁ px₂ c d e p q =
    record {
      answer = both-rows w (part_rows s w n) (part_rows t w m) a (ok r) c (more_rows a b r (measured t w m) d e);
      pixels = both-painted w (part_rows s w n) (part_rows t w m) (fielded s (length s) w n 0 a c) (fielded t (length t) w m 0 b d) px px₁ px₂ p q;
    }

-- the counts of a field alone are those of both, where the rows of the other stay 0
alone-measured : (w : ℕ) (x : Res (List (List Code))) (n : ℕ) → field_answer w x ≡ both_answer w x (ok (blank_rows n))
alone-measured w (refuse k) n = refl
alone-measured w (ok xs) n = ap ok (sym (plus-nothing (field_counts w xs)) ∙ ap (plus (field_counts w xs)) (sym (blank-counts w n)))

-- ---- The unit's rows

-- as many rows in the one as in the other, or one more
abbrev Paired : Res (List (List Code)) → Res (List (List Code)) → Type 0
Paired x y = (a b : List (List Code)) → x ≡ ok a → y ≡ ok b → (length b ≤ length a) × (length a ≤ length b + 1)

abbrev woven : Res (List (List Code)) → Res (List (List Code)) → Res (List (List Code))
woven x y = and_then x (λ a. and_then y (λ b. ok (weave a b)))

woven-answer : (w : ℕ) (x y : Res (List (List Code))) → Paired x y → both_answer w x y ≡ field_answer w (woven x y)
woven-answer w (refuse k) y h = refl
woven-answer w (ok a) (refuse k) h = refl
woven-answer w (ok a) (ok b) h = let f = h a b refl refl in ap ok (weave-counts w a b f.0 f.1)

woven-pixels : (w : ℕ) (x y : Res (List (List Code))) (px : List ℕ) → Paired x y → both_paint w x y px ≡ sets px 0 (index_map w (listed (woven x y)))
unfolding index_map
woven-pixels w (refuse k) y px h = refl
woven-pixels w (ok a) (refuse k) px h = refl
woven-pixels w (ok a) (ok b) px h =
    let f = h a b refl refl in
    let z : w ≡ 0 + w = omega arith in
    ap (λ (o : ℕ). paint_field w o b (paint_field w 0 a px)) z ∙ weave-pixels w 0 a b px f.0 f.1

-- rows at other places
moved-answer : (w k l : ℕ) (x y : Res (List (List Code))) → both_answer w x y ≡ both_answer w (map_res (moved_rows k) x) (map_res (moved_rows l) y)
moved-answer w k l (refuse n) y = refl
moved-answer w k l (ok a) (refuse n) = refl
moved-answer w k l (ok a) (ok b) = rw (moved-field_counts k w a, moved-field_counts l w b)

moved-both : (w k l : ℕ) (x y : Res (List (List Code))) (px : List ℕ) → both_paint w x y px ≡ both_paint w (map_res (moved_rows k) x) (map_res (moved_rows l) y) px
moved-both w k l (refuse n) y px = refl
moved-both w k l (ok a) (refuse n) px = refl
moved-both w k l (ok a) (ok b) px =
    ap (paint_field w w b) (sym (moved-paint k w 0 a px)) ∙ sym (moved-paint l w w b (paint_field w 0 (moved_rows k a) px))

moved-blank : (k n : ℕ) → moved_rows k (blank_rows n) ≡ blank_rows n
moved-blank k zero = refl
moved-blank k (suc n) = ap (λ (rs : List (List Code)). [] ∷ rs) (moved-blank k n)

-- the bottom field as a slice of its own, or rows that stay 0
abbrev lower_part : List ℕ → ℕ → ℕ → Bool → ℕ → ℕ → Res (List (List Code))
lower_part u b f shown w n = cond shown (part_rows (slice b f u) w n) (ok (blank_rows n))

-- half of the rows, and the other half
pub rows-upper : (h : ℕ) → h / 2 + h % 2 ≡ rows_from 0 h
unfolding rows_from
rows-upper h = omega arith

pub rows-lower : (h : ℕ) → h / 2 ≡ rows_from 1 h
unfolding rows_from
rows-lower h = omega arith

module _ (u : List ℕ) (t e b f : ℕ) (te : e ≤ length u) (bf : f ≤ length u) (w h : ℕ) where
  lower-moved : (shown : Bool) → lower_at u b f shown w (rows_from 1 h) ≡ map_res (moved_rows (2 * b)) (lower_part u b f shown w (rows_from 1 h))
  unfolding lower_at
  lower-moved true = part_field u b f bf w (rows_from 1 h)
  lower-moved false = ap ok (sym (moved-blank (2 * b) (rows_from 1 h)))

  lower-length : (shown : Bool) (y : List (List Code)) → lower_at u b f shown w (rows_from 1 h) ≡ ok y → length y ≡ rows_from 1 h
  unfolding lower_at
  lower-length true y q = ((field-iff u f w (rows_from 1 h) (2 * b) y).0 q).0
  lower-length false y q = ap length (sym (ok-injective q)) ∙ length-replicate (rows_from 1 h) []

  pairs : (shown : Bool) → Paired (field_at u e w (rows_from 0 h) (2 * t)) (lower_at u b f shown w (rows_from 1 h))
  unfolding rows_from
  pairs shown x y p q =
      let l = ((field-iff u e w (rows_from 0 h) (2 * t) x).0 p).0 in
      let m = lower-length shown y q in
      (omega arith, omega arith)

  module _ (shown : Bool) (s : List ℕ) (y : Res (List (List Code))) (n : ℕ) (p : s ≡ slice t e u) (q : y ≡ lower_part u b f shown w (rows_from 1 h)) (z : n ≡ rows_from 0 h) where
    upper-moved : field_at u e w (rows_from 0 h) (2 * t) ≡ map_res (moved_rows (2 * t)) (part_rows s w n)
    upper-moved = part_field u t e te w (rows_from 0 h) ∙ rw (p, z)

    fields-answer : both_answer w (part_rows s w n) y ≡ field_answer w (fields_at u t e b f shown w h)
    unfolding fields_at
    fields-answer =
        moved-answer w (2 * t) (2 * b) (part_rows s w n) y
        ∙ (λ i. both_answer w (sym upper-moved i) (map_res (moved_rows (2 * b)) (q i)))
        ∙ ap (both_answer w (field_at u e w (rows_from 0 h) (2 * t))) (sym (lower-moved shown))
        ∙ woven-answer w (field_at u e w (rows_from 0 h) (2 * t)) (lower_at u b f shown w (rows_from 1 h)) (pairs shown)

    fields-pixels : (px : List ℕ) → both_paint w (part_rows s w n) y px ≡ sets px 0 (index_map w (listed (fields_at u t e b f shown w h)))
    unfolding fields_at
    fields-pixels px =
        moved-both w (2 * t) (2 * b) (part_rows s w n) y px
        ∙ (λ i. both_paint w (sym upper-moved i) (map_res (moved_rows (2 * b)) (q i)) px)
        ∙ ap (λ (v : Res (List (List Code))). both_paint w (field_at u e w (rows_from 0 h) (2 * t)) v px) (sym (lower-moved shown))
        ∙ woven-pixels w (field_at u e w (rows_from 0 h) (2 * t)) (lower_at u b f shown w (rows_from 1 h)) px (pairs shown)

  module _ (shown : Bool) (s : List ℕ) (n m : ℕ) (p : s ≡ slice t e u) (x : n ≡ rows_from 0 h) (y : m ≡ rows_from 1 h) where
    -- where there is a bottom field
    module _ (q : shown ≡ true) (s' : List ℕ) (p' : s' ≡ slice b f u) where
      lower-shown : part_rows s' w m ≡ lower_part u b f shown w (rows_from 1 h)
      lower-shown = rw (q, p', y)

      pub shown-measured : (r : Res Counts) → r ≡ both_answer w (part_rows s w n) (part_rows s' w m) → r ≡ field_answer w (fields_at u t e b f shown w h)
      shown-measured r k = k ∙ fields-answer shown s (part_rows s' w m) n p lower-shown x

      pub shown-decoded : (px px' : List ℕ) (r : Res Counts) → BothDecoded w (part_rows s w n) (part_rows s' w m) px r px' → FieldsDecoded u t e b f shown w h px r px'
      shown-decoded px px' r k =
          record {
            answer = shown-measured r k.answer;
            pixels = k.pixels ∙ fields-pixels shown s (part_rows s' w m) n p lower-shown x px;
          }

    -- and where there is none
    module _ (q : shown ≡ false) where
      lower-blank : ok (blank_rows m) ≡ lower_part u b f shown w (rows_from 1 h)
      lower-blank = rw (q, y)

      blank-answer : (r : Res Counts) → r ≡ both_answer w (part_rows s w n) (ok (blank_rows m)) → r ≡ field_answer w (fields_at u t e b f shown w h)
      blank-answer r k = k ∙ fields-answer shown s (ok (blank_rows m)) n p lower-blank x

      pub blank-measured : (r : Res Counts) → r ≡ measured s w n → r ≡ field_answer w (fields_at u t e b f shown w h)
      blank-measured r k = blank-answer r (k ∙ alone-measured w (part_rows s w n) m)

      pub blank-decoded : (px px' : List ℕ) (r : Res Counts) → BothDecoded w (part_rows s w n) (ok (blank_rows m)) px r px' → FieldsDecoded u t e b f shown w h px r px'
      blank-decoded px px' r k =
          record {
            answer = blank-answer r k.answer;
            pixels = k.pixels ∙ fields-pixels shown s (ok (blank_rows m)) n p lower-blank x px;
          }

-- the rows are those of both fields, and a refusal is for a field that runs out
module _ (u : List ℕ) (t e b f : ℕ) (shown : Bool) (w h : ℕ) where
  pub fields-woven : (rs : List (List Code)) → fields_at u t e b f shown w h ≡ ok rs
      → (x : List (List Code)) × (y : List (List Code)) × (field_at u e w (rows_from 0 h) (2 * t) ≡ ok x) × (lower_at u b f shown w (rows_from 1 h) ≡ ok y) × (weave x y ≡ rs)
  unfolding fields_at
  fields-woven rs q =
      let x = and_then-ok (field_at u e w (rows_from 0 h) (2 * t)) (λ a. and_then (lower_at u b f shown w (rows_from 1 h)) (λ c. ok (weave a c))) q in
      let y = and_then-ok (lower_at u b f shown w (rows_from 1 h)) (λ c. ok (weave x.0 c)) x.2 in
      (x.0, y.0, x.1, y.1, ok-injective y.2)

-- a picture of no rows
pub fields-none : (u : List ℕ) (t e b f : ℕ) (shown : Bool) (w h : ℕ) (px : List ℕ) → h ≡ 0 → FieldsDecoded u t e b f shown w h px (ok nothing) px
unfolding fields_at lower_at field_at weave index_map field_counts rows_from
fields-none u t e b f shown w h px q = rw q (go shown)
  where
    go : (s : Bool) → FieldsDecoded u t e b f s w 0 px (ok nothing) px
    go true = record { answer = refl; pixels = refl }
    go false = record { answer = refl; pixels = refl }

-- ---- Room

-- the rows of both end within the map
pub room_fits : (h w l : ℕ) → (h ≡ 0 → ⊥) → w * h ≤ l → BothFit l w (h / 2 + h % 2) (h / 2)
room_fits h w l a b =
    let z : 0 < h = positive h a in
    let m : (h / 2 + h % 2) * 2 * w ≤ (h + 1) * w = mul-le-mul_right w (omega arith) in
    let n : h / 2 * 2 * w ≤ h * w = mul-le-mul_right w (omega arith) in (
      width_fits 0 h w l z b,
      omega (arith, m, add-mul h 1 w, mul_assoc (h / 2 + h % 2) 2 w, mul_comm w h),
      omega (arith, n, mul_assoc (h / 2) 2 w, mul_comm w h),
    )
  where
    positive : (n : ℕ) → (n ≡ 0 → ⊥) → 0 < n
    positive zero f = absurd (f refl)
    positive (suc n) f = omega arith

-- the pixels of both fields are the picture's
pub both_few : (h w : ℕ) → (h / 2 + h % 2) * w + h / 2 * w ≡ w * h
both_few h w =
    let z : h / 2 + h % 2 + h / 2 ≡ h = omega arith in
    sym (add-mul (h / 2 + h % 2) (h / 2) w) ∙ ap (λ (k : ℕ). k * w) z ∙ mul_comm h w

-- the counts of fields that a map holds have a sum that fits
pub sum_fits : (s t : List ℕ) (w n m l : ℕ) (a b : Counts) → Counted s w n a → Counted t w m b
    → BothFit l w n m → l < 2 ^ 63 → AtMost (2 ^ 64 - 1) (plus a b)
sum_fits s t w n m l a b c d p f =
    omega (arith, field-most s (length s) w n 0 a c, field-most t (length t) w m 0 b d, mul_left_comm n 2 w, mul_left_comm m 2 w, p.0, p.1, p.2)
