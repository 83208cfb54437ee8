-- A unit is read exactly where the grammar lists its parts, so that no unit has two readings. Assumes nothing.
use Prim.Native.Nat.{ℕ, zero, suc, ◌+◌, ◌*◌, ◌/◌, ◌≤◌, ◌<◌}
use native.Mathlib.Omega.{arith}
use mathlib.Core.Path.{◌≡◌, refl, sym, ap, ◌∙◌, subst}
use mathlib.Core.Bool.{Bool, true, false, cond, ◌&&◌}
use mathlib.Core.Logic.{◌⊎◌, inl, inr, ⊎_elim, ◌↔◌}
use mathlib.Core.List.{List, [], ◌∷◌}
use lib.ListN.{length, replicate, length-replicate}
use lib.Dec.{leb, ltb}
use borrow.Author.Tests.{leb-true, le-leb, lt-ltb, le-ltb}
use Rattle.outcome.specs.Outcome.{ok, check, map_res, no_area, no_top_field}
use Rattle.outcome.proofs.Laws.{ok-injective, and-true, check-ok, and_then-ok, map_res-ok, le_or_lt}
use Rattle.grammar.specs.Rows.{Code, RowCodes, FieldRows}
use Rattle.grammar.specs.Control.{Block, length_word, control_word}
use Rattle.grammar.specs.Record.{Told, told, width, height}
use Rattle.grammar.specs.Picture.{evens, odds, top_end, Stay0, Bottom, IsPicture, ListedUnit, IsUnit}
use Rattle.control_model.specs.Few.{few_at}
use Rattle.control_model.proofs.Few.{few_iff}
use Rattle.control_model.specs.Chain.{has_area, chain_at, control_at}
use Rattle.control_model.proofs.Grammar.{chain_iff}
use Rattle.rle_model.specs.Codes.{field_at}
use Rattle.rle_model.specs.Field.{rows_from}
use Rattle.rle_model.specs.Fields.{weave, lower_at, fields_at}
use Rattle.rle_model.proofs.Grammar.{field-iff}
use Rattle.rle_model.proofs.Both.{fields-woven}
use Rattle.spu_model.specs.Unit.{has_bottom, rows_at, listed_unit, unit_at}
use Rattle.spu_model.proofs.Loops.{end_most}

-- ---- Rows in turn

module _ {A : Type 0} where
  -- as many of the first, or one more
  abbrev pub Paired : List A → List A → Type 0
  Paired a b = (length b ≤ length a) × (length a ≤ length b + 1)

  pub weave-length : (a b : List A) → Paired a b → length (weave a b) ≡ length a + length b
  unfolding weave
  weave-length [] b h = let l = h.0 in omega arith
  weave-length (x ∷ a) [] h = let l = h.1 in omega arith
  weave-length (x ∷ a) (y ∷ b) h = let i = weave-length a b (let l = h.0 in omega arith, let l = h.1 in omega arith) in omega arith

  pub weave-evens : (a b : List A) → Paired a b → evens (weave a b) ≡ a
  unfolding weave evens
  weave-evens [] b h = refl
  weave-evens (x ∷ []) [] h = refl
  weave-evens (x ∷ z ∷ a) [] h = absurd (let l = h.1 in omega arith)
  weave-evens (x ∷ a) (y ∷ b) h = ap (λ (l : List A). x ∷ l) (weave-evens a b (let l = h.0 in omega arith, let l = h.1 in omega arith))

  pub weave-odds : (a b : List A) → Paired a b → odds (weave a b) ≡ b
  unfolding weave evens
  weave-odds [] [] h = refl
  weave-odds [] (y ∷ b) h = absurd (let l = h.0 in omega arith)
  weave-odds (x ∷ a) [] h = refl
  weave-odds (x ∷ []) (y ∷ []) h = refl
  weave-odds (x ∷ []) (y ∷ z ∷ b) h = absurd (let l = h.0 in omega arith)
  weave-odds (x ∷ w ∷ a) (y ∷ []) h = rest a h
    where
      rest : (a : List A) → Paired (x ∷ w ∷ a) (y ∷ []) → odds (weave (x ∷ w ∷ a) (y ∷ [])) ≡ y ∷ []
      rest [] h = refl
      rest (z ∷ a) h = absurd (let l = h.1 in omega arith)
  weave-odds (x ∷ w ∷ a) (y ∷ z ∷ b) h = ap (λ (l : List A). y ∷ l) (weave-odds (w ∷ a) (z ∷ b) (let l = h.0 in omega arith, let l = h.1 in omega arith))

  pub weave-whole : (rs : List A) → weave (evens rs) (odds rs) ≡ rs
  unfolding weave evens
  weave-whole [] = refl
  weave-whole (x ∷ []) = refl
  weave-whole (x ∷ y ∷ []) = refl
  weave-whole (x ∷ y ∷ z ∷ rs) = ap (λ (l : List A). x ∷ y ∷ l) (weave-whole (z ∷ rs))

  pub evens-length : (rs : List A) → length (evens rs) ≡ (length rs + 1) / 2
  unfolding evens
  evens-length [] = refl
  evens-length (x ∷ []) = refl
  evens-length (x ∷ y ∷ rs) = let i = evens-length rs in omega arith

  pub odds-length : (rs : List A) → length (odds rs) ≡ length rs / 2
  unfolding evens
  odds-length [] = refl
  odds-length (x ∷ rs) = let i = evens-length rs in omega arith

-- ---- The bottom field

stay-blank : (n : ℕ) → Stay0 (replicate n [])
unfolding Stay0
stay-blank zero = tt
stay-blank (suc n) = (refl, stay-blank n)

blank-stays : (rs : List (List Code)) → Stay0 rs → rs ≡ replicate (length rs) []
unfolding Stay0
blank-stays [] h = refl
blank-stays (r ∷ rs) h = λ i. h.0 i ∷ blank-stays rs h.1 i

module _ (u : List ℕ) (C b w n : ℕ) where
  lower_sound : (y : List (List Code)) → lower_at u b C (has_bottom C b) w n ≡ ok y → (length y ≡ n) × Bottom u C b w y
  unfolding lower_at
  lower_sound y e = ⊎_elim (λ (h : b ≤ 0). none (inl (omega arith)) (rw (le-ltb 0 b h) at e)) (λ (h : 0 < b). ⊎_elim (λ (k : C ≤ b). none (inr k) (rw (lt-ltb 0 b h, le-ltb b C k) at e)) (λ (k : b < C). some h k (rw (lt-ltb 0 b h, lt-ltb b C k) at e)) (le_or_lt C b)) (le_or_lt b 0)
    where
      none : (b ≡ 0) ⊎ (C ≤ b) → ok (replicate n []) ≡ ok y → (length y ≡ n) × Bottom u C b w y
      none o q =
          let z : replicate n [] ≡ y = ok-injective q in
          subst (λ (l : List (List Code)). (length l ≡ n) × Bottom u C b w l) z (length-replicate n [], inr (o, stay-blank n))

      some : 0 < b → b < C → field_at u C w n (2 * b) ≡ ok y → (length y ≡ n) × Bottom u C b w y
      some h k q = let f = (field-iff u C w n (2 * b) y).0 q in (f.0, inl (h, k, f.1))

  lower-complete : (y : List (List Code)) → length y ≡ n → Bottom u C b w y → lower_at u b C (has_bottom C b) w n ≡ ok y
  unfolding lower_at
  lower-complete y l (inl h) = rw (lt-ltb 0 b h.0, lt-ltb b C h.1) ((field-iff u C w n (2 * b) y).1 (l, h.2))
  lower-complete y l (inr h) = ap (λ (s : Bool). cond s (field_at u C w n (2 * b)) (ok (replicate n []))) (off h.0) ∙ ap ok (ap (λ (k : ℕ). replicate k []) (sym l) ∙ sym (blank-stays y h.1))
    where
      off : (b ≡ 0) ⊎ (C ≤ b) → has_bottom C b ≡ false
      off (inl e) = let z : b ≤ 0 = omega arith in rw (le-ltb 0 b z)
      off (inr e) = rw (le-ltb b C e) (none (ltb 0 b))
        where
          none : (x : Bool) → (x && false) ≡ false
          none true = refl
          none false = refl

-- ---- The picture

rows-halves : (h : ℕ) → (rows_from 0 h ≡ (h + 1) / 2) × (rows_from 1 h ≡ h / 2)
unfolding rows_from
rows-halves h = (omega arith, omega arith)

-- the first row of a field has a code, so the field starts before its end
starts-before : (u : List ℕ) (e w p : ℕ) (rs : List (List Code)) → 0 < w → 0 < length rs → FieldRows u e w (2 * p) rs → p < e
unfolding FieldRows RowCodes
starts-before u e w p [] h k x = absurd (omega arith)
starts-before u e w p ([] ∷ rs) h k x = let z = x.0 in absurd (omega arith)
starts-before u e w p ((c ∷ cs) ∷ rs) h k x =
    let i = x.0.2.inside in
    let o = x.0.2.one in
    let q = x.0.1 in
    omega arith

module _ (u : List ℕ) (t : Told) (wide : t.at.x1 ≤ t.at.x2) (high : t.at.y1 ≤ t.at.y2) where
  picture_sound : (rs : List (List Code)) → rows_at u t ≡ ok rs → IsPicture u t rs
  unfolding rows_at
  picture_sound rs e =
      let a = check-ok (ltb t.fields.top (length_word u)) no_top_field _ e in
      let v = fields-woven u t.fields.top (top_end (control_word u) t.fields) t.fields.bottom (control_word u) (has_bottom (control_word u) t.fields.bottom) (width t) (height t) rs a.1 in
      let x = v.0 in
      let y = v.1 in
      let f = (field-iff u (top_end (control_word u) t.fields) (width t) (rows_from 0 (height t)) (2 * t.fields.top) x).0 v.2 in
      let g = lower_sound u (control_word u) t.fields.bottom (width t) (rows_from 1 (height t)) y v.3 in
      let m = rows-halves (height t) in
      let m0 = m.0 in
      let m1 = m.1 in
      let f0 = f.0 in
      let g0 = g.0 in
      let p : Paired x y = (omega arith, omega arith) in
      let l = weave-length x y p in
      subst (IsPicture u t) v.4
      (record {
        wide = wide;
        high = high;
        all = omega arith;
        top = rw (weave-evens x y p) f.1;
        bottom = rw (weave-odds x y p) g.1;
      })

  picture-complete : control_word u ≤ length_word u → (rs : List (List Code)) → IsPicture u t rs → rows_at u t ≡ ok rs
  unfolding rows_at fields_at
  picture-complete order rs h =
      let m = rows-halves (height t) in
      let m0 = m.0 in
      let m1 = m.1 in
      let n = h.all in
      let a = evens-length rs in
      let b = odds-length rs in
      let la : length (evens rs) ≡ rows_from 0 (height t) = omega arith in
      let lb : length (odds rs) ≡ rows_from 1 (height t) = omega arith in
      let s = starts-before u (top_end (control_word u) t.fields) (width t) t.fields.top (evens rs) (omega arith) (omega arith) h.top in
      let i = end_most (control_word u) t.fields in
      let k : t.fields.top < length_word u = omega arith in
      rw (
        lt-ltb t.fields.top (length_word u) k,
        (field-iff u (top_end (control_word u) t.fields) (width t) (rows_from 0 (height t)) (2 * t.fields.top) (evens rs)).1 (la, h.top),
        lower-complete u (control_word u) t.fields.bottom (width t) (rows_from 1 (height t)) (odds rs) lb h.bottom,
      )
      (ap ok (weave-whole rs))

-- ---- The unit

pub unit-iff : (u : List ℕ) (l : ListedUnit) → (unit_at u ≡ ok l) ↔ IsUnit u l
unfolding unit_at control_at
unit-iff u l = (to, from)
  where
    to : unit_at u ≡ ok l → IsUnit u l
    to e =
        let a = and_then-ok (few_at u) (λ (bs : List Block). map_res (listed_unit bs) (rows_at u (told bs))) e in
        let f = (few_iff u a.0).0 a.1 in
        let b = and_then-ok (chain_at u) (λ (bs : List Block). check (has_area (told bs)) no_area (ok bs)) f.0 in
        let c = check-ok (has_area (told b.0)) no_area (ok b.0) b.2 in
        let q : b.0 ≡ a.0 = ok-injective c.1 in
        let w = map_res-ok (listed_unit a.0) (rows_at u (told a.0)) a.2 in
        let t = told a.0 in
        let d = and-true (leb t.at.x1 t.at.x2) (leb t.at.y1 t.at.y2) (subst (λ (bs : List Block). has_area (told bs) ≡ true) q c.0) in
        subst (IsUnit u) w.2
        (record {
          chain = (chain_iff u a.0).0 (b.1 ∙ ap ok q);
          few = f.1;
          picture = picture_sound u t (leb-true _ _ d.0) (leb-true _ _ d.1) w.0 w.1;
        })

    from : IsUnit u l → unit_at u ≡ ok l
    from h =
        let p = h.picture in
        let t = told l.blocks in
        let c : control_at u ≡ ok l.blocks =
        rw ((chain_iff u l.blocks).1 h.chain, le-leb t.at.x1 t.at.x2 p.wide, le-leb t.at.y1 t.at.y2 p.high) in
        rw ((few_iff u l.blocks).1 (c, h.few), picture-complete u t p.wide p.high h.chain.order l.rows p)

pub unit-unique : (u : List ℕ) (a b : ListedUnit) → IsUnit u a → IsUnit u b → a ≡ b
unit-unique u a b x y = ok-injective (sym ((unit-iff u a).1 x) ∙ (unit-iff u b).1 y)
