-- No two lists pass: a place has one code, a row one list of codes, a field one list of rows of each length, and bytes one list of bands.
-- Assumes nothing.
use Prim.Native.Nat.{ℕ, zero, suc, ◌+◌, ◌-◌, ◌*◌, ◌/◌, ◌%◌, ◌^◌, ◌≤◌, ◌<◌}
use native.Mathlib.Nat.{pow-succ', eq-or-lt_of_le, le_of_suc-le-suc}
use native.Mathlib.Omega.{arith, by_contra}
use mathlib.Core.Path.{◌≡◌, refl, sym, ◌∙◌, subst}
use mathlib.Core.Logic.{◌⊎◌, ⊎_elim}
use mathlib.Core.List.{List, [], ◌∷◌}
use lib.ListN.{length}
use Rattle.grammar.specs.Bytes.{word, nibbles}
use Rattle.grammar.specs.Bands.{Entry, Band, Entries, EndMark, IsBand, band_end, Bands}
use Rattle.grammar.specs.Rows.{Code, IsCode, paints, RowCodes, after_codes, align, FieldRows}

module _ (s : List ℕ) (p : ℕ) where
  nibbles-less : (k : ℕ) → nibbles s p (suc k) < 4 * 4 ^ suc k → nibbles s p k < 4 ^ k
  unfolding nibbles
  nibbles-less k h = omega (arith, pow-succ' 4 k)

  -- one law over the length: below a code's length, the number is too small for a code
  pub nibbles-below : (K k : ℕ) → k < K → nibbles s p K < 4 * 4 ^ K → nibbles s p k < 4 ^ k
  nibbles-below zero k h b = absurd (omega arith)
  nibbles-below (suc K) k h b =
      let l : nibbles s p K < 4 ^ K = nibbles-less K b in
      ⊎_elim (λ e. rw e l) (λ h'. nibbles-below K k h' (omega arith)) (eq-or-lt_of_le (le_of_suc-le-suc h))

-- of two codes at one place, the second is not the longer
not-longer : (u : List ℕ) (e : ℕ) (c d : Code) → IsCode u e c → IsCode u e d → d.place ≡ c.place → d.size ≤ c.size
not-longer u e c d i j q =
    by_contra d.size c.size
    (λ h.
    let n : d.value ≡ nibbles u c.place d.size = rw (← q) j.number in
    omega (arith, nibbles-below u c.place d.size c.size h (rw (← n) j.most), i.least (omega (arith, j.four)), i.number))

pub code-unique : (u : List ℕ) (e : ℕ) (c d : Code) → IsCode u e c → IsCode u e d → c.place ≡ d.place → c ≡ d
code-unique u e c d i j q =
    let z : c.size ≡ d.size = omega (arith, not-longer u e c d i j (sym q), not-longer u e d c j i q) in
    let v : c.value ≡ d.value = i.number ∙ (λ t. nibbles u (q t) (z t)) ∙ sym j.number in
    λ t. record { place = q t; size = z t; value = v t }

pub row-unique : (u : List ℕ) (e left p : ℕ) (a b : List Code) → RowCodes u e left p a → RowCodes u e left p b → a ≡ b
unfolding RowCodes
row-unique u e left p [] [] x y = refl
row-unique u e left p [] (d ∷ b) x y = absurd (omega (arith, x, y.0))
row-unique u e left p (c ∷ a) [] x y = absurd (omega (arith, y, x.0))
row-unique u e left p (c ∷ a) (d ∷ b) x y =
    let q : d ≡ c = code-unique u e d c y.2 x.2 (y.1 ∙ sym x.1) in
    let y' : RowCodes u e (left - paints left c) (p + c.size) b = subst (λ (k : Code). RowCodes u e (left - paints left k) (p + k.size) b) q y.3 in
    let r : a ≡ b = row-unique u e (left - paints left c) (p + c.size) a b x.3 y' in
    λ t. sym q t ∷ r t

pub field-unique : (u : List ℕ) (e w p : ℕ) (a b : List (List Code)) → length a ≡ length b → FieldRows u e w p a → FieldRows u e w p b → a ≡ b
unfolding FieldRows
field-unique u e w p [] [] n x y = refl
field-unique u e w p [] (d ∷ b) n x y = absurd (omega (arith, n))
field-unique u e w p (c ∷ a) [] n x y = absurd (omega (arith, n))
field-unique u e w p (c ∷ a) (d ∷ b) n x y =
    let q : d ≡ c = row-unique u e w p d c y.0 x.0 in
    let y' : FieldRows u e w (align (after_codes p c)) b = subst (λ (r : List Code). FieldRows u e w (align (after_codes p r)) b) q y.1 in
    let r : a ≡ b = field-unique u e w (align (after_codes p c)) a b (omega (arith, n)) x.1 y' in
    λ t. sym q t ∷ r t

-- ---- Bands

entries-unique : (u : List ℕ) (e p least : ℕ) (a b : List Entry) → length a ≡ length b → Entries u e p least a → Entries u e p least b → a ≡ b
unfolding Entries
entries-unique u e p least [] [] n x y = refl
entries-unique u e p least [] (d ∷ b) n x y = absurd (omega (arith, n))
entries-unique u e p least (c ∷ a) [] n x y = absurd (omega (arith, n))
entries-unique u e p least (c ∷ a) (d ∷ b) n x y =
    let q : d.place ≡ c.place = y.0 ∙ sym x.0 in
    let k : d.column ≡ c.column = y.1.column_is ∙ (λ t. word u (q t)) ∙ sym x.1.column_is in
    let s : d.selectors ≡ c.selectors = y.1.selectors_are ∙ (λ t. word u (q t + 2)) ∙ sym x.1.selectors_are in
    let l : d.alphas ≡ c.alphas = y.1.alphas_are ∙ (λ t. word u (q t + 4)) ∙ sym x.1.alphas_are in
    let y' : Entries u e (p + 6) (suc c.column) b = subst (λ (k : ℕ). Entries u e (p + 6) (suc k) b) k y.2 in
    let r : a ≡ b = entries-unique u e (p + 6) (suc c.column) a b (omega (arith, n)) x.2 y' in
    λ t. record { place = sym q t; column = sym k t; selectors = sym s t; alphas = sym l t } ∷ r t

band-unique : (u : List ℕ) (e : ℕ) (a b : Band) → IsBand u e a → IsBand u e b → a.place ≡ b.place → a ≡ b
band-unique u e a b x y q =
    let f : a.first ≡ b.first = x.first_is ∙ (λ t. word u (q t)) ∙ sym y.first_is in
    let l : a.last ≡ b.last = x.last_is ∙ (λ t. word u (q t + 2) % 4096) ∙ sym y.last_is in
    let n : a.count ≡ b.count = x.count_is ∙ (λ t. word u (q t + 2) / 4096) ∙ sym y.count_is in
    let z : Entries u e (a.place + 4) 0 b.entries = rw q y.list in
    let es = entries-unique u e (a.place + 4) 0 a.entries b.entries (x.all ∙ n ∙ sym y.all) x.list z in
    λ t. record { place = q t; first = f t; last = l t; count = n t; entries = es t }

-- where the bands end, none starts
not_end : (u : List ℕ) (e p : ℕ) (b : Band) → b.place ≡ p → IsBand u e b → (p ≡ e) ⊎ EndMark u e p → ⊥
not_end u e p b q i m =
    ⊎_elim (λ f. omega (arith, i.within)) (λ f. i.no_mark (subst (EndMark u e) (sym q) f)) m

pub bands-unique : (u : List ℕ) (e p : ℕ) (a b : List Band) → Bands u e p a → Bands u e p b → a ≡ b
unfolding Bands
bands-unique u e p [] [] x y = refl
bands-unique u e p [] (d ∷ b) x y = absurd (not_end u e p d y.0 y.1 x)
bands-unique u e p (c ∷ a) [] x y = absurd (not_end u e p c x.0 x.1 y)
bands-unique u e p (c ∷ a) (d ∷ b) x y =
    let q : d ≡ c = band-unique u e d c y.1 x.1 (y.0 ∙ sym x.0) in
    let y' : Bands u e (band_end c) b = subst (λ (k : Band). Bands u e (band_end k) b) q y.2 in
    let r : a ≡ b = bands-unique u e (band_end c) a b x.2 y' in
    λ t. sym q t ∷ r t
