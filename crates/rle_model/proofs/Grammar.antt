-- The definitions answer a list exactly where the grammar passes it, and one turn of each. Assumes nothing.
use Prim.Native.Nat.{ℕ, zero, suc, ◌+◌, ◌-◌, ◌*◌, ◌^◌, ◌≤◌, ◌<◌}
use native.Mathlib.Nat.{pow-succ', one-le-pow, eq-or-lt_of_le}
use native.Mathlib.Omega.{arith}
use mathlib.Core.Path.{◌≡◌, refl, sym, ap, ◌∙◌, subst}
use mathlib.Core.Bool.{true, false}
use mathlib.Core.Logic.{◌⊎◌, inl, inr, ⊎_elim, ◌↔◌}
use mathlib.Core.List.{List, [], ◌∷◌}
use lib.ListN.{length}
use lib.Dec.{eqb}
use borrow.Author.Tests.{le-leb, lt-leb, lt-ltb, le-ltb, eq-eqb, ne_eqb, eqb-true, eqb-false}
use Rattle.outcome.specs.Outcome.{ok, and_then, cons_res, listed_by}
use Rattle.outcome.specs.Lists.{Listed}
use Rattle.outcome.proofs.Laws.{ok-not-refuse, ok-injective, and_then-ok, cons_res-ok, le_or_lt}
use Rattle.outcome.proofs.Lists.{list_iff, list_step, read_all}
use Rattle.outcome.proofs.Lists as lists
use Rattle.grammar.specs.Bytes.{nibble, nibbles}
use Rattle.grammar.specs.Rows.{Code, IsCode, fills, paints, RowCodes, after_codes, align, FieldRows}
use Rattle.grammar.proofs.Unique.{nibbles-below}
use Rattle.rle_model.specs.Codes.{made, code_from, code_at, Standing, standing, row_done, row_code, row_next, row_at, row_read, field_at, field_read}

-- ---- The code at a place

pub nibble-lt : (u : List ℕ) (p : ℕ) → nibble u p < 16
unfolding nibble
nibble-lt u p = omega arith

module _ (u : List ℕ) (e p : ℕ) where
  nibbles-one : nibbles u p 1 < 4 * 4 ^ 1
  unfolding nibbles
  nibbles-one = omega (arith, nibble-lt u (p + 0))

  -- one law over the length: nibbles too small for a code of k are not too large for one of k + 1
  nibbles-more : (k : ℕ) → nibbles u p k < 4 ^ k → nibbles u p (suc k) < 4 * 4 ^ suc k
  unfolding nibbles
  nibbles-more k h = omega (arith, nibble-lt u (p + k), pow-succ' 4 k)

  made-sound : (k : ℕ) (c : Code) → 1 ≤ k → k ≤ 4 → p + k ≤ 2 * e → nibbles u p k < 4 * 4 ^ k → (k < 4 → 4 ^ k ≤ nibbles u p k)
      → ok (made u p k) ≡ ok c → (c.place ≡ p) × IsCode u e c
  made-sound k c o f i m l q =
      let q' : made u p k ≡ c = ok-injective q in (
        ap (λ (x : Code). x.place) (sym q'),
        subst (IsCode u e) q' (record { one = o; four = f; inside = i; number = refl; most = m; least = l }),
      )

  from-sound : (j k : ℕ) (c : Code) → j + k ≡ 4 → 1 ≤ k → nibbles u p k < 4 * 4 ^ k → code_from u e p j k ≡ ok c → (c.place ≡ p) × IsCode u e c
  unfolding code_from
  from-sound zero k c f o b q =
      ⊎_elim (λ h. made-sound k c o (omega arith) h b (λ l. absurd (omega arith)) (rw (le-leb _ _ h) at q))
      (λ h. ok-not-refuse (rw (lt-leb _ _ h) at q))
      (le_or_lt (p + k) (2 * e))
  from-sound (suc j) k c f o b q =
      ⊎_elim
      (λ h.
      ⊎_elim (λ g. made-sound k c o (omega arith) h b (λ l. g) (rw (le-leb _ _ h, le-leb _ _ g) at q))
      (λ g. from-sound j (suc k) c (omega arith) (omega arith) (nibbles-more k g) (rw (le-leb _ _ h, lt-leb _ _ g) at q))
      (le_or_lt (4 ^ k) (nibbles u p k)))
      (λ h. ok-not-refuse (rw (lt-leb _ _ h) at q))
      (le_or_lt (p + k) (2 * e))

  pub code-sound : (c : Code) → code_at u e p ≡ ok c → (c.place ≡ p) × IsCode u e c
  unfolding code_at
  code-sound c q = from-sound 3 1 c refl (omega arith) nibbles-one q

  from-complete : (j k K : ℕ) → j + k ≡ 4 → k ≤ K → K ≤ 4 → p + K ≤ 2 * e → nibbles u p K < 4 * 4 ^ K
      → (K < 4 → 4 ^ K ≤ nibbles u p K) → code_from u e p j k ≡ ok (made u p K)
  unfolding code_from
  from-complete zero k K f h m i b l =
      let q : k ≡ K = omega arith in
      let i' : p + k ≤ 2 * e = omega arith in
      rw (le-leb _ _ i') (ap (λ (x : ℕ). ok (made u p x)) q)
  from-complete (suc j) k K f h m i b l =
      let i' : p + k ≤ 2 * e = omega arith in
      ⊎_elim
      (λ q. let l' : 4 ^ k ≤ nibbles u p k = rw q (l (omega arith)) in
      rw (le-leb _ _ i', le-leb _ _ l') (ap (λ (x : ℕ). ok (made u p x)) q))
      (λ h'.
      rw (le-leb _ _ i', lt-leb _ _ (nibbles-below u p K k h' b))
      (from-complete j (suc k) K (omega arith) h' m i b l))
      (eq-or-lt_of_le h)

pub code-complete : (u : List ℕ) (e : ℕ) (c : Code) → IsCode u e c → code_at u e c.place ≡ ok c
unfolding code_at
code-complete u e c h =
    from-complete u e c.place 3 1 c.size refl h.one h.four h.inside (rw (← h.number) h.most)
    (λ l. rw (← h.number) (h.least l))
    ∙ (λ i. ok (record { place = c.place; size = c.size; value = sym h.number i }))

-- ---- What a code paints: some pixel, and never more than are left

four_le_pow : (k : ℕ) → 1 ≤ k → 4 ≤ 4 ^ k
four_le_pow zero h = absurd (omega arith)
four_le_pow (suc k) h = omega (arith, pow-succ' 4 k, one-le-pow k 4 (omega arith))

-- a code fills, or its number is 4 at least
pub code-kind : (u : List ℕ) (e : ℕ) (c : Code) → IsCode u e c → (fills c ≡ true) ⊎ ((fills c ≡ false) × (4 ≤ c.value))
code-kind u e c g =
    ⊎_elim
    (λ q.
    ⊎_elim (λ h. inr (rw (eq-eqb c.size 4 q, le-ltb c.value 256 h), omega arith))
    (λ h. inl (rw (eq-eqb c.size 4 q, lt-ltb c.value 256 h)))
    (le_or_lt 256 c.value))
    (λ f. inr (rw (ne_eqb c.size 4 (omega arith)), omega (arith, four_le_pow c.size g.one, g.least f)))
    (eq-or-lt_of_le g.four)

pub paints-pos : (u : List ℕ) (e left : ℕ) (c : Code) → IsCode u e c → 0 < left → 0 < paints left c
unfolding paints
paints-pos u e left c g l = ⊎_elim (λ q. rw q l) (λ q. rw q.0 (omega (arith, q.1))) (code-kind u e c g)

-- ---- Rows

-- a test for 0, both ways
zero-eqb : (n : ℕ) → (eqb n 0 ≡ true) ↔ (n ≡ 0)
zero-eqb n = (λ q. eqb-true n 0 q, λ q. eq-eqb n 0 q)

pos-eqb : (n : ℕ) → (eqb n 0 ≡ false) ↔ (0 < n)
pos-eqb n = (λ q. let f = eqb-false n 0 q in go n f, λ h. ne_eqb n 0 (omega arith))
  where
    go : (m : ℕ) → (m ≡ 0 → ⊥) → 0 < m
    go zero f = absurd (f refl)
    go (suc m) f = omega arith

module _ (u : List ℕ) (e : ℕ) where
  pub row-falls : (q : Standing) (c : Code) → row_done q ≡ false → row_code u e q ≡ ok c → (row_next q c).left < q.left
  row-falls q c d i =
      let l : 0 < q.left = (pos-eqb q.left).0 d in
      omega (arith, paints-pos u e q.left c (code-sound u e q.place c i).1 l)

  listed-row : (left p : ℕ) (cs : List Code) → Listed row_done (row_code u e) row_next (standing left p) cs → RowCodes u e left p cs
  unfolding Listed RowCodes
  listed-row left p [] h = (zero-eqb left).0 h
  listed-row left p (c ∷ cs) h =
      let g = code-sound u e p c h.1 in
      ((pos-eqb left).0 h.0, g.0, g.1, listed-row (left - paints left c) (p + c.size) cs h.2)

  row_listed : (left p : ℕ) (cs : List Code) → RowCodes u e left p cs → Listed row_done (row_code u e) row_next (standing left p) cs
  unfolding Listed RowCodes
  row_listed left p [] h = (zero-eqb left).1 h
  row_listed left p (c ∷ cs) h =
      let i : code_at u e p ≡ ok c = rw (← h.1) (code-complete u e c h.2) in
      ((pos-eqb left).1 h.0, i, row_listed (left - paints left c) (p + c.size) cs h.3)

  -- a row's codes are found exactly where the grammar passes them
  pub row-iff : (left p : ℕ) (cs : List Code) → (row_at u e left p ≡ ok cs) ↔ RowCodes u e left p cs
  unfolding row_at
  row-iff left p cs =
      let i = list_iff row_done (row_code u e) row_next (λ q. q.left) row-falls (standing left p) cs in
      (λ q. listed-row left p cs (i.0 q), λ h. i.1 (row_listed left p cs h))

  -- one turn of a row
  pub row_step : (left p : ℕ) → 0 < left
      → row_at u e left p ≡ and_then (code_at u e p) (λ c. cons_res c (row_at u e (left - paints left c) (p + c.size)))
  unfolding row_at
  row_step left p h =
      list_step row_done (row_code u e) row_next (λ q. q.left) row-falls (standing left p) ∙ rw ((pos-eqb left).1 h)

  pub row-none : (p : ℕ) → row_at u e 0 p ≡ ok []
  unfolding RowCodes
  row-none p = (row-iff 0 p []).1 refl

  -- what is read of a row: one turn, and all of it where the row is there
  pub read_step : (left p : ℕ) → 0 < left → row_read u e left p ≡ listed_by (code_at u e p) (λ c. c ∷ row_read u e (left - paints left c) (p + c.size))
  unfolding row_read
  read_step left p h =
      lists.read_step row_done (row_code u e) row_next (λ q. q.left) row-falls (standing left p) ∙ rw ((pos-eqb left).1 h)

  pub read-row : (left p : ℕ) (cs : List Code) → row_at u e left p ≡ ok cs → row_read u e left p ≡ cs
  unfolding row_read
  read-row left p cs q =
      read_all row_done (row_code u e) row_next (λ q. q.left) row-falls (standing left p) cs (row_listed left p cs ((row-iff left p cs).0 q))

-- ---- Fields

module _ (u : List ℕ) (e w : ℕ) where
  field-sound : (n p : ℕ) (rs : List (List Code)) → field_at u e w n p ≡ ok rs → (length rs ≡ n) × FieldRows u e w p rs
  unfolding field_at FieldRows
  field-sound zero p rs q = let z : [] ≡ rs = ok-injective q in subst (λ (l : List (List Code)). (length l ≡ 0) × FieldRows u e w p l) z (refl, tt)
  field-sound (suc n) p rs q =
      let x = and_then-ok (row_at u e w p) (λ r. cons_res r (field_at u e w n (align (after_codes p r)))) q in
      let y = cons_res-ok x.0 (field_at u e w n (align (after_codes p x.0))) x.2 in
      let z = field-sound n (align (after_codes p x.0)) y.0 y.1 in
      subst (λ (l : List (List Code)). (length l ≡ suc n) × FieldRows u e w p l) y.2
      (ap suc z.0, ((row-iff u e w p x.0).0 x.1, z.1))

  field-complete : (n p : ℕ) (rs : List (List Code)) → length rs ≡ n → FieldRows u e w p rs → field_at u e w n p ≡ ok rs
  unfolding field_at FieldRows
  field-complete zero p [] l h = refl
  field-complete zero p (r ∷ rs) l h = absurd (omega (arith, l))
  field-complete (suc n) p [] l h = absurd (omega (arith, l))
  field-complete (suc n) p (r ∷ rs) l h =
      rw ((row-iff u e w p r).1 h.0) (ap (cons_res r) (field-complete n (align (after_codes p r)) rs (omega (arith, l)) h.1))

  -- n rows are found exactly where the grammar passes them
  pub field-iff : (n p : ℕ) (rs : List (List Code)) → (field_at u e w n p ≡ ok rs) ↔ ((length rs ≡ n) × FieldRows u e w p rs)
  field-iff n p rs = (field-sound n p rs, λ h. field-complete n p rs h.0 h.1)

  -- of a field whose rows are there all are read
  pub read-field : (n p : ℕ) (rs : List (List Code)) → field_at u e w n p ≡ ok rs → field_read u e w n p ≡ rs
  unfolding field_at field_read
  read-field zero p rs q = ok-injective q
  read-field (suc n) p rs q =
      let x = and_then-ok (row_at u e w p) (λ r. cons_res r (field_at u e w n (align (after_codes p r)))) q in
      let y = cons_res-ok x.0 (field_at u e w n (align (after_codes p x.0))) x.2 in
      (λ i. read-row u e w p x.0 x.1 i ∷ listed_by (x.1 i) (λ r. field_read u e w n (align (after_codes p r))))
      ∙ ap (λ (l : List (List Code)). x.0 ∷ l) (read-field n (align (after_codes p x.0)) y.0 y.1) ∙ y.2
