-- One turn of each loop, over plain variables, and what each answer says of the definitions. Assumes nothing.
use Prim.Native.Nat.{ℕ, zero, suc, zero-le, ◌+◌, ◌-◌, ◌*◌, ◌/◌, ◌%◌, ◌≤◌, ◌<◌, ◌^◌}
use native.Mathlib.Nat.{suc-mul, zero-mul, mul_comm, mul-le-mul_right, le-mul_of_pos_right, lt_of_le_of_lt, add-mul, mul_assoc, le-div_iff_mul-le}
use native.Mathlib.Omega.{arith, not-le}
use mathlib.Core.Path.{◌≡◌, refl, sym, ap, ◌∙◌, subst}
use mathlib.Core.Bool.{Bool, true, false, cond}
use mathlib.Core.Logic.{⊎_elim, ◌↔◌}
use mathlib.Core.List.{List, [], ◌∷◌}
use lib.ListN.{length, replicate, length-replicate}
use lib.Seq.{sets}
use lib.Dec.{leb}
use borrow.Author.Tests.{le-leb, lt-leb}
use Rattle.outcome.proofs.Laws.{ok-injective, le_or_lt, sets-append}
use Rattle.outcome.specs.Outcome.{Res, ok, refuse, and_then, cons_res, listed, IsOk, short_pixels}
use Rattle.grammar.specs.Rows.{Code, code, paints, overshoots, RowCodes, after_codes, align}
use Rattle.grammar.specs.Pixels.{row_pixels}
use Rattle.rle_model.specs.Nibbles.{on_byte}
use Rattle.rle_model.proofs.Nibbles.{on_byte_lem}
use Rattle.rle_model.specs.Codes.{code_at, row_at, field_at}
use Rattle.rle_model.specs.Field.{rows_from, paint_field, decoded}
use Rattle.rle_model.specs.Kept.{kept_row, kept_all}
use Rattle.rle_model.specs.Answers.{nothing, plus, counted, last_counts, AtMost, row_counts, field_counts, row_answer, field_answer, plus_field, RowsDecoded, Decoded}
use Rattle.rle_model.specs.declared.Counts.{Counts}
use Rattle.rle_model.proofs.Grammar.{row-iff, row_step, row-none}
use Rattle.grammar.proofs.Clipped.{clipped-paints}
use Rattle.rle_model.proofs.CodeLoops.{Coded}

-- ---- Counts: the laws of their sum

-- two are the same where each number is
pub counts_eq : (a b : Counts) → a.codes ≡ b.codes → a.clipped ≡ b.clipped → a ≡ b
counts_eq a b p q = λ i. record { codes = p i; clipped = q i }

pub plus_assoc : (a b c : Counts) → plus (plus a b) c ≡ plus a (plus b c)
plus_assoc a b c = counts_eq (plus (plus a b) c) (plus a (plus b c)) (omega arith) (omega arith)

pub plus-nothing : (a : Counts) → plus a nothing ≡ a
plus-nothing a = counts_eq (plus a nothing) a (omega arith) (omega arith)

pub nothing-plus : (a : Counts) → plus nothing a ≡ a
nothing-plus a = counts_eq (plus nothing a) a (omega arith) (omega arith)

pub at-most_le : (m n : ℕ) (a : Counts) → m ≤ n → AtMost m a → AtMost n a
at-most_le m n a h l = (omega (arith, l.0), omega (arith, l.1))

pub at-most-plus : (m n : ℕ) (a b : Counts) → AtMost m a → AtMost n b → AtMost (m + n) (plus a b)
at-most-plus m n a b h l = (omega (arith, h.0, l.0), omega (arith, h.1, l.1))

pub at-most-align : (m : ℕ) (a : Counts) → AtMost m a → AtMost (align m) a
unfolding align
at-most-align m a l = at-most_le m (m + m % 2) a (omega arith) l

-- a code counts one at most
pub at_most_one : (left : ℕ) (c : Code) → AtMost 1 (counted left c)
at_most_one left c = (omega arith, go (overshoots left c))
  where
    go : (b : Bool) → cond b 1 0 ≤ 1
    go true = omega arith
    go false = omega arith

pub at-most-counted : (p k left : ℕ) (c : Code) (a : Counts) → 1 ≤ k → AtMost p a → AtMost (p + k) (plus a (counted left c))
at-most-counted p k left c a h l =
    at-most_le (p + 1) (p + k) (plus a (counted left c)) (omega arith)
    (at-most-plus p 1 a (counted left c) l (at_most_one left c))

-- ---- Rows

-- the counts a, and then the row's
abbrev pub plus_row : Counts → Res Counts → Res Counts
plus_row a (ok b) = ok (plus a b)
plus_row a (refuse n) = refuse n

pub row-whole : (r : Res Counts) → plus_row nothing r ≡ r
row-whole (ok b) = ap ok (nothing-plus b)
row-whole (refuse n) = refl

-- a code after n of which the last is clipped only where nothing is left
pub last_more : (n : ℕ) (t f : Bool) (left : ℕ) (c : Code) → (t ≡ true → left ≡ 0) → 0 < left → f ≡ overshoots left c
    → last_counts (n + 1) f ≡ plus (last_counts n t) (counted left c)
last_more n true f left c h l q = absurd (omega (arith, h refl))
last_more n false f left c h l q =
    counts_eq (last_counts (n + 1) f) (plus (last_counts n false) (counted left c)) refl (rw q (omega arith))

-- after a clipped code nothing is left
pub last-over : (left p k v m : ℕ) (f : Bool) → f ≡ overshoots left (code p k v) → m ≡ paints left (code p k v)
    → f ≡ true → left - m ≡ 0
last-over left p k v m f q e t = omega (arith, clipped-paints left (code p k v) (sym q ∙ t))

module _ (u : List ℕ) (e left p : ℕ) (h : 0 < left) where
  pub row-turn : (k v m : ℕ) (x : ℕ) → Coded u e p k v x → m ≡ paints left (code p k v)
      → row_at u e left p ≡ cons_res (code p k v) (row_at u e (left - m) x)
  row-turn k v m x g q = rw (g.goes, q, row_step u e left p h, g.here)

  pub row_more : (a b : Counts) (k v m : ℕ) (x : ℕ) → Coded u e p k v x → m ≡ paints left (code p k v) → b ≡ plus a (counted left (code p k v))
      → plus_row b (row_answer (left - m) (row_at u e (left - m) x)) ≡ plus_row a (row_answer left (row_at u e left p))
  unfolding after_codes row_counts
  row_more a b k v m x g q f = rw (row-turn k v m x g q, g.goes, f, q) (go (row_at u e (left - paints left (code p k v)) (p + k)))
    where
      go : (o : Res (List Code))
          → plus_row (plus a (counted left (code p k v))) (row_answer (left - paints left (code p k v)) o)
          ≡ plus_row a (row_answer left (cons_res (code p k v) o))
      go (refuse n) = refl
      go (ok cs) =
          ap ok
          (plus_assoc a (counted left (code p k v)) (row_counts (left - paints left (code p k v)) cs))

  pub row-short : (n : ℕ) → code_at u e p ≡ refuse n → row_at u e left p ≡ refuse n
  row-short n q = rw (row_step u e left p h, q)

  -- a turn of the painting
  pub ok-more : (k v m : ℕ) (x : ℕ) → Coded u e p k v x → m ≡ paints left (code p k v) → IsOk (row_at u e left p)
      → IsOk (row_at u e (left - m) x)
  ok-more k v m x g q i = go (row_at u e (left - m) x) (rw (row-turn k v m x g q) at i)
    where
      go : (o : Res (List Code)) → IsOk (cons_res (code p k v) o) → IsOk o
      go (refuse n) f = f
      go (ok cs) f = f

  pub after_more : (k v m : ℕ) (x : ℕ) → Coded u e p k v x → m ≡ paints left (code p k v) → IsOk (row_at u e left p)
      → after_codes x (listed (row_at u e (left - m) x)) ≡ after_codes p (listed (row_at u e left p))
  unfolding after_codes
  after_more k v m x g q i = rw (row-turn k v m x g q, g.goes) (go (row_at u e (left - m) (p + k)) (rw (row-turn k v m x g q, g.goes) at i))
    where
      go : (o : Res (List Code)) → IsOk (cons_res (code p k v) o) → after_codes (p + k) (listed o) ≡ after_codes p (listed (cons_res (code p k v) o))
      go (refuse n) f = absurd f
      go (ok cs) f = refl

  pub paint_more : (k v m : ℕ) (x : ℕ) → Coded u e p k v x → m ≡ paints left (code p k v) → IsOk (row_at u e left p)
      → (px px' : List ℕ) (o a : ℕ) → a ≡ v % 4 → px' ≡ sets px o (replicate m a)
      → sets px' (o + m) (row_pixels (left - m) (listed (row_at u e (left - m) x))) ≡ sets px o (row_pixels left (listed (row_at u e left p)))
  unfolding row_pixels
  paint_more k v m x g q i px px' o a ea ep =
      rw (row-turn k v m x g q, ep, ea, q) (go (row_at u e (left - paints left (code p k v)) x) (rw (row-turn k v m x g q, q) at i))
    where
      go : (r : Res (List Code)) → IsOk (cons_res (code p k v) r)
          → sets (sets px o (replicate (paints left (code p k v)) (v % 4))) (o + paints left (code p k v)) (row_pixels (left - paints left (code p k v)) (listed r))
          ≡ sets px o (row_pixels left (listed (cons_res (code p k v) r)))
      go (refuse n) f = absurd f
      go (ok cs) f = rw sets-append (rw length-replicate)

pub row-end : (u : List ℕ) (e left p : ℕ) (a : Counts) → left ≡ 0 → plus_row a (row_answer left (row_at u e left p)) ≡ ok a
unfolding after_codes row_counts
row-end u e left p a q = rw (q, row-none) (ap ok (plus-nothing a))

pub after-end : (u : List ℕ) (e left p : ℕ) → left ≡ 0 → p ≡ after_codes p (listed (row_at u e left p))
unfolding after_codes
after-end u e left p q = rw (q, row-none)

pub paint_end : (u : List ℕ) (e left p : ℕ) (px : List ℕ) (o : ℕ) → left ≡ 0 → px ≡ sets px o (row_pixels left (listed (row_at u e left p)))
unfolding row_pixels
paint_end u e left p px o q = rw (q, row-none)

-- codes of a row stand within the field, and each takes a nibble at least
row_inside : (u : List ℕ) (e left p : ℕ) (cs : List Code) → RowCodes u e left p cs → 0 < left → after_codes p cs ≤ 2 * e
unfolding RowCodes after_codes
row_inside u e left p [] h l = absurd (omega (arith, h))
row_inside u e left p (c ∷ []) h l = omega (arith, h.1, h.2.inside)
row_inside u e left p (c ∷ d ∷ cs) h l = row_inside u e (left - paints left c) (p + c.size) (d ∷ cs) h.3 h.3.0

row-few : (u : List ℕ) (e left p : ℕ) (cs : List Code) (a : Counts) → RowCodes u e left p cs → AtMost p a → AtMost (after_codes p cs) (plus a (row_counts left cs))
unfolding RowCodes after_codes row_counts
row-few u e left p [] a h l = subst (AtMost p) (sym (plus-nothing a)) l
row-few u e left p (c ∷ cs) a h l =
    subst (AtMost (after_codes (p + c.size) cs)) (plus_assoc a (counted left c) (row_counts (left - paints left c) cs))
    (row-few u e (left - paints left c) (p + c.size) cs (plus a (counted left c)) h.3
    (at-most-counted p c.size left c a h.2.one l))

-- what an answer with a row says
pub record Rowed (u : List ℕ) (e w p : ℕ) (b : Counts) (x : ℕ) : Type 0 where
  pub cs : List Code
  pub here : row_at u e w p ≡ ok cs
  pub count : b ≡ row_counts w cs
  pub goes : x ≡ after_codes p cs
  pub few : (a : Counts) → AtMost p a → AtMost (after_codes p cs) (plus a b)
  pub inside : 0 < w → after_codes p cs ≤ 2 * e

pub rowed : (u : List ℕ) (e w p : ℕ) (b : Counts) (x : ℕ) → ok b ≡ row_answer w (row_at u e w p)
    → (IsOk (row_at u e w p) → x ≡ after_codes p (listed (row_at u e w p))) → Rowed u e w p b x
rowed u e w p b x q y = go (row_at u e w p) refl q y
  where
    go : (o : Res (List Code)) → row_at u e w p ≡ o → ok b ≡ row_answer w o → (IsOk o → x ≡ after_codes p (listed o)) → Rowed u e w p b x
    go (refuse n) h q' y' = let z : ◌≡◌ {A = ℕ} 0 1 = cc in absurd (omega arith)
    go (ok r) h q' y' =
        let z : b ≡ row_counts w r = ok-injective q' in
        let f = (row-iff u e w p r).0 h in
        record {
          cs = r;
          here = h;
          count = z;
          goes = y' tt;
          few = λ a l. subst (λ (d : Counts). AtMost (after_codes p r) (plus a d)) (sym z) (row-few u e w p r a f l);
          inside = row_inside u e w p r f;
        }

-- a reader that stands after a row aligns to the next byte
pub row-aligned : (u : List ℕ) (w p : ℕ) (b : Counts) (x : ℕ) → length u * 1 < 2 ^ 63 → Rowed u (length u) w p b x → 0 < w → (r : ℕ) → r ≡ on_byte x → r ≡ align x
row-aligned u w p b x f g h r q = q ∙ on_byte_lem u x f (omega (arith, g.goes, g.inside h))

pub unrowed : (u : List ℕ) (e w p n : ℕ) → refuse n ≡ row_answer w (row_at u e w p) → row_at u e w p ≡ refuse n
unrowed u e w p n q = go (row_at u e w p) refl q
  where
    go : (o : Res (List Code)) → row_at u e w p ≡ o → refuse n ≡ row_answer w o → row_at u e w p ≡ refuse n
    go (refuse m) h q' = let z : m ≡ n = cc in h ∙ ap refuse z
    go (ok r) h q' = let z : ◌≡◌ {A = ℕ} 0 1 = cc in absurd (omega arith)

-- ---- Fields

pub field-whole : (r : Res Counts) → plus_field nothing r ≡ r
field-whole (ok b) = ap ok (nothing-plus b)
field-whole (refuse n) = refl

module _ (u : List ℕ) (e w n p : ℕ) (h : 0 < n) where
  pub field_step : field_at u e w n p ≡ and_then (row_at u e w p) (λ r. cons_res r (field_at u e w (n - 1) (align (after_codes p r))))
  unfolding field_at
  field_step = let z : n ≡ suc (n - 1) = omega arith in go n z
    where
      go : (m : ℕ) → m ≡ suc (n - 1) → field_at u e w m p ≡ and_then (row_at u e w p) (λ r. cons_res r (field_at u e w (n - 1) (align (after_codes p r))))
      go m q = rw q

  pub field-short : (k : ℕ) → row_at u e w p ≡ refuse k → field_at u e w n p ≡ refuse k
  field-short k q = rw (field_step, q)

  pub field-more : (a b d : Counts) (at : ℕ) (x : ℕ) → Rowed u e w p b x → at ≡ align x → d ≡ plus a b
      → plus_field d (field_answer w (field_at u e w (n - 1) at)) ≡ plus_field a (field_answer w (field_at u e w n p))
  unfolding field_counts
  field-more a b d at x g q f = rw (field_step, g.here, q, g.goes, f, g.count) (go (field_at u e w (n - 1) (align (after_codes p g.cs))))
    where
      go : (o : Res (List (List Code))) → plus_field (plus a (row_counts w g.cs)) (field_answer w o) ≡ plus_field a (field_answer w (cons_res g.cs o))
      go (refuse k) = refl
      go (ok rs) = ap ok (plus_assoc a (row_counts w g.cs) (field_counts w rs))

  -- a turn of the painting
  pub row-there : IsOk (field_at u e w n p) → IsOk (row_at u e w p)
  row-there i = go (row_at u e w p) (rw field_step at i)
    where
      go : (o : Res (List Code)) → IsOk (and_then o (λ r. cons_res r (field_at u e w (n - 1) (align (after_codes p r))))) → IsOk o
      go (refuse k) f = f
      go (ok r) f = tt

  pub field-turn : IsOk (field_at u e w n p) → (q at : ℕ) → q ≡ after_codes p (listed (row_at u e w p)) → at ≡ align q
      → field_at u e w n p ≡ cons_res (listed (row_at u e w p)) (field_at u e w (n - 1) at)
  field-turn i q at hq ha = rw (field_step, ha, hq) (go (row_at u e w p) (row-there i))
    where
      go : (o : Res (List Code)) → IsOk o
          → and_then o (λ r. cons_res r (field_at u e w (n - 1) (align (after_codes p r)))) ≡ cons_res (listed o) (field_at u e w (n - 1) (align (after_codes p (listed o))))
      go (refuse k) f = absurd f
      go (ok r) f = refl

  pub field-there : IsOk (field_at u e w n p) → (q at : ℕ) → q ≡ after_codes p (listed (row_at u e w p)) → at ≡ align q → IsOk (field_at u e w (n - 1) at)
  field-there i q at hq ha = go (field_at u e w (n - 1) at) (rw (field-turn i q at hq ha) at i)
    where
      go : (o : Res (List (List Code))) → IsOk (cons_res (listed (row_at u e w p)) o) → IsOk o
      go (refuse k) f = f
      go (ok rs) f = f

  pub field-paint : IsOk (field_at u e w n p) → (q at : ℕ) → q ≡ after_codes p (listed (row_at u e w p)) → at ≡ align q
      → (px px' : List ℕ) (o : ℕ) → px' ≡ sets px o (row_pixels w (listed (row_at u e w p)))
      → paint_field w (o + w + w) (listed (field_at u e w (n - 1) at)) px' ≡ paint_field w o (listed (field_at u e w n p)) px
  unfolding paint_field
  field-paint i q at hq ha px px' o hp =
      let z : o + w + w ≡ o + 2 * w = omega arith in
      rw (field-turn i q at hq ha, z, hp) (go (field_at u e w (n - 1) at) (field-there i q at hq ha))
    where
      go : (r : Res (List (List Code))) → IsOk r
          → paint_field w (o + 2 * w) (listed r) (sets px o (row_pixels w (listed (row_at u e w p))))
          ≡ paint_field w o (listed (cons_res (listed (row_at u e w p)) r)) px
      go (refuse k) f = absurd f
      go (ok rs) f = refl

  pub row-goes_inside : IsOk (field_at u e w n p) → 0 < w → after_codes p (listed (row_at u e w p)) ≤ 2 * e
  row-goes_inside i l = go (row_at u e w p) refl (row-there i)
    where
      go : (o : Res (List Code)) → row_at u e w p ≡ o → IsOk o → after_codes p (listed (row_at u e w p)) ≤ 2 * e
      go (refuse k) q f = absurd f
      go (ok r) q f = rw q (row_inside u e w p r ((row-iff u e w p r).0 q) l)

pub field_end : (u : List ℕ) (e w n p : ℕ) (a : Counts) → n ≡ 0 → plus_field a (field_answer w (field_at u e w n p)) ≡ ok a
unfolding field_at field_counts
field_end u e w n p a q = rw q (ap ok (plus-nothing a))

pub field-paint_end : (u : List ℕ) (e w n p o : ℕ) (px : List ℕ) → n ≡ 0 → px ≡ paint_field w o (listed (field_at u e w n p)) px
unfolding field_at paint_field
field-paint_end u e w n p o px q = rw q

-- rows of no pixels: no codes, and nothing is painted
pub record Blank (u : List ℕ) (e n p : ℕ) : Type 0 where
  pub rs : List (List Code)
  pub here : field_at u e 0 n p ≡ ok rs
  pub none : field_counts 0 rs ≡ nothing
  pub bare : kept_all 0 rs ≡ []
  pub same : (o : ℕ) (px : List ℕ) → paint_field 0 o rs px ≡ px

pub blank : (u : List ℕ) (e n p : ℕ) → Blank u e n p
unfolding field_at field_counts row_counts paint_field row_pixels after_codes kept_row kept_all
blank u e zero p = record { rs = []; here = refl; none = refl; bare = refl; same = λ o px. refl }
blank u e (suc n) p =
    let b = blank u e n (align p) in
    record { rs = [] ∷ b.rs; here = rw (row-none, b.here); none = rw b.none; bare = b.bare; same = λ o px. b.same (o + 2 * 0) px }

pub blank-counts : (u : List ℕ) (e w n : ℕ) → w ≡ 0 → ok nothing ≡ field_answer w (field_at u e w n 0)
blank-counts u e w n q = rw (q, (blank u e n 0).here, (blank u e n 0).none)

pub blank-kept : (u : List ℕ) (e w n o : ℕ) (px : List ℕ) → w ≡ 0 → px ≡ paint_field w o (listed (field_at u e w n 0)) px
blank-kept u e w n o px q = rw (q, (blank u e n 0).here, (blank u e n 0).same)

pub mul_pred : (n x : ℕ) → 0 < n → n * x ≡ (n - 1) * x + x
mul_pred n x h = let z : n ≡ suc (n - 1) = omega arith in go n z
  where
    go : (m : ℕ) → m ≡ suc (n - 1) → m * x ≡ (n - 1) * x + x
    go m q = rw (q, suc-mul)

-- ---- The map's length

pub holds-blank : (l w h : ℕ) → w ≡ 0 → true ≡ leb (w * h) l
holds-blank l w h q = rw (q, zero-mul) (sym (le-leb 0 l (omega arith)))

pub holds-wide : (l w h : ℕ) → 0 < w → leb h (l / w) ≡ leb (w * h) l
holds-wide l w h q =
    let i : (h ≤ l / w) ↔ (h * w ≤ l) = le-div_iff_mul-le q in
    ⊎_elim
    (λ a. let b : h ≤ l / w = i.1 (omega (arith, mul_comm h w)) in rw (le-leb h (l / w) b, le-leb (w * h) l a))
    (λ a. let b : l / w < h = not-le h (l / w) (λ c. omega (arith, i.0 c, mul_comm h w)) in rw (lt-leb h (l / w) b, lt-leb (w * h) l a))
    (le_or_lt (w * h) l)

-- the rows below height, where there are none and where there are some
pub rows_none : (s h : ℕ) → h ≤ s → rows_from s h ≡ 0
unfolding rows_from
rows_none s h a = omega arith

pub rows-some : (s h : ℕ) → s < h → (h - s) / 2 + (h - s) % 2 ≡ rows_from s h
unfolding rows_from
rows-some s h a = omega arith

-- the first row's place fits a number, and the last row ends within the map
pub start_fits : (s h w l : ℕ) → s < h → w * h ≤ l → s * w ≤ l
start_fits s h w l a b = let m : s * w ≤ h * w = mul-le-mul_right w (omega arith) in omega (arith, mul_comm w h)

pub width_fits : (s h w l : ℕ) → s < h → w * h ≤ l → w ≤ l
width_fits s h w l a b = omega (arith, le-mul_of_pos_right w (lt_of_le_of_lt zero-le a))

pub rows_fit : (s h w l : ℕ) → s < h → w * h ≤ l → s * w + rows_from s h * (2 * w) ≤ l + w
unfolding rows_from
rows_fit s h w l a b =
    let n : ℕ = (h + 1 - s) / 2 in
    let m : (s + n * 2) * w ≤ (h + 1) * w = mul-le-mul_right w (omega arith) in
    omega (arith, m, add-mul s (n * 2) w, add-mul h 1 w, mul_assoc n 2 w, mul_comm w h)

-- ---- A field decoded

-- what an answer with counts says
pub fielded : (u : List ℕ) (e w n p : ℕ) (b : Counts) → ok b ≡ field_answer w (field_at u e w n p) → IsOk (field_at u e w n p)
fielded u e w n p b q = go (field_at u e w n p) q
  where
    go : (o : Res (List (List Code))) → ok b ≡ field_answer w o → IsOk o
    go (refuse k) q' = let z : ◌≡◌ {A = ℕ} 0 1 = cc in absurd (omega arith)
    go (ok r) q' = tt

pub unfielded : (u : List ℕ) (e w n p k : ℕ) → refuse k ≡ field_answer w (field_at u e w n p) → field_at u e w n p ≡ refuse k
unfielded u e w n p k q = go (field_at u e w n p) refl q
  where
    go : (o : Res (List (List Code))) → field_at u e w n p ≡ o → refuse k ≡ field_answer w o → field_at u e w n p ≡ refuse k
    go (refuse m) h q' = let z : m ≡ k = cc in h ∙ ap refuse z
    go (ok r) h q' = let z : ◌≡◌ {A = ℕ} 0 1 = cc in absurd (omega arith)

-- a refusal leaves the map as found
pub refused-kept : (w o k : ℕ) (r : Res (List (List Code))) (px : List ℕ) → r ≡ refuse k → px ≡ paint_field w o (listed r) px
unfolding paint_field
refused-kept w o k r px q = rw q

module _ (s : List ℕ) (w h start : ℕ) (px : List ℕ) where
  pub decoded-short : leb (w * h) (length px) ≡ false → Decoded s w h start px (refuse short_pixels) px
  unfolding decoded paint_field
  decoded-short q = record { answer = rw q; pixels = rw q }

  module _ (fits : w * h ≤ length px) where
    decoded-held : (n : ℕ) → n ≡ rows_from start h → field_at s (length s) w n 0 ≡ decoded s w h start px
    unfolding decoded
    decoded-held n q = rw (le-leb (w * h) (length px) fits, q)

    pub decoded-none : h ≤ start → Decoded s w h start px (ok nothing) px
    unfolding field_at field_counts paint_field
    decoded-none a = let q : ok [] ≡ decoded s w h start px = decoded-held 0 (sym (rows_none start h a)) in record { answer = rw (← q); pixels = rw (← q) }

    pub decoded-rows : (n : ℕ) → n ≡ rows_from start h → (r : Res Counts) (px' : List ℕ) → RowsDecoded s w n (start * w) px r px' → Decoded s w h start px r px'
    decoded-rows n q r px' f = let d = decoded-held n q in record { answer = rw (← d) f.answer; pixels = rw (← d) f.pixels }
