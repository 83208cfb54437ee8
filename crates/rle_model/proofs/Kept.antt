-- Kept runs paint what the codes paint; one turn of keeping and of painting them. Assumes nothing.
use Prim.Native.Nat.{ℕ, zero, suc, ◌+◌, ◌-◌, ◌*◌, ◌/◌, ◌%◌, ◌≤◌, ◌<◌}
use native.Mathlib.Nat.{suc-mul}
use native.Mathlib.Numerals.{add-one}
use native.Mathlib.Omega.{arith}
use mathlib.Core.Path.{◌≡◌, refl, sym, ap, ◌∙◌, subst}
use mathlib.Core.List.{List, [], ◌∷◌, ◌++◌, append-nil}
use lib.ListN.{length, set, replicate, take, drop, get_or, length-append, length-replicate, drop_of_length-le}
use lib.Seq.{sets, sets-eq, length-sets, take_at, drop-cons}
use Rattle.outcome.specs.Outcome.{Res, ok, refuse, listed, listed_by, IsOk}
use Rattle.grammar.specs.Rows.{Code, code, colour, paints, RowCodes, after_codes, align, FieldRows}
use Rattle.grammar.specs.Pixels.{row_pixels}
use Rattle.rle_model.specs.Codes.{code_at, row_at, row_read, field_at, field_read}
use Rattle.rle_model.specs.Field.{paint_field}
use Rattle.rle_model.specs.Kept.{widest, kept_run, kept_row, kept_all, left_after, place_after, paint_kept, KeptFits}
use Rattle.rle_model.specs.Answers.{row_counts, field_counts, field_answer}
use Rattle.rle_model.specs.Answers.{part_rows, Ready, Counted}
use Rattle.rle_model.specs.declared.Counts.{Counts}
use Rattle.grammar.proofs.Lengths.{paints-le}
use Rattle.rle_model.proofs.Grammar.{row-none, field-iff, read_step, read-row, read-field}
use Rattle.outcome.proofs.Laws.{sets-append}
use Rattle.rle_model.proofs.CodeLoops.{Coded}
use Rattle.rle_model.proofs.Loops.{Rowed, blank, fielded}

-- ---- Keeping

-- a turn of keeping a row's codes
pub keep-more : (u : List ℕ) (e left p : ℕ) (h : 0 < left) (k v m : ℕ) (x : ℕ) → Coded u e p k v x → m ≡ paints left (code p k v)
    → (ks ks' : List ℕ) (i : ℕ) → ks' ≡ set ks i (kept_run m (v % 4))
    → sets ks' (i + 1) (kept_row (left - m) (row_read u e (left - m) x)) ≡ sets ks i (kept_row left (row_read u e left p))
unfolding kept_row
keep-more u e left p h k v m x g q ks ks' i f =
    rw (read_step u e left p h, g.here, sym q, f, add-one, g.goes)

-- it ends where the field ran out, or with the row
pub keep-short : (u : List ℕ) (e left p n : ℕ) (ks : List ℕ) (i : ℕ) → 0 < left → code_at u e p ≡ refuse n → ks ≡ sets ks i (kept_row left (row_read u e left p))
unfolding kept_row
keep-short u e left p n ks i h q = rw (read_step u e left p h, q)

pub keep-end : (u : List ℕ) (e left p : ℕ) (ks : List ℕ) (i : ℕ) → left ≡ 0 → ks ≡ sets ks i (kept_row left (row_read u e left p))
unfolding kept_row
keep-end u e left p ks i q = rw (q, read-row u e 0 p [] (row-none u e p))

-- the number of a row's codes, and of a field's
codes-length : (left : ℕ) (cs : List Code) → (row_counts left cs).codes ≡ length (kept_row left cs)
unfolding row_counts kept_row
codes-length left [] = refl
codes-length left (c ∷ cs) = omega (arith, codes-length (left - paints left c) cs)

kept-length : (w : ℕ) (rs : List (List Code)) → (field_counts w rs).codes ≡ length (kept_all w rs)
unfolding field_counts kept_all
kept-length w [] = refl
kept-length w (r ∷ rs) = omega (arith, codes-length w r, kept-length w rs, length-append (kept_row w r) (kept_all w rs))

-- what is read of a field: one turn, which ends where the row is not there
rows-turn : (u : List ℕ) (e w n p : ℕ) → 0 < n → field_read u e w n p ≡ row_read u e w p ∷ listed_by (row_at u e w p) (λ r. field_read u e w (n - 1) (align (after_codes p r)))
unfolding field_read
rows-turn u e w n p h = let z : n ≡ suc (n - 1) = omega arith in go n z
  where
    go : (m : ℕ) → m ≡ suc (n - 1) → field_read u e w m p ≡ row_read u e w p ∷ listed_by (row_at u e w p) (λ r. field_read u e w (n - 1) (align (after_codes p r)))
    go m q = rw q

-- a turn of keeping a field's rows
pub keep-rows : (u : List ℕ) (e w n p : ℕ) (h : 0 < n) (b : Counts) (x : ℕ) → Rowed u e w p b x
    → (ks ks' : List ℕ) (i j at : ℕ) → ks' ≡ sets ks i (kept_row w (row_read u e w p)) → j ≡ i + b.codes → at ≡ align x
    → sets ks' j (kept_all w (field_read u e w (n - 1) at)) ≡ sets ks i (kept_all w (field_read u e w n p))
unfolding kept_all
keep-rows u e w n p h b x g ks ks' i j at f q a =
    let d : i + b.codes ≡ i + length (kept_row w g.cs) = rw (g.count, codes-length w g.cs) in
    rw (f, q, d, a, g.goes, rows-turn u e w n p h, read-row u e w p g.cs g.here, g.here)
    (sym (sets-append ks i (kept_row w g.cs) (kept_all w (field_read u e w (n - 1) (align (after_codes p g.cs))))))

pub keep-rows-short : (u : List ℕ) (e w n p k : ℕ) (ks ks' : List ℕ) (i : ℕ) → 0 < n → row_at u e w p ≡ refuse k → ks' ≡ sets ks i (kept_row w (row_read u e w p))
    → ks' ≡ sets ks i (kept_all w (field_read u e w n p))
unfolding kept_all
keep-rows-short u e w n p k ks ks' i h q f = rw (rows-turn u e w n p h, q, append-nil) f

pub keep-rows-end : (u : List ℕ) (e w n p : ℕ) (ks : List ℕ) (i : ℕ) → n ≡ 0 → ks ≡ sets ks i (kept_all w (field_read u e w n p))
unfolding field_read kept_all
keep-rows-end u e w n p ks i q = rw q

pub blank-keeps : (u : List ℕ) (e w n : ℕ) (ks : List ℕ) → w ≡ 0 → ks ≡ sets ks 0 (kept_all w (field_read u e w n 0))
blank-keeps u e w n ks q = let b = blank u e n 0 in rw (q, read-field u e 0 n 0 _ b.here, b.bare)

-- ---- Painting kept runs

-- a run that a kept number holds
run-count : (m a : ℕ) → m < widest → a < 4 → kept_run m a / 4 ≡ m
run-count m a h l = omega arith

run-colour : (m a : ℕ) → a < 4 → kept_run m a % 4 ≡ a
run-colour m a l = omega arith

-- one kept run of m pixels of colour a
module _ (w left to v m a : ℕ) (pm : v / 4 ≡ m) (pa : v % 4 ≡ a) where
  kept_step : (vs px : List ℕ)
      → paint_kept w left to (v ∷ vs) px ≡ paint_kept w (left_after w (left - m)) (place_after w (left - m) (to + m)) vs (sets px to (replicate m a))
  unfolding paint_kept
  kept_step vs px = λ i. paint_kept w (left_after w (left - pm i)) (place_after w (left - pm i) (to + pm i)) vs (sets px to (replicate (pm i) (pa i)))

  fits_step : (n : ℕ) (vs : List ℕ) → m ≤ left → to + m ≤ n → KeptFits n w (left_after w (left - m)) (place_after w (left - m) (to + m)) vs → KeptFits n w left to (v ∷ vs)
  unfolding KeptFits
  fits_step n vs o b f =
      subst (λ (k : ℕ). (k ≤ left) × (to + k ≤ n) × KeptFits n w (left_after w (left - k)) (place_after w (left - k) (to + k)) vs) (sym pm) (o, b, f)

-- what a row's codes do: they end at the row's end, and what follows is painted in the row after the next
record KeptRow (n w left to : ℕ) (cs : List Code) (vs : List ℕ) : Type 0 where
  paints_row : (px : List ℕ) → paint_kept w left to (kept_row left cs ++ vs) px ≡ paint_kept w w (to + left + w) vs (sets px to (row_pixels left cs))
  fits_row : to + left ≤ n → KeptFits n w w (to + left + w) vs → KeptFits n w left to (kept_row left cs ++ vs)

-- the same from the code c on, with r pixels left after it
record KeptRest (n w left to : ℕ) (c : Code) (ds : List Code) (vs : List ℕ) (r : ℕ) : Type 0 where
  paints_rest : (px : List ℕ)
      → paint_kept w (left_after w r) (place_after w r (to + paints left c)) (kept_row r ds ++ vs) (sets px to (replicate (paints left c) (colour c)))
      ≡ paint_kept w w (to + left + w) vs (sets px to (replicate (paints left c) (colour c) ++ row_pixels r ds))
  fits_rest : to + left ≤ n → KeptFits n w w (to + left + w) vs → KeptFits n w (left_after w r) (place_after w r (to + paints left c)) (kept_row r ds ++ vs)

kept-rest : (u : List ℕ) (e n w left p to : ℕ) (c : Code) (vs : List ℕ) (ds : List Code) (r : ℕ) → left - paints left c ≡ r
    → (0 < r → KeptRow n w r (to + paints left c) ds vs) → RowCodes u e r (p + c.size) ds → KeptRest n w left to c ds vs r
unfolding RowCodes row_pixels kept_row
kept-rest u e n w left p to c vs [] zero q ih g =
    let z : to + paints left c + w ≡ to + left + w = omega (arith, paints-le left c) in
    record { paints_rest = λ px. rw (z, append-nil); fits_rest = λ b f. rw z f }
kept-rest u e n w left p to c vs (d ∷ ds) zero q ih g = absurd (omega (arith, g.0))
kept-rest u e n w left p to c vs ds (suc r) q ih g =
    let k = ih (omega arith) in
    let z : to + paints left c + suc r ≡ to + left = omega (arith, paints-le left c) in
    record {
      paints_rest =
          λ px.
          k.paints_row (sets px to (replicate (paints left c) (colour c)))
          ∙ (λ i. paint_kept w w (z i + w) vs (sets (sets px to (replicate (paints left c) (colour c))) (to + paints left c) (row_pixels (suc r) ds)))
          ∙ ap (paint_kept w w (to + left + w) vs) (sym (sets-append px to (replicate (paints left c) (colour c)) (row_pixels (suc r) ds) ∙ rw length-replicate));
      fits_rest = λ b f. k.fits_row (rw z b) (rw z f);
    }

kept_row_lem : (u : List ℕ) (e n w : ℕ) (vs : List ℕ) (left p to : ℕ) (cs : List Code) → left < widest → RowCodes u e left p cs → 0 < left → KeptRow n w left to cs vs
unfolding RowCodes row_pixels kept_row
kept_row_lem u e n w vs left p to [] t h l = absurd (omega (arith, h))
kept_row_lem u e n w vs left p to (c ∷ cs) t h l =
    let b = paints-le left c in
    let m = run-count (paints left c) (colour c) (omega arith) (omega arith) in
    let a = run-colour (paints left c) (colour c) (omega arith) in
    let g =
    kept-rest u e n w left p to c vs cs (left - paints left c) refl
    (λ q. kept_row_lem u e n w vs (left - paints left c) (p + c.size) (to + paints left c) cs (omega arith) h.3 q) h.3 in
    let tail = kept_row (left - paints left c) cs ++ vs in
    record {
      paints_row = λ px. kept_step w left to _ (paints left c) (colour c) m a tail px ∙ g.paints_rest px;
      fits_row = λ o f. fits_step w left to _ (paints left c) (colour c) m a n tail b (omega arith) (g.fits_rest o f);
    }

-- the rows of a field
pub kept_field : (u : List ℕ) (e w p : ℕ) (rs : List (List Code)) → FieldRows u e w p rs → 0 < w → w < widest → (o : ℕ) (px : List ℕ)
    → paint_kept w w o (kept_all w rs) px ≡ paint_field w o rs px
unfolding FieldRows kept_all paint_field paint_kept
kept_field u e w p [] h l t o px = refl
kept_field u e w p (r ∷ rs) h l t o px =
    let z : o + w + w ≡ o + 2 * w = omega arith in
    (kept_row_lem u e 0 w (kept_all w rs) w p o r t h.0 l).paints_row px
    ∙ rw z (kept_field u e w (align (after_codes p r)) rs h.1 l t (o + 2 * w) (sets px o (row_pixels w r)))

pub fits-field : (u : List ℕ) (e w p : ℕ) (rs : List (List Code)) → FieldRows u e w p rs → 0 < w → w < widest → (n o : ℕ) → o + length rs * (2 * w) ≤ n + w
    → KeptFits n w w o (kept_all w rs)
unfolding FieldRows kept_all KeptFits
fits-field u e w p [] h l t n o b = tt
fits-field u e w p (r ∷ rs) h l t n o b =
    let z : o + w + w ≡ o + 2 * w = omega arith in
    let m = suc-mul (length rs) (2 * w) in
    (kept_row_lem u e n w (kept_all w rs) w p o r t h.0 l).fits_row (omega arith)
    (rw z (fits-field u e w (align (after_codes p r)) rs h.1 l t n (o + 2 * w) (omega arith)))

-- ---- One turn of painting from kept codes

pub left_end : (w l : ℕ) → l ≡ 0 → w ≡ left_after w l
left_end w l q = rw q

pub left_on : (w l : ℕ) → (l ≡ 0 → ⊥) → l ≡ left_after w l
left_on w zero f = absurd (f refl)
left_on w (suc l) f = refl

pub place_end : (w l t : ℕ) → l ≡ 0 → t + w ≡ place_after w l t
place_end w l t q = rw q

pub place_on : (w l t : ℕ) → (l ≡ 0 → ⊥) → t ≡ place_after w l t
place_on w zero t f = absurd (f refl)
place_on w (suc l) t f = refl

module _ (ks : List ℕ) (k : ℕ) (l : k < length ks) where
  pub drop-kept : drop k ks ≡ get_or ks k 0 ∷ drop (k + 1) ks
  drop-kept = rw (add-one, drop-cons ks k 0 l)

module _ (n w left to : ℕ) (ks : List ℕ) (k : ℕ) (l : k < length ks) where
  pub fits-now : KeptFits n w left to (drop k ks) → (get_or ks k 0 / 4 ≤ left) × (to + get_or ks k 0 / 4 ≤ n)
  unfolding KeptFits
  fits-now f = let g = rw (drop-kept ks k l) at f in (g.0, g.1)

  pub fits_more : KeptFits n w left to (drop k ks)
      → (m left' to' : ℕ) → m ≡ get_or ks k 0 / 4 → left' ≡ left_after w (left - m) → to' ≡ place_after w (left - m) (to + m)
      → KeptFits n w left' to' (drop (k + 1) ks)
  unfolding KeptFits
  fits_more f m left' to' pm pl pt = rw (pl, pt, pm) (rw (drop-kept ks k l) at f).2

  pub paints-more : (px px' : List ℕ) (m left' to' : ℕ) → m ≡ get_or ks k 0 / 4 → left' ≡ left_after w (left - m)
      → to' ≡ place_after w (left - m) (to + m) → px' ≡ sets px to (replicate m (get_or ks k 0 % 4))
      → paint_kept w left' to' (drop (k + 1) ks) px' ≡ paint_kept w left to (drop k ks) px
  paints-more px px' m left' to' pm pl pt pp =
      rw (drop-kept ks k l, pl, pt, pp)
      (sym (kept_step w left to (get_or ks k 0) m (get_or ks k 0 % 4) (sym pm) refl (drop (k + 1) ks) px))

pub paints-end : (w left to : ℕ) (ks : List ℕ) (k : ℕ) (px : List ℕ) → length ks ≤ k → px ≡ paint_kept w left to (drop k ks) px
unfolding paint_kept
paints-end w left to ks k px l = let z : drop k ks ≡ [] = drop_of_length-le ks l in rw z

-- ---- The whole of a field from what was kept

-- a field that was measured, with its codes kept
pub ready : (s : List ℕ) (w n : ℕ) (ks ks' : List ℕ) (b : Counts) → Counted s w n b
    → ks' ≡ sets ks 0 (kept_all w (field_read s (length s) w n 0)) → Ready s w n b.codes ks'
ready s w n ks ks' b a q =
    let i = fielded s (length s) w n 0 b a in
    record { there = i; kept = λ f. go (part_rows s w n) refl i a f }
  where
    go : (r : Res (List (List Code))) → part_rows s w n ≡ r → IsOk r → ok b ≡ field_answer w r → b.codes ≤ length ks'
        → take b.codes ks' ≡ kept_all w (listed r)
    go (refuse k) h i a f = absurd i
    go (ok rs) h i a f =
        let z : b ≡ field_counts w rs = cc in
        let q' : ks' ≡ sets ks 0 (kept_all w rs) = q ∙ ap (λ (l : List (List Code)). sets ks 0 (kept_all w l)) (read-field s (length s) w n 0 rs h) in
        let c : b.codes ≡ length (kept_all w rs) = ap (λ (d : Counts). d.codes) z ∙ kept-length w rs in
        let l : length (kept_all w rs) ≤ length ks = omega (arith, ap length q', length-sets ks 0 (kept_all w rs)) in
        rw (c, q', sets-eq (kept_all w rs) ks 0 (omega arith)) (take_at (kept_all w rs) (drop (0 + length (kept_all w rs)) ks) (length (kept_all w rs)) refl)

-- what was kept of a whole field fits where its rows fit, and paints them
record KeptWhole (u : List ℕ) (e w n : ℕ) : Type 0 where
  room : (l o : ℕ) → o + n * (2 * w) ≤ l + w → KeptFits l w w o (kept_all w (listed (field_at u e w n 0)))
  pixels : (o : ℕ) (px : List ℕ) → paint_kept w w o (kept_all w (listed (field_at u e w n 0))) px ≡ paint_field w o (listed (field_at u e w n 0)) px

kept_whole : (u : List ℕ) (e w n : ℕ) → w < widest → IsOk (field_at u e w n 0) → KeptWhole u e w n
unfolding KeptFits paint_kept
kept_whole u e zero n t i =
    let b = blank u e n 0 in
    record { room = λ l o f. rw (b.here, b.bare) tt; pixels = λ o px. rw (b.here, b.bare, b.same) }
kept_whole u e (suc w) n t i = go (field_at u e (suc w) n 0) refl i
  where
    go : (r : Res (List (List Code))) → field_at u e (suc w) n 0 ≡ r → IsOk r → KeptWhole u e (suc w) n
    go (refuse k) q y = absurd y
    go (ok rs) q y =
        let f = (field-iff u e (suc w) n 0 rs).0 q in
        record {
          room = λ l o b. rw q (fits-field u e (suc w) 0 rs f.1 (omega arith) t l o (rw f.0 b));
          pixels = λ o px. rw q (kept_field u e (suc w) 0 rs f.1 (omega arith) t o px);
        }

module _ (s : List ℕ) (w n count : ℕ) (ks : List ℕ) (t : w < widest) (r : Ready s w n count ks) (f : count ≤ length ks) where
  pub kept-room : (l o : ℕ) → o + n * (2 * w) ≤ l + w → KeptFits l w w o (take count ks)
  kept-room l o b = rw (r.kept f) ((kept_whole s (length s) w n t r.there).room l o b)

  pub kept-pixels : (o : ℕ) (px px' : List ℕ) → px' ≡ paint_kept w w o (take count ks) px → px' ≡ paint_field w o (listed (part_rows s w n)) px
  kept-pixels o px px' p = p ∙ ap (λ (vs : List ℕ). paint_kept w w o vs px) (r.kept f) ∙ (kept_whole s (length s) w n t r.there).pixels o px
