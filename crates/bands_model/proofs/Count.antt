-- Counting the bands that stored words hold: one turn of the loop, and that words of bands hold as many as are listed;
-- words with 0 after them. Assumes nothing.
use Prim.Native.Nat.{ℕ, zero, suc, ◌+◌, ◌-◌, ◌*◌, ◌/◌, ◌≤◌, ◌<◌, min}
use native.Mathlib.Omega.{arith}
use mathlib.Core.Path.{◌≡◌, refl, ap, sym, ◌∙◌}
use mathlib.Core.Logic.{⊎_elim}
use mathlib.Core.List.{List, [], ◌∷◌, ◌++◌}
use lib.ListN.{length, get_or, take, drop, replicate, length-take, length-drop, length-replicate}
use lib.Seq.{sets-eq, length-sets, drop-drop, take_at}
use Rattle.outcome.proofs.Laws.{le_or_lt}
use Rattle.grammar.specs.Bands.{Entry, Band, entry_words, band_words, most_words, record_words}
use Rattle.bands_model.specs.Answers.{padded}
use Rattle.bands_model.specs.Count.{counting, bands_held}
use Rattle.bands_model.specs.Look.{Counted, IsFront}
use Rattle.bands_model.proofs.Look.{drop3}

-- ---- A turn of the loop

counting-short : (left : ℕ) (ws : List ℕ) → length ws < 3 → counting left ws ≡ 0
unfolding counting
counting-short left [] h = refl
counting-short left (a ∷ []) h = refl
counting-short left (a ∷ b ∷ []) h = refl
counting-short left (a ∷ b ∷ c ∷ ws) h = absurd (omega arith)

-- n of a band's m entries
counting-entries : (n m : ℕ) (ws : List ℕ) → n ≤ m → 3 * n ≤ length ws
    → counting m ws ≡ counting (m - n) (drop (3 * n) ws)
unfolding counting
counting-entries zero m ws h l = let z : m - 0 ≡ m = omega arith in rw z
counting-entries (suc n) zero ws h l = absurd (omega arith)
counting-entries (suc n) (suc m) [] h l = absurd (omega arith)
counting-entries (suc n) (suc m) (a ∷ []) h l = absurd (omega arith)
counting-entries (suc n) (suc m) (a ∷ b ∷ []) h l = absurd (omega arith)
counting-entries (suc n) (suc m) (a ∷ b ∷ c ∷ ws) h l =
    let z : suc m - suc n ≡ m - n = omega arith in
    let w : 3 * suc n ≡ suc (suc (suc (3 * n))) = omega arith in
    rw (z, w) (counting-entries n m ws (omega arith) (omega arith))

-- all of them, or as many as there are
counting-band : (c n : ℕ) (ws : List ℕ) → n ≡ min c (length ws / 3) → counting 0 (drop (3 * n) ws) ≡ counting c ws
counting-band c n ws q =
    let l : 3 * n ≤ length ws = omega arith in
    let h : n ≤ c = omega arith in
    ⊎_elim
    (λ (f : c ≤ n). let z : c - n ≡ 0 = omega arith in sym (counting-entries n c ws h l ∙ rw z))
    (λ (f : n < c).
    let r : length (drop (3 * n) ws) < 3 = rw (length-drop (3 * n) ws) (omega arith) in
    counting-short 0 (drop (3 * n) ws) r ∙ sym (counting-entries n c ws h l ∙ counting-short (c - n) (drop (3 * n) ws) r))
    (le_or_lt c n)

pub count_more : (i n k : ℕ) (ws : List ℕ) → i + 3 ≤ length ws → n ≡ min (get_or ws (i + 2) 0) ((length ws - (i + 3)) / 3)
    → k + 1 + counting 0 (drop (i + 3 + 3 * n) ws) ≡ k + counting 0 (drop i ws)
unfolding counting
count_more i n k ws h q =
    let m : n ≡ min (get_or ws (i + 2) 0) (length (drop (i + 3) ws) / 3) = rw (length-drop (i + 3) ws) q in
    let r = counting-band (get_or ws (i + 2) 0) n (drop (i + 3) ws) m in
    let d : counting 0 (drop i ws) ≡ suc (counting (get_or ws (i + 2) 0) (drop (i + 3) ws)) = ap (counting 0) (drop3 ws i h) in
    let e : counting 0 (drop (3 * n) (drop (i + 3) ws)) ≡ counting 0 (drop (i + 3 + 3 * n) ws) = ap (counting 0) (drop-drop (3 * n) (i + 3) ws) in
    omega arith

pub count_end : (i k : ℕ) (ws : List ℕ) → length ws - i < 3 → k ≡ k + counting 0 (drop i ws)
count_end i k ws h = let z = counting-short 0 (drop i ws) (rw (length-drop i ws) h) in omega arith

pub front-counted : {ws es rest : List ℕ} {a b n : ℕ} → IsFront ws a b n es rest → (k : ℕ) → k + 1 + counting 0 rest ≡ k + counting 0 ws
front-counted {ws} {es} {rest} {a} {b} {n} f k = rw f.after (count_more 0 n k ws f.long f.count)

-- ---- Words of listed bands

entries-held : (es : List Entry) (ws : List ℕ) → counting (length es) (entry_words es ++ ws) ≡ counting 0 ws
unfolding counting entry_words
entries-held [] ws = refl
entries-held (e ∷ es) ws = entries-held es ws

pub bands_held_lem : (bs : List Band) → Counted bs → bands_held (band_words bs) ≡ length bs
unfolding counting band_words Counted
bands_held_lem [] h = refl
bands_held_lem (b ∷ bs) h =
    ap suc
    (ap (λ (n : ℕ). counting n (entry_words b.entries ++ band_words bs)) (sym h.0) ∙ entries-held b.entries (band_words bs) ∙ bands_held_lem bs h.1)

-- ---- Words with 0 after them

pub padded-long : (ws : List ℕ) → length (padded ws) ≡ most_words
padded-long ws = length-sets (replicate most_words 0) 0 ws ∙ length-replicate {A = ℕ} most_words 0

-- the used front
pub padded-front : (ws : List ℕ) (n : ℕ) → n ≡ length ws → n ≤ most_words → take n (padded ws) ≡ ws
padded-front ws n e h =
    let l = length-replicate {A = ℕ} most_words 0 in
    ap (take n) (sets-eq ws (replicate most_words 0) 0 (omega arith)) ∙ take_at ws (drop (0 + length ws) (replicate most_words 0)) n (sym e)

pub front-inside : (ws vs : List ℕ) (n : ℕ) → ws ≡ padded vs → n ≤ most_words → n ≤ length ws
front-inside ws vs n e h = let l : length ws ≡ most_words = ap length e ∙ padded-long vs in omega arith

pub front_long : (ws vs : List ℕ) (n : ℕ) → ws ≡ padded vs → n ≤ most_words → n ≡ length (take n ws)
front_long ws vs n e h =
    let l : length ws ≡ most_words = ap length e ∙ padded-long vs in
    let t = length-take n ws in
    omega arith

drop-zeros : (n m : ℕ) → drop n (replicate {A = ℕ} m 0) ≡ replicate (m - n) 0
drop-zeros zero m = let z : m - 0 ≡ m = omega arith in rw z
drop-zeros (suc n) zero = let z : 0 - suc n ≡ 0 = omega arith in rw z
drop-zeros (suc n) (suc m) = let z : suc m - suc n ≡ m - n = omega arith in rw z (drop-zeros n m)

-- as a record holds them
pub padded-record : (bs : List Band) → length (band_words bs) ≤ most_words → padded (band_words bs) ≡ record_words bs
unfolding record_words
padded-record bs h =
    let l = length-replicate {A = ℕ} most_words 0 in
    let z : 0 + length (band_words bs) ≡ length (band_words bs) = omega arith in
    sets-eq (band_words bs) (replicate most_words 0) 0 (omega arith)
    ∙ ap (λ (n : ℕ). band_words bs ++ drop n (replicate most_words 0)) z
    ∙ ap (λ (l : List ℕ). band_words bs ++ l) (drop-zeros (length (band_words bs)) most_words)
