-- Looking up a place in stored words: one turn of each loop, and that words of bands give what the listed bands give. Assumes nothing.
use Prim.Native.Nat.{ℕ, zero, suc, ◌+◌, ◌-◌, ◌*◌, ◌/◌, ◌≤◌, ◌<◌, min}
use native.Mathlib.Numerals.{add-one, add-two, add-three}
use native.Mathlib.Omega.{arith}
use mathlib.Core.Path.{◌≡◌, refl, ap, sym, ◌∙◌}
use mathlib.Core.Bool.{Bool, true, false, cond, ◌&&◌, ◌||◌}
use mathlib.Core.Logic.{⊎_elim}
use Rattle.std.specs.Prelude.{Option, None as none}
use mathlib.Core.List.{List, [], ◌∷◌, ◌++◌}
use lib.Dec.{leb}
use lib.ListN.{length, get_or, take, drop, length-drop}
use lib.Seq.{drop-cons, drop-drop, take_all}
use Rattle.outcome.proofs.Laws.{clash, le_or_lt}
use Rattle.grammar.specs.Bands.{Entry, Band, Bands, entry_words, band_words, band_end}
use Rattle.grammar.specs.Look.{Look, rightmost, last_look, look_at}
use Rattle.bands_model.specs.Look.{Counted, pick_entry, looking, look_words, spanning, spans_line, entries_look, band_look, IsFront}

or-false : (a b : Bool) → (a || b) ≡ false → (a ≡ false) × (b ≡ false)
or-false true b h = absurd (clash true refl h)
or-false false b h = (refl, h)

-- three words at a place
pub drop3 : (ws : List ℕ) (i : ℕ) → i + 3 ≤ length ws → drop i ws ≡ get_or ws i 0 ∷ get_or ws (i + 1) 0 ∷ get_or ws (i + 2) 0 ∷ drop (i + 3) ws
drop3 ws i h =
    drop-cons ws i 0 (omega arith)
    ∙ ap (λ (l : List ℕ). get_or ws i 0 ∷ l) (drop-cons ws (suc i) 0 (omega arith) ∙ ap (λ (l : List ℕ). get_or ws (suc i) 0 ∷ l) (drop-cons ws (suc (suc i)) 0 (omega arith)))
    ∙ simp (add-one, add-two, add-three)

-- a turn of looking through entries
pub entries-more : (x left i : ℕ) (o : Option Look) (ws : List ℕ) → 0 < left → i + 3 ≤ length ws
    → entries_look x (pick_entry x (get_or ws i 0) (get_or ws (i + 1) 0) (get_or ws (i + 2) 0) o) (left - 1) (drop (i + 3) ws) ≡ entries_look x o left (drop i ws)
unfolding entries_look
entries-more x zero i o ws l h = absurd (omega arith)
entries-more x (suc n) i o ws l h = let z : suc n - 1 ≡ n = omega arith in rw (drop3 ws i h, z)

pub entries-end : (x left : ℕ) (o : Option Look) (ws : List ℕ) → left ≡ 0 → o ≡ entries_look x o left ws
unfolding entries_look
entries-end x left o ws q = rw q

-- fewer than three words say nothing
looking-short : (x y left : ℕ) (s : Bool) (o : Option Look) (ws : List ℕ) → length ws < 3 → looking x y left s o ws ≡ o
unfolding looking
looking-short x y left s o [] h = refl
looking-short x y left s o (a ∷ []) h = refl
looking-short x y left s o (a ∷ b ∷ []) h = refl
looking-short x y left s o (a ∷ b ∷ c ∷ ws) h = absurd (omega arith)

-- between bands it does not matter what the last one spanned
looking-fresh : (x y : ℕ) (s t : Bool) (o : Option Look) (ws : List ℕ) → looking x y 0 s o ws ≡ looking x y 0 t o ws
unfolding looking
looking-fresh x y s t o [] = refl
looking-fresh x y s t o (a ∷ []) = refl
looking-fresh x y s t o (a ∷ b ∷ []) = refl
looking-fresh x y s t o (a ∷ b ∷ c ∷ ws) = refl

-- n of a band's m entries
looking-entries : (x y n m : ℕ) (s : Bool) (o : Option Look) (ws : List ℕ) → n ≤ m → 3 * n ≤ length ws
    → looking x y m s o ws ≡ looking x y (m - n) s (cond s (entries_look x o n ws) o) (drop (3 * n) ws)
unfolding looking entries_look
looking-entries x y zero m true o ws h l = let z : m - 0 ≡ m = omega arith in rw z
looking-entries x y zero m false o ws h l = let z : m - 0 ≡ m = omega arith in rw z
looking-entries x y (suc n) zero s o ws h l = absurd (omega arith)
looking-entries x y (suc n) (suc m) s o [] h l = absurd (omega arith)
looking-entries x y (suc n) (suc m) s o (a ∷ []) h l = absurd (omega arith)
looking-entries x y (suc n) (suc m) s o (a ∷ b ∷ []) h l = absurd (omega arith)
looking-entries x y (suc n) (suc m) true o (a ∷ b ∷ c ∷ ws) h l =
    let z : suc m - suc n ≡ m - n = omega arith in
    let w : 3 * suc n ≡ suc (suc (suc (3 * n))) = omega arith in
    rw (z, w) (looking-entries x y n m true (pick_entry x a b c o) ws (omega arith) (omega arith))
looking-entries x y (suc n) (suc m) false o (a ∷ b ∷ c ∷ ws) h l =
    let z : suc m - suc n ≡ m - n = omega arith in
    let w : 3 * suc n ≡ suc (suc (suc (3 * n))) = omega arith in
    rw (z, w) (looking-entries x y n m false o ws (omega arith) (omega arith))

-- a whole band, or as much of it as there is
looking-band : (x y a b c n : ℕ) (s : Bool) (o : Option Look) (ws : List ℕ) → n ≡ min c (length ws / 3)
    → looking x y 0 s (band_look x y a b n o ws) (drop (3 * n) ws) ≡ looking x y 0 s o (a ∷ b ∷ c ∷ ws)
unfolding looking
looking-band x y a b c n s o ws q =
    let l : 3 * n ≤ length ws = omega arith in
    let h : n ≤ c = omega arith in
    let t : Bool = leb a y && leb y b in
    ⊎_elim
    (λ (f : c ≤ n).
    let z : c - n ≡ 0 = omega arith in
    looking-fresh x y s t (band_look x y a b n o ws) (drop (3 * n) ws) ∙ sym (looking-entries x y n c t o ws h l ∙ rw z))
    (λ (f : n < c).
    let r : length (drop (3 * n) ws) < 3 = rw (length-drop (3 * n) ws) (omega arith) in
    looking-short x y 0 s (band_look x y a b n o ws) (drop (3 * n) ws) r
    ∙ sym (looking-entries x y n c t o ws h l ∙ looking-short x y (c - n) t (band_look x y a b n o ws) (drop (3 * n) ws) r))
    (le_or_lt c n)

-- a turn of looking through bands
pub bands-more : (x y i n : ℕ) (o r : Option Look) (ws : List ℕ) → i + 3 ≤ length ws → n ≡ min (get_or ws (i + 2) 0) ((length ws - (i + 3)) / 3)
    → r ≡ band_look x y (get_or ws (i + 3 - 3) 0) (get_or ws (i + 3 - 2) 0) n o (drop (i + 3) ws)
    → looking x y 0 false r (drop (i + 3 + 3 * n) ws) ≡ looking x y 0 false o (drop i ws)
bands-more x y i n o r ws h q f =
    let m : n ≡ min (get_or ws (i + 2) 0) (length (drop (i + 3) ws) / 3) = rw (length-drop (i + 3) ws) q in
    let a : i + 3 - 3 ≡ i = omega arith in
    let b : i + 3 - 2 ≡ i + 1 = omega arith in
    rw (f, a, b, drop3 ws i h, ← drop-drop (3 * n) (i + 3) ws) (looking-band x y (get_or ws i 0) (get_or ws (i + 1) 0) (get_or ws (i + 2) 0) n false o (drop (i + 3) ws) m)

pub bands-end : (x y i : ℕ) (o : Option Look) (ws : List ℕ) → length ws - i < 3 → o ≡ looking x y 0 false o (drop i ws)
bands-end x y i o ws h = sym (looking-short x y 0 false o (drop i ws) (rw (length-drop i ws) h))

-- ---- Whether a band spans a line

spanning-short : (y left : ℕ) (ws : List ℕ) → length ws < 3 → spanning y left ws ≡ false
unfolding spanning
spanning-short y left [] h = refl
spanning-short y left (a ∷ []) h = refl
spanning-short y left (a ∷ b ∷ []) h = refl
spanning-short y left (a ∷ b ∷ c ∷ ws) h = absurd (omega arith)

spanning-entries : (y n m : ℕ) (ws : List ℕ) → n ≤ m → 3 * n ≤ length ws → spanning y m ws ≡ spanning y (m - n) (drop (3 * n) ws)
unfolding spanning
spanning-entries y zero m ws h l = let z : m - 0 ≡ m = omega arith in rw z
spanning-entries y (suc n) zero ws h l = absurd (omega arith)
spanning-entries y (suc n) (suc m) [] h l = absurd (omega arith)
spanning-entries y (suc n) (suc m) (a ∷ []) h l = absurd (omega arith)
spanning-entries y (suc n) (suc m) (a ∷ b ∷ []) h l = absurd (omega arith)
spanning-entries y (suc n) (suc m) (a ∷ b ∷ c ∷ ws) h l =
    let z : suc m - suc n ≡ m - n = omega arith in
    let w : 3 * suc n ≡ suc (suc (suc (3 * n))) = omega arith in
    rw (z, w) (spanning-entries y n m ws (omega arith) (omega arith))

spanning-rest : (y c n : ℕ) (ws : List ℕ) → n ≡ min c (length ws / 3) → spanning y 0 (drop (3 * n) ws) ≡ spanning y c ws
spanning-rest y c n ws q =
    let l : 3 * n ≤ length ws = omega arith in
    let h : n ≤ c = omega arith in
    ⊎_elim
    (λ (f : c ≤ n). let z : c - n ≡ 0 = omega arith in sym (spanning-entries y n c ws h l ∙ rw z))
    (λ (f : n < c).
    let r : length (drop (3 * n) ws) < 3 = rw (length-drop (3 * n) ws) (omega arith) in
    spanning-short y 0 (drop (3 * n) ws) r ∙ sym (spanning-entries y n c ws h l ∙ spanning-short y (c - n) (drop (3 * n) ws) r))
    (le_or_lt c n)

-- at a band that spans the line, after one that does not, and with no band left
pub line-found : (y i : ℕ) (ws : List ℕ) → i + 3 ≤ length ws → (leb (get_or ws i 0) y && leb y (get_or ws (i + 1) 0)) ≡ true → true ≡ spanning y 0 (drop i ws)
unfolding spanning
line-found y i ws h t = rw (drop3 ws i h, t)

pub line-more : (y i n : ℕ) (ws : List ℕ) → i + 3 ≤ length ws → n ≡ min (get_or ws (i + 2) 0) ((length ws - (i + 3)) / 3)
    → (leb (get_or ws i 0) y && leb y (get_or ws (i + 1) 0)) ≡ false
    → spanning y 0 (drop (i + 3 + 3 * n) ws) ≡ spanning y 0 (drop i ws)
unfolding spanning
line-more y i n ws h q t =
    let m : n ≡ min (get_or ws (i + 2) 0) (length (drop (i + 3) ws) / 3) = rw (length-drop (i + 3) ws) q in
    rw (drop3 ws i h, t, ← drop-drop (3 * n) (i + 3) ws) (spanning-rest y (get_or ws (i + 2) 0) n (drop (i + 3) ws) m)

pub line_end : (y i : ℕ) (ws : List ℕ) → length ws - i < 3 → false ≡ spanning y 0 (drop i ws)
line_end y i ws h = sym (spanning-short y 0 (drop i ws) (rw (length-drop i ws) h))

-- bands that do not span a line say nothing on it
unspanned : (x y left : ℕ) (o : Option Look) (ws : List ℕ) → spanning y left ws ≡ false → looking x y left false o ws ≡ o
unfolding looking spanning
unspanned x y left o [] h = refl
unspanned x y left o (a ∷ []) h = refl
unspanned x y left o (a ∷ b ∷ []) h = refl
unspanned x y zero o (a ∷ b ∷ c ∷ ws) h =
    let g = or-false (leb a y && leb y b) (spanning y c ws) h in
    rw g.0 (unspanned x y c o ws g.1)
unspanned x y (suc n) o (a ∷ b ∷ c ∷ ws) h = unspanned x y n o ws h

pub look-unspanned : (x y : ℕ) (ws : List ℕ) → spans_line y ws ≡ false → look_words x y ws ≡ none
unfolding look_words spans_line
look-unspanned x y ws h = unspanned x y 0 none ws h

-- ---- Words of listed bands

words-entries : (x y : ℕ) (s : Bool) (o : Option Look) (es : List Entry) (ws : List ℕ)
    → looking x y (length es) s o (entry_words es ++ ws) ≡ looking x y 0 s (cond s (rightmost x o es) o) ws
unfolding looking entry_words rightmost
words-entries x y true o [] ws = refl
words-entries x y false o [] ws = refl
words-entries x y true o (e ∷ es) ws = words-entries x y true (pick_entry x e.column e.selectors e.alphas o) es ws
words-entries x y false o (e ∷ es) ws = words-entries x y false o es ws

words-bands : (x y : ℕ) (s : Bool) (o : Option Look) (bs : List Band) → Counted bs → looking x y 0 s o (band_words bs) ≡ last_look x y o bs
unfolding Counted band_words looking last_look
words-bands x y s o [] h = refl
words-bands x y s o (b ∷ bs) h =
    let t : Bool = leb b.first y && leb y b.last in
    rw (← h.0) (words-entries x y t o b.entries (band_words bs) ∙ words-bands x y t (cond t (rightmost x o b.entries) o) bs h.1)

-- what stored bands give is what the listed bands give, those of one payload or of several
pub look-listed : (x y : ℕ) (bs : List Band) → Counted bs → look_words x y (band_words bs) ≡ look_at x y bs
unfolding look_words look_at
look-listed x y bs h = words-bands x y false _ bs h

pub bands-counted : (u : List ℕ) (e p : ℕ) (bs : List Band) → Bands u e p bs → Counted bs
unfolding Bands Counted
bands-counted u e p [] h = tt
bands-counted u e p (b ∷ bs) h = (h.1.all, bands-counted u e (band_end b) bs h.2)

-- ---- The band in front

module _ {ws es rest : List ℕ} {a b n : ℕ} (f : IsFront ws a b n es rest) where
  pub front_room : 3 * n ≤ length es
  front_room = let l = ap length f.entries ∙ length-drop 3 ws in let c = f.count in omega arith

  pub front_less : length rest + 3 * n + 3 ≡ length ws
  front_less = let l = ap length f.after ∙ length-drop (3 + 3 * n) ws in let c = f.count in let k = f.long in omega arith

  pub front-look : (x y : ℕ) (o r : Option Look) → r ≡ band_look x y a b n o es → looking x y 0 false r rest ≡ looking x y 0 false o ws
  front-look x y o r e = rw f.after (bands-more x y 0 n o r ws f.long f.count (e ∙ rw (f.first, f.last, f.entries)))

  pub front-spans : (y : ℕ) → (leb a y && leb y b) ≡ true → true ≡ spanning y 0 ws
  front-spans y t = line-found y 0 ws f.long (rw (f.first, f.last) at t)

  pub front-other : (y : ℕ) → (leb a y && leb y b) ≡ false → spanning y 0 rest ≡ spanning y 0 ws
  front-other y t = rw f.after (line-more y 0 n ws f.long f.count (rw (f.first, f.last) at t))

-- as the code takes it apart
all_left : (k : ℕ) (ws : List ℕ) → take (length ws - k) (drop k ws) ≡ drop k ws
all_left k ws = take_all (length ws - k) (drop k ws) (rw (length-drop k ws) (omega arith))

pub front_is : (ws : List ℕ) (n : ℕ) (es rest : List ℕ) → 3 ≤ length ws → es ≡ take (length ws - 3) (drop 3 ws) → n ≡ min (get_or ws 2 0) (length es / 3)
    → rest ≡ take (length es - 3 * n) (drop (3 * n) es) → IsFront ws (get_or ws 0 0) (get_or ws 1 0) n es rest
front_is ws n es rest h e q r =
    let d : es ≡ drop 3 ws = e ∙ all_left 3 ws in
    let l = ap length d ∙ length-drop 3 ws in
    record {
      long = h;
      first = refl;
      last = refl;
      count = q ∙ ap (λ (k : ℕ). min (get_or ws 2 0) (k / 3)) l;
      entries = d;
      after = r ∙ all_left (3 * n) es ∙ ap (drop (3 * n)) d ∙ drop-drop (3 * n) 3 ws;
    }
