-- The words are answered exactly where the grammar lists bands, and are the words of the listed bands. Assumes nothing.
use Prim.Native.Nat.{ℕ, zero, suc, ◌+◌, ◌-◌, ◌*◌, ◌/◌, ◌%◌, ◌≤◌, ◌<◌}
use native.Mathlib.Numerals.{add-one}
use native.Mathlib.Omega.{arith}
use mathlib.Core.Path.{◌≡◌, refl, ap, sym, ◌∙◌, subst}
use mathlib.Core.Bool.{Bool, true, false, cond}
use mathlib.Core.Logic.{◌⊎◌, inl, inr, ⊎_elim, ◌↔◌}
use mathlib.Core.List.{List, [], ◌∷◌, ◌++◌}
use borrow.Author.Tests.{eq-eqb, ne_eqb, le-ltb, lt-ltb, le-leb, eqb-true, eqb-false, ltb-true, leb-true}
use lib.Dec.{eqb, ltb, leb}
use lib.ListN.{length, get_or, drop, take}
use lib.Seq.{slice, length-slice, take_all, drop-drop, get_or-drop, get_or-take}
use Rattle.std.specs.Prelude.{Option, Some as some, None as none}
use Rattle.outcome.specs.Outcome.{Res, ok, refuse}
use Rattle.outcome.proofs.Laws.{ok-not-refuse, ok-injective, le_or_lt}
use Rattle.grammar.specs.Bytes.{word}
use Rattle.grammar.specs.Bands.{Entry, Band, Entries, Bands, entry_words, band_words}
use Rattle.bands_model.specs.Claim.{Listing}
use Rattle.bands_model.specs.Answers.{rest_of}
use Rattle.bands_model.specs.Bands.{word_of, push3, header, head_of, entry_of, got, on_head, on_entry, bands_of}
use Rattle.bands_model.specs.declared.Header.{Header}
use Rattle.bands_model.specs.declared.Header.TheVariants as H
use Rattle.bands_model.specs.declared.EntryWords.{EntryWords}
use Rattle.bands_model.proofs.Loops.{bands-step, entries-step}

-- ---- What two words say, and an entry's column

pub record IsHeader (a b f l n : ℕ) : Type 0 where
  pub no_mark : a * 65536 + b ≡ 0x0FFFFFFF → ⊥
  pub zero_nibble : a < 4096
  pub order : a ≤ b % 4096
  pub first : f ≡ a
  pub last : l ≡ b % 4096
  pub count : n ≡ b / 4096

-- a word of an entry that was read
field : (EntryWords → ℕ) → Option EntryWords → ℕ
field f none = 0
field f (some x) = f x

header-end : (a b : ℕ) → header a b ≡ H.End → a * 65536 + b ≡ 0x0FFFFFFF
unfolding header
header-end a b q = go (eqb (a * 65536 + b) 0x0FFFFFFF) (ltb a 4096) (leb a (b % 4096)) refl q
  where
    go : (s t r : Bool) → eqb (a * 65536 + b) 0x0FFFFFFF ≡ s → cond s H.End (cond t (cond r (H.Band a (b % 4096) (b / 4096)) H.Bad) H.Bad) ≡ H.End
        → a * 65536 + b ≡ 0x0FFFFFFF
    go true t r e f = eqb-true (a * 65536 + b) 0x0FFFFFFF e
    go false true true e f = absurd (let z : ◌≡◌ {A = ℕ} 0 1 = cc in omega arith)
    go false true false e f = absurd (let z : ◌≡◌ {A = ℕ} 0 1 = cc in omega arith)
    go false false r e f = absurd (let z : ◌≡◌ {A = ℕ} 0 1 = cc in omega arith)

header-band : (a b f l n : ℕ) → header a b ≡ H.Band f l n → IsHeader a b f l n
unfolding header
header-band a b f l n q = go (eqb (a * 65536 + b) 0x0FFFFFFF) (ltb a 4096) (leb a (b % 4096)) refl refl refl q
  where
    go : (s t r : Bool) → eqb (a * 65536 + b) 0x0FFFFFFF ≡ s → ltb a 4096 ≡ t → leb a (b % 4096) ≡ r
        → cond s H.End (cond t (cond r (H.Band a (b % 4096) (b / 4096)) H.Bad) H.Bad) ≡ H.Band f l n → IsHeader a b f l n
    go true t r d e g h = absurd (let z : ◌≡◌ {A = ℕ} 0 1 = cc in omega arith)
    go false true true d e g h =
        record {
          no_mark = eqb-false (a * 65536 + b) 0x0FFFFFFF d;
          zero_nibble = ltb-true a 4096 e;
          order = leb-true a (b % 4096) g;
          first = cc;
          last = cc;
          count = cc;
        }
    go false true false d e g h = absurd (let z : ◌≡◌ {A = ℕ} 0 1 = cc in omega arith)
    go false false r d e g h = absurd (let z : ◌≡◌ {A = ℕ} 0 1 = cc in omega arith)

header-good : (a b : ℕ) → (a * 65536 + b ≡ 0x0FFFFFFF → ⊥) → a < 4096 → a ≤ b % 4096 → header a b ≡ H.Band a (b % 4096) (b / 4096)
unfolding header
header-good a b m z o = rw (ne_eqb (a * 65536 + b) 0x0FFFFFFF m, lt-ltb a 4096 z, le-leb a (b % 4096) o)

header-mark : (a b : ℕ) → a * 65536 + b ≡ 0x0FFFFFFF → header a b ≡ H.End
unfolding header
header-mark a b m = rw (eq-eqb (a * 65536 + b) 0x0FFFFFFF m)

-- three words in front, taken off again
push_ok : (x y z : ℕ) (r : Res (List ℕ)) (ws : List ℕ) → push3 x y z r ≡ ok ws → (vs : List ℕ) × (r ≡ ok vs) × (ws ≡ x ∷ y ∷ z ∷ vs)
push_ok x y z (refuse n) ws q = ok-not-refuse q
push_ok x y z (ok vs) ws q = (vs, refl, sym (ok-injective q))

entries-turn : (s : List ℕ) (n lo : ℕ) → rest_of s (suc n) lo ≡ on_entry (entry_of s lo) (λ col. rest_of (drop 6 s) n (col + 1))
entries-turn s zero lo = entries-step s 1 lo
entries-turn s (suc n) lo =
    let a : suc (suc n) ≡ 0 → ⊥ = λ q. omega arith in
    let b : suc (suc n) ≡ 1 → ⊥ = λ q. omega arith in
    let d : suc n ≡ 0 → ⊥ = λ q. omega arith in
    let m : suc (suc n) - 1 ≡ suc n = omega arith in
    rw (ne_eqb (suc (suc n)) 0 a, ne_eqb (suc n) 0 d, entries-step s (suc (suc n)) lo, ne_eqb (suc (suc n)) 1 b, m)

module _ (u : List ℕ) (e : ℕ) (k : e ≤ length u) where
  abbrev part : ℕ → List ℕ
  part p = slice p e u

  part-drop : (p j : ℕ) → drop j (part p) ≡ part (p + j)
  part-drop p j = drop-drop j p (take e u)

  part-word : (p i : ℕ) → p + i + 2 ≤ e → word_of (get_or (part p) i 0) (get_or (part p) (i + 1) 0) ≡ word u (p + i)
  unfolding word
  part-word p i h =
      let z : p + (i + 1) ≡ p + i + 1 = omega arith in
      rw (get_or-drop p (take e u) i 0, get_or-drop p (take e u) (i + 1) 0, z, get_or-take e u (p + i) 0 (omega arith), get_or-take e u (p + i + 1) 0 (omega arith))

  -- what the front of a part says, in the words of the whole
  head-none : (p : ℕ) → p ≡ e → head_of (part p) ≡ H.End
  unfolding head_of
  head-none p q = let z : length (part p) ≡ 0 = length-slice p e u k ∙ omega arith in rw (eq-eqb (length (part p)) 0 z)

  head-some : (p : ℕ) → p + 4 ≤ e → head_of (part p) ≡ header (word u p) (word u (p + 2))
  unfolding head_of
  head-some p h =
      let l : length (part p) ≡ e - p = length-slice p e u k in
      let a : length (part p) ≡ 0 → ⊥ = λ q. omega arith in
      let b : 4 ≤ length (part p) = omega arith in
      let z : p + 0 ≡ p = omega arith in
      rw (ne_eqb (length (part p)) 0 a, le-ltb (length (part p)) 4 b) ((λ i. header (part-word p 0 (omega arith) i) (part-word p 2 (omega arith) i)) ∙ rw z)

  -- a header or an end, from what was read; three bytes or fewer are neither
  head-cases : (p : ℕ) (h : Header) → p ≤ e → head_of (part p) ≡ h → ((h ≡ H.Bad → ⊥)) → (p ≡ e) ⊎ ((p + 4 ≤ e) × (header (word u p) (word u (p + 2)) ≡ h))
  unfolding head_of
  head-cases p h b q n =
      ⊎_elim (λ f. inr (f, sym (head-some p f) ∙ q))
      (λ f. ⊎_elim (λ g. inl (omega arith)) (λ g. absurd (n (sym q ∙ short g f))) (le_or_lt e p))
      (le_or_lt (p + 4) e)
    where
      short : p < e → e < p + 4 → head_of (part p) ≡ H.Bad
      short g f =
          let l : length (part p) ≡ e - p = length-slice p e u k in
          let a : length (part p) ≡ 0 → ⊥ = λ q. omega arith in
          let c : length (part p) < 4 = omega arith in
          rw (ne_eqb (length (part p)) 0 a, lt-ltb (length (part p)) 4 c)

  -- an entry, both ways
  entry-some : (p lo : ℕ) → p + 6 ≤ e → lo ≤ word u p → entry_of (part p) lo ≡ got (word u p) (word u (p + 2)) (word u (p + 4))
  unfolding entry_of
  entry-some p lo h b =
      let l : length (part p) ≡ e - p = length-slice p e u k in
      let a : 6 ≤ length (part p) = omega arith in
      let z : p + 0 ≡ p = omega arith in
      let w : word_of (get_or (part p) 0 0) (get_or (part p) 1 0) ≡ word u p = part-word p 0 (omega arith) ∙ rw z in
      let d : lo ≤ word_of (get_or (part p) 0 0) (get_or (part p) 1 0) = rw w b in
      rw (le-ltb (length (part p)) 6 a, le-ltb (word_of (get_or (part p) 0 0) (get_or (part p) 1 0)) lo d)
      (λ i. got (w i) (part-word p 2 (omega arith) i) (part-word p 4 (omega arith) i))

  entry-short : (p lo : ℕ) → p ≤ e → e < p + 6 → entry_of (part p) lo ≡ none
  unfolding entry_of
  entry-short p lo b h =
      let l : length (part p) ≡ e - p = length-slice p e u k in
      let a : length (part p) < 6 = omega arith in
      rw (lt-ltb (length (part p)) 6 a)

  entry-low : (p lo : ℕ) → p + 6 ≤ e → word u p < lo → entry_of (part p) lo ≡ none
  unfolding entry_of
  entry-low p lo h b =
      let l : length (part p) ≡ e - p = length-slice p e u k in
      let a : 6 ≤ length (part p) = omega arith in
      let z : p + 0 ≡ p = omega arith in
      let w : word_of (get_or (part p) 0 0) (get_or (part p) 1 0) ≡ word u p = part-word p 0 (omega arith) ∙ rw z in
      let d : word_of (get_or (part p) 0 0) (get_or (part p) 1 0) < lo = rw w b in
      rw (le-ltb (length (part p)) 6 a, lt-ltb (word_of (get_or (part p) 0 0) (get_or (part p) 1 0)) lo d)

  record IsRead (p lo c s a : ℕ) : Type 0 where
    within : p + 6 ≤ e
    rising : lo ≤ word u p
    column : c ≡ word u p
    selectors : s ≡ word u (p + 2)
    alphas : a ≡ word u (p + 4)

  entry-got : (p lo c s a : ℕ) → p ≤ e → entry_of (part p) lo ≡ got c s a → IsRead p lo c s a
  unfolding field word
  entry-got p lo c s a b q =
      ⊎_elim
      (λ h.
      ⊎_elim
      (λ g. let f : got (word u p) (word u (p + 2)) (word u (p + 4)) ≡ got c s a = sym (entry-some p lo h g) ∙ q in
      record { within = h; rising = g; column = sym (ap (field (λ x. x.column)) f); selectors = sym (ap (field (λ x. x.selectors)) f); alphas = sym (ap (field (λ x. x.alphas)) f) })
      (λ g. absurd (let z = sym (entry-low p lo h g) ∙ q in let y : ◌≡◌ {A = ℕ} 0 1 = cc in omega arith))
      (le_or_lt lo (word u p)))
      (λ h. absurd (let z = sym (entry-short p lo b h) ∙ q in let y : ◌≡◌ {A = ℕ} 0 1 = cc in omega arith))
      (le_or_lt (p + 6) e)

  -- ---- What is listed is answered

  entries-complete : (xs : List Entry) (n p lo : ℕ) (vs : List ℕ) → length xs ≡ n → Entries u e p lo xs → bands_of (part (p + 6 * n)) ≡ ok vs
      → rest_of (part p) n lo ≡ ok (entry_words xs ++ vs)
  unfolding Entries entry_words
  entries-complete [] zero p lo vs l h q = let z : p + 6 * 0 ≡ p = omega arith in rw z at q
  entries-complete [] (suc n) p lo vs l h q = absurd (omega (arith, l))
  entries-complete (x ∷ xs) zero p lo vs l h q = absurd (omega (arith, l))
  entries-complete (x ∷ xs) (suc n) p lo vs l h q =
      let i = h.1 in
      let c : x.column ≡ word u p = i.column_is ∙ (λ t. word u (h.0 t)) in
      let s : x.selectors ≡ word u (p + 2) = i.selectors_are ∙ (λ t. word u (h.0 t + 2)) in
      let a : x.alphas ≡ word u (p + 4) = i.alphas_are ∙ (λ t. word u (h.0 t + 4)) in
      let w : p + 6 ≤ e = omega (arith, i.within, h.0) in
      let b : lo ≤ word u p = omega (arith, i.rising, c) in
      let z : p + 6 + 6 * n ≡ p + 6 * suc n = omega arith in
      let r = entries-complete xs n (p + 6) (suc x.column) vs (omega (arith, l)) h.2 (rw z q) in
      entries-turn (part p) n lo
      ∙ rw (entry-some p lo w b, part-drop p 6, add-one, ← c) (rw r (λ t. ok (x.column ∷ sym s t ∷ sym a t ∷ entry_words xs ++ vs)))

  pub bands-complete : (bs : List Band) (p : ℕ) → Bands u e p bs → bands_of (part p) ≡ ok (band_words bs)
  unfolding Bands band_words
  bands-complete [] p h =
      bands-step (part p)
      ∙ ⊎_elim (λ q. rw (head-none p q)) (λ m. rw (head-some p m.within, header-mark (word u p) (word u (p + 2)) m.mark)) h
  bands-complete (b ∷ bs) p h =
      let i = h.1 in
      let w : p + 4 ≤ e = omega (arith, i.within, h.0) in
      let m : word u p * 65536 + word u (p + 2) ≡ 0x0FFFFFFF → ⊥ = λ q. i.no_mark (record { within = i.within; mark = rw h.0 q }) in
      let z : word u p < 4096 = rw (← h.0) i.zero_nibble in
      let f : b.first ≡ word u p = i.first_is ∙ (λ t. word u (h.0 t)) in
      let l : b.last ≡ word u (p + 2) % 4096 = i.last_is ∙ (λ t. word u (h.0 t + 2) % 4096) in
      let n : b.count ≡ word u (p + 2) / 4096 = i.count_is ∙ (λ t. word u (h.0 t + 2) / 4096) in
      let o : word u p ≤ word u (p + 2) % 4096 = omega (arith, i.order, f, l) in
      let r : bands_of (part (p + 4 + 6 * b.count)) ≡ ok (band_words bs) = bands-complete bs (p + 4 + 6 * b.count) (rw h.0 at h.2) in
      let g = entries-complete b.entries b.count (p + 4) 0 (band_words bs) i.all (rw h.0 at i.list) r in
      bands-step (part p)
      ∙ rw (head-some p w, header-good (word u p) (word u (p + 2)) m z o, part-drop p 4, ← f, ← l, ← n, g)

  -- ---- What is answered is listed

  record Entered (p n lo : ℕ) (ws : List ℕ) : Type 0 where
    xs : List Entry
    rest : List ℕ
    all : length xs ≡ n
    list : Entries u e p lo xs
    words : ws ≡ entry_words xs ++ rest
    found : Listing u e (p + 6 * n) rest

  enter : (n p lo : ℕ) (ws : List ℕ) → p ≤ e → ((q : ℕ) (vs : List ℕ) → p ≤ q → q ≤ e → bands_of (part q) ≡ ok vs → Listing u e q vs) → rest_of (part p) n lo ≡ ok ws → Entered p n lo ws
  unfolding Entries entry_words
  enter zero p lo ws b rec q =
      let z : p ≡ p + 6 * 0 = omega arith in
      record { xs = []; rest = ws; all = refl; list = tt; words = refl; found = subst (λ (x : ℕ). Listing u e x ws) z (rec p ws (omega arith) b q) }
  enter (suc n) p lo ws b rec q =
      go (λ c vs w g. enter n (p + 6) (c + 1) vs w (λ x ys l. rec x ys (omega arith)) g) (entry_of (part p) lo) refl (sym (entries-turn (part p) n lo) ∙ q)
    where
      go : ((c : ℕ) (vs : List ℕ) → p + 6 ≤ e → rest_of (part (p + 6)) n (c + 1) ≡ ok vs → Entered (p + 6) n (c + 1) vs)
          → (r : Option EntryWords) → entry_of (part p) lo ≡ r → on_entry r (λ col. rest_of (drop 6 (part p)) n (col + 1)) ≡ ok ws → Entered p (suc n) lo ws
      go ih none f g = ok-not-refuse g
      go ih (some r) f g =
          let i = entry-got p lo r.column r.selectors r.alphas b f in
          let v = push_ok r.column r.selectors r.alphas (rest_of (drop 6 (part p)) n (r.column + 1)) ws g in
          let w : rest_of (part (p + 6)) n (r.column + 1) ≡ ok v.0 = sym (ap (λ (l : List ℕ). rest_of l n (r.column + 1)) (part-drop p 6)) ∙ v.1 in
          let t = ih r.column v.0 i.within w in
          let z : p + 6 + 6 * n ≡ p + 6 * suc n = omega arith in
          record {
            xs = record { place = p; column = r.column; selectors = r.selectors; alphas = r.alphas } ∷ t.xs;
            rest = t.rest;
            all = ap suc t.all;
            list = (
              refl,
              record { within = i.within; column_is = i.column; selectors_are = i.selectors; alphas_are = i.alphas; rising = rw i.column i.rising },
              subst (λ (x : ℕ). Entries u e (p + 6) x t.xs) (add-one r.column) t.list,
            );
            words = v.2 ∙ ap (λ (l : List ℕ). r.column ∷ r.selectors ∷ r.alphas ∷ l) t.words;
            found = subst (λ (x : ℕ). Listing u e x t.rest) z t.found;
          }

  -- f turns are enough where fewer than f bytes are left
  bands-sound : (f p : ℕ) (ws : List ℕ) → p ≤ e → e - p < f → bands_of (part p) ≡ ok ws → Listing u e p ws
  unfolding Bands band_words
  bands-sound zero p ws b l q = absurd (omega arith)
  bands-sound (suc f) p ws b l q =
      go (λ x vs c d g. bands-sound f x vs c d g) (head_of (part p)) refl (sym (bands-step (part p)) ∙ q)
    where
      go : ((x : ℕ) (vs : List ℕ) → x ≤ e → e - x < f → bands_of (part x) ≡ ok vs → Listing u e x vs)
          → (h : Header) → head_of (part p) ≡ h → on_head h (λ n. rest_of (drop 4 (part p)) n 0) ≡ ok ws → Listing u e p ws
      go ih H.Bad r g = ok-not-refuse g
      go ih H.End r g =
          let c = head-cases p H.End b r (λ z. let y : ◌≡◌ {A = ℕ} 0 1 = cc in omega arith) in
          record {
            bands = [];
            is = ⊎_elim (λ d. inl d) (λ d. inr (record { within = d.0; mark = header-end (word u p) (word u (p + 2)) d.1 })) c;
            words = sym (ok-injective g);
          }
      go ih (H.Band x y n) r g =
          let c = head-cases p (H.Band x y n) b r (λ z. let y : ◌≡◌ {A = ℕ} 0 1 = cc in omega arith) in
          ⊎_elim
          (λ d. absurd (let z = sym (head-none p d) ∙ r in let y : ◌≡◌ {A = ℕ} 0 1 = cc in omega arith))
          (λ d.
          let i = header-band (word u p) (word u (p + 2)) x y n d.1 in
          let v = push_ok x y n (rest_of (drop 4 (part p)) n 0) ws g in
          let w : rest_of (part (p + 4)) n 0 ≡ ok v.0 = sym (ap (λ (l : List ℕ). rest_of l n 0) (part-drop p 4)) ∙ v.1 in
          let t = enter n (p + 4) 0 v.0 d.0 (λ a vs m o h. ih a vs o (omega arith) h) w in
          record {
            bands = record { place = p; first = x; last = y; count = n; entries = t.xs } ∷ t.found.bands;
            is = (
              refl,
              record {
                within = d.0;
                no_mark = λ m. i.no_mark m.mark;
                zero_nibble = i.zero_nibble;
                first_is = i.first;
                count_is = i.count;
                last_is = i.last;
                order = rw (i.first, i.last) i.order;
                all = t.all;
                list = t.list;
              },
              t.found.is,
            );
            words = v.2 ∙ ap (λ (l : List ℕ). x ∷ y ∷ n ∷ l) (t.words ∙ ap (λ (l : List ℕ). entry_words t.xs ++ l) t.found.words);
          })
          c

-- the words answered are those of bands that the grammar lists, and where it lists bands these are the words
pub bands-iff : (u : List ℕ) (e p : ℕ) (ws : List ℕ) → e ≤ length u → p ≤ e → (bands_of (slice p e u) ≡ ok ws) ↔ Listing u e p ws
bands-iff u e p ws k b = (
  λ q. bands-sound u e k (suc (e - p)) p ws b (omega arith) q,
  λ l. bands-complete u e k l.bands p l.is ∙ ap ok (sym l.words),
)

-- a whole payload
whole : (s : List ℕ) → slice 0 (length s) s ≡ s
whole s = take_all (length s) s (omega arith)

pub listed-words : (s vs : List ℕ) → bands_of s ≡ ok vs → Listing s (length s) 0 vs
listed-words s vs q = (bands-iff s (length s) 0 vs (omega arith) (omega arith)).0 (ap bands_of (whole s) ∙ q)

pub words-listed : (s vs : List ℕ) → Listing s (length s) 0 vs → bands_of s ≡ ok vs
words-listed s vs l = sym (ap bands_of (whole s)) ∙ (bands-iff s (length s) 0 vs (omega arith) (omega arith)).1 l
