-- Laws of the band list's definitions: a turn of reading and a turn of storing. Assumes nothing.
use mathlib.Core.Path.{◌≡◌, refl, ap, sym, subst, ◌∙◌}
use mathlib.Core.List.{List, [], ◌∷◌, ◌++◌, append_assoc}
use mathlib.Core.Bool.{Bool, true, false, cond}
use Rattle.std.specs.Prelude.{Option, None as none}
use Rattle.outcome.specs.Outcome.{Res, ok, refuse, IsOk, no_band_list}
use Prim.Native.Nat.{ℕ, ◌+◌, ◌-◌, ◌<◌, ◌≤◌}
use native.Mathlib.Numerals.{add-one, add-two, add-three}
use native.Mathlib.Omega.{arith}
use borrow.Author.Tests.{eq-eqb, ne_eqb, le-ltb, ltb-false}
use lib.Dec.{ltb, eqb}
use lib.ListN.{length, get_or, drop, take, set, length-drop, length-append}
use Rattle.outcome.proofs.Laws.{sets-append}
use lib.Seq.{sets, take_all, drop-drop, length-sets}
use Rattle.grammar.specs.Bands.{Band, entry_words, band_words}
use Rattle.bands_model.specs.Bands.{word_of, push3, header, head_of, entry_of, got, on_head, on_entry, bands_of, entries_of}
use Rattle.bands_model.specs.Answers.{pushes, rest_of, last_of, Part, Goes, Ahead, ListRead}
use Rattle.bands_model.specs.declared.Stop.{Stop}
use Rattle.bands_model.specs.declared.Stop.TheVariants as stop
use Rattle.bands_model.specs.declared.Header.{Header}
use Rattle.bands_model.specs.declared.Header.TheVariants as H
use Rattle.bands_model.specs.declared.EntryWords.{EntryWords}

-- the rest after k bytes, as a part of a slice has it
pub take_rest : (k : ℕ) (s : List ℕ) → take (length s - k) (drop k s) ≡ drop k s
take_rest k s =
    let l : length (drop k s) ≤ length s - k = rw (length-drop k s) (omega arith) in
    take_all (length s - k) (drop k s) l

head-long : (a b c d : ℕ) (s : List ℕ) → head_of (a ∷ b ∷ c ∷ d ∷ s) ≡ header (word_of a b) (word_of c d)
unfolding head_of
head-long a b c d s =
    let l : 4 ≤ length (a ∷ b ∷ c ∷ d ∷ s) = omega arith in
    simp (ne_eqb (length (a ∷ b ∷ c ∷ d ∷ s)) 0 (λ e. omega arith), le-ltb (length (a ∷ b ∷ c ∷ d ∷ s)) 4 l)

-- four bytes or more: what their words say
pub head-words : (s : List ℕ) (h : Header) (a b : ℕ) → (length s ≡ 0 → ⊥) → 4 ≤ length s → a ≡ word_of (get_or s 0 0) (get_or s 1 0)
    → b ≡ word_of (get_or s 2 0) (get_or s 3 0) → h ≡ header a b → h ≡ head_of s
unfolding head_of
head-words s h a b n l p q e = rw (ne_eqb (length s) 0 n, le-ltb (length s) 4 l, ← p, ← q) e

-- a list's step by what stands at its front
pub bands-step : (s : List ℕ) → bands_of s ≡ on_head (head_of s) (λ n. cond (eqb n 0) (bands_of (drop 4 s)) (entries_of (drop 4 s) n 0))
unfolding bands_of entries_of head_of
bands-step [] = refl
bands-step (a ∷ []) = refl
bands-step (a ∷ b ∷ []) = refl
bands-step (a ∷ b ∷ c ∷ []) = refl
bands-step (a ∷ b ∷ c ∷ d ∷ s) = ap (λ (h : Header). on_head h (λ n. cond (eqb n 0) (bands_of s) (entries_of s n 0))) (sym (head-long a b c d s))

pub entries-step : (s : List ℕ) (n lo : ℕ) → entries_of s n lo ≡ on_entry (entry_of s lo) (λ col. cond (eqb n 1) (bands_of (drop 6 s)) (entries_of (drop 6 s) (n - 1) (col + 1)))
unfolding bands_of entries_of entry_of
entries-step [] n lo = refl
entries-step (a ∷ []) n lo = refl
entries-step (a ∷ b ∷ []) n lo = refl
entries-step (a ∷ b ∷ c ∷ []) n lo = refl
entries-step (a ∷ b ∷ c ∷ d ∷ []) n lo = refl
entries-step (a ∷ b ∷ c ∷ d ∷ e ∷ []) n lo = refl
entries-step (a ∷ b ∷ c ∷ d ∷ e ∷ f ∷ s) n lo = refl

-- what a header or an entry needs is there
pub head-room : (s : List ℕ) (f l n : ℕ) → head_of s ≡ H.Band f l n → 4 ≤ length s
unfolding head_of
head-room s f l n e = go (eqb (length s) 0) (ltb (length s) 4) refl _ e
  where
    go : (t u : Bool) → ltb (length s) 4 ≡ u → (h : Header) → cond t H.End (cond u H.Bad h) ≡ H.Band f l n → 4 ≤ length s
    go true u q h e = let z : ◌≡◌ {A = ℕ} 0 1 = cc in omega arith
    go false true q h e = let z : ◌≡◌ {A = ℕ} 0 1 = cc in omega arith
    go false false q h e = ltb-false (length s) 4 q

pub entry-room : (s : List ℕ) (lo c x a : ℕ) → entry_of s lo ≡ got c x a → 6 ≤ length s
unfolding entry_of
entry-room s lo c x a e = go (ltb (length s) 6) refl _ e
  where
    go : (u : Bool) → ltb (length s) 6 ≡ u → (r : Option EntryWords) → cond u none r ≡ got c x a → 6 ≤ length s
    go true q r e = let z : ◌≡◌ {A = ℕ} 0 1 = cc in omega arith
    go false q r e = ltb-false (length s) 6 q

-- three stores, and then the rest's
pub sets3 : (l : List ℕ) (i x y z : ℕ) (ws : List ℕ) → sets (set (set (set l i x) (i + 1) y) (i + 2) z) (i + 3) ws ≡ sets l i (x ∷ y ∷ z ∷ ws)
sets3 l i x y z ws = simp (add-one, add-two, add-three)

-- one step of the list, by what the reader of its front gives; the rest is a part of the slice
module _ (s : List ℕ) where
  pub band_end_lem : head_of s ≡ H.End → bands_of s ≡ ok []
  band_end_lem e = rw (bands-step s, e)

  pub band-bad : head_of s ≡ H.Bad → bands_of s ≡ refuse no_band_list
  band-bad e = rw (bands-step s, e)

  pub band-none : (f l k : ℕ) → head_of s ≡ H.Band f l k → k ≡ 0 → bands_of s ≡ push3 f l k (bands_of (take (length s - 4) (drop 4 s)))
  band-none f l k e z = rw (take_rest 4 s, bands-step s, e, eq-eqb k 0 z)

  pub band-some : (f l k : ℕ) → head_of s ≡ H.Band f l k → (k ≡ 0 → ⊥) → bands_of s ≡ push3 f l k (entries_of (take (length s - 4) (drop 4 s)) k 0)
  band-some f l k e z = rw (take_rest 4 s, bands-step s, e, ne_eqb k 0 z)

  pub entry-bad : (n lo : ℕ) → entry_of s lo ≡ none → entries_of s n lo ≡ refuse no_band_list
  entry-bad n lo e = rw (entries-step s n lo, e)

  pub entry-last : (n lo c x a : ℕ) → entry_of s lo ≡ got c x a → n ≡ 1 → entries_of s n lo ≡ push3 c x a (bands_of (take (length s - 6) (drop 6 s)))
  entry-last n lo c x a e z = rw (take_rest 6 s, entries-step s n lo, e, eq-eqb n 1 z)

  pub entry_more : (n lo c x a : ℕ) → entry_of s lo ≡ got c x a → (n ≡ 1 → ⊥) → entries_of s n lo ≡ push3 c x a (entries_of (take (length s - 6) (drop 6 s)) (n - 1) (c + 1))
  entry_more n lo c x a e z = rw (take_rest 6 s, entries-step s n lo, e, ne_eqb n 1 z)

-- ---- Where the readers stop

pushes-three : (x y z : ℕ) (ws : List ℕ) (h : Res (List ℕ)) → push3 x y z (pushes ws h) ≡ pushes (x ∷ y ∷ z ∷ ws) h
pushes-three x y z ws (refuse k) = refl
pushes-three x y z ws (ok v) = refl

part_step : (g g' h : Res (List ℕ)) (x y z at to : ℕ) (v v' : List ℕ) → g ≡ push3 x y z g'
    → Part g' h (at + 3) to (set (set (set v at x) (at + 1) y) (at + 2) z) v' → Part g h at to v v'
part_step g g' h x y z at to v v' e p =
    let ws = p.ws in
    let l : to ≡ at + 3 + length ws = p.place in
    record { ws = x ∷ y ∷ z ∷ ws; reads = e ∙ ap (push3 x y z) p.reads ∙ pushes-three x y z ws h; place = omega arith; words = p.words ∙ sets3 v at x y z ws }

last-drop : (k n : ℕ) (s : List ℕ) → n + k ≤ length s → last_of n (drop k s) ≡ last_of n s
last-drop k n s l =
    let e : k + (length (drop k s) - n) ≡ length s - n = rw (length-drop k s) (omega arith) in
    drop-drop (length (drop k s) - n) k s ∙ ap (λ (j : ℕ). drop j s) e

-- three words of k bytes, stored, and then what is read from the rest of them
pub goes_step : (s : List ℕ) (k d : ℕ) (g g' : Res (List ℕ)) (x y z at : ℕ) (v w v' : List ℕ) (r : Stop) → k ≤ length s → 3 < k → (d ≡ 0 → ⊥)
    → g ≡ push3 x y z g' → w ≡ set (set (set v at x) (at + 1) y) (at + 2) z → Goes (take (length s - k) (drop k s)) (d - 1) g' (at + 3) w r v'
    → Goes s d g at v r v'
unfolding Goes
goes_step s k d g g' x y z at v w v' r l m p e f q = go r (subst (λ (t : List ℕ). Goes t (d - 1) g' (at + 3) w r v') (take_rest k s) q)
  where
    one : {h : Res (List ℕ)} {to : ℕ} → Part g' h (at + 3) to w v' → Part g h at to v v'
    one {h} {to} q = part_step g g' h x y z at to v v' e (subst (λ (t : List ℕ). Part g' h (at + 3) to t v') f q)

    go : (r : Stop) → Goes (drop k s) (d - 1) g' (at + 3) w r v' → Goes s d g at v r v'
    go (stop.End to) q = one q
    go stop.Bad q = e ∙ ap (push3 x y z) q
    go (stop.More rest left lo to) q =
        let a : rest + (d - 1) ≤ length s - k = rw (← length-drop k s) q.1 in
        let b : to + rest ≤ at + 3 + (length s - k) = rw (← length-drop k s) q.2 in
        (one (subst (λ (t : List ℕ). Part g' (rest_of t left lo) (at + 3) to w v') (last-drop k rest s (omega arith)) q.0), omega arith, omega arith)

-- nothing is read where no call is left
pub goes_none : (s : List ℕ) (d left lo at : ℕ) (g : Res (List ℕ)) (v : List ℕ) → d ≡ 0 → g ≡ rest_of s left lo → Goes s d g at v (stop.More (length s) left lo at) v
unfolding Goes
goes_none s d left lo at g v n e =
    let z : length s - length s ≡ 0 = omega arith in
    let f : last_of (length s) s ≡ s = ap (λ (j : ℕ). drop j s) z in
    (record { ws = []; reads = e ∙ pushes-none (rest_of s left lo) ∙ ap (λ (t : List ℕ). pushes [] (rest_of t left lo)) (sym f); place = omega arith; words = refl }, omega arith, omega arith)
  where
    pushes-none : (g : Res (List ℕ)) → g ≡ pushes [] g
    pushes-none (refuse k) = refl
    pushes-none (ok ws) = refl

pub rest-bands : (s : List ℕ) (left lo : ℕ) → left ≡ 0 → bands_of s ≡ rest_of s left lo
rest-bands s left lo e = rw (eq-eqb left 0 e)

pub rest-entries : (s : List ℕ) (left lo : ℕ) → (left ≡ 0 → ⊥) → entries_of s left lo ≡ rest_of s left lo
rest-entries s left lo n = rw (ne_eqb left 0 n)

pub goes_end : (s : List ℕ) (d at : ℕ) (g : Res (List ℕ)) (v : List ℕ) → g ≡ ok [] → Goes s d g at v (stop.End at) v
unfolding Goes
goes_end s d at g v e = record { ws = []; reads = e; place = omega arith; words = refl }

pub goes_bad : (s : List ℕ) (d at : ℕ) (g : Res (List ℕ)) (v v' : List ℕ) → g ≡ refuse no_band_list → Goes s d g at v stop.Bad v'
unfolding Goes
goes_bad s d at g v v' e = e

pub goes_same : (s : List ℕ) (d at : ℕ) (g g' : Res (List ℕ)) (v v' : List ℕ) (r : Stop) → g ≡ g' → Goes s d g at v r v' → Goes s d g' at v r v'
goes_same s d at g g' v v' r e q = subst (λ (h : Res (List ℕ)). Goes s d h at v r v') e q

part_join : (g h k : Res (List ℕ)) (a b c : ℕ) (v w z : List ℕ) → Part g h a b v w → Part h k b c w z → Part g k a c v z
part_join g h k a b c v w z p q =
    let l : b ≡ a + length p.ws = p.place in
    let m : c ≡ b + length q.ws = q.place in
    record {
      ws = p.ws ++ q.ws;
      reads = p.reads ∙ ap (pushes p.ws) q.reads ∙ two k;
      place = rw (length-append p.ws q.ws) (omega arith);
      words = q.words ∙ ap (λ (t : List ℕ). sets t b q.ws) p.words ∙ rw l (sym (sets-append v a p.ws q.ws));
    }
  where
    two : (k : Res (List ℕ)) → pushes p.ws (pushes q.ws k) ≡ pushes (p.ws ++ q.ws) k
    two (refuse n) = refl
    two (ok ws) = ap ok (sym (append_assoc p.ws q.ws ws))

-- ---- Read ahead in a loop

ahead-starts : (s : List ℕ) (g h : Res (List ℕ)) (at : ℕ) (v : List ℕ) → g ≡ h → Ahead s g h at v 0 at v
ahead-starts s g h at v e = record { there = omega arith; room = omega arith; part = record { ws = []; reads = e ∙ none h; place = omega arith; words = refl } }
  where
    none : (g : Res (List ℕ)) → g ≡ pushes [] g
    none (refuse k) = refl
    none (ok ws) = refl

pub ahead_long : (s : List ℕ) (g h : Res (List ℕ)) (at : ℕ) (v : List ℕ) (i to : ℕ) (w : List ℕ) → Ahead s g h at v i to w → length w ≡ length v
ahead_long s g h at v i to w a = rw (a.part.words, length-sets)

-- three words of k bytes more
ahead_step : (s : List ℕ) (k : ℕ) (g h h' : Res (List ℕ)) (x y z from : ℕ) (v : List ℕ) (i at : ℕ) (w w' : List ℕ) → 3 < k → i + k ≤ length s
    → h ≡ push3 x y z h' → w' ≡ set (set (set w at x) (at + 1) y) (at + 2) z → Ahead s g h from v i at w → Ahead s g h' from v (i + k) (at + 3) w'
ahead_step s k g h h' x y z from v i at w w' m l e f a =
    let r : at + length s ≤ from + length s + i = a.room in
    record { there = l; room = omega arith; part = part_join g h h' from at (at + 3) v w w' a.part one }
  where
    three : (g : Res (List ℕ)) → push3 x y z g ≡ pushes (x ∷ y ∷ z ∷ []) g
    three (refuse n) = refl
    three (ok ws) = refl

    one : Part h h' at (at + 3) w w'
    one = record { ws = x ∷ y ∷ z ∷ []; reads = e ∙ three h'; place = omega arith; words = f ∙ sets3 w at x y z [] }

after-length : (s : List ℕ) (i : ℕ) → length (take (length s - i) (drop i s)) ≡ length s - i
after-length s i = rw (take_rest i s, length-drop i s)

module _ (s : List ℕ) (from : ℕ) (v : List ℕ) where
  pub bare-starts : Ahead s (bands_of s) (bands_of (drop 0 s)) from v 0 from v
  bare-starts = ahead-starts s (bands_of s) (bands_of s) from v refl

  -- a band without entries
  pub bare-room : (i f l n : ℕ) → head_of (take (length s - i) (drop i s)) ≡ H.Band f l n → i ≤ length s → i + 4 ≤ length s
  bare-room i f l n e h = omega (arith, head-room (take (length s - i) (drop i s)) f l n e, after-length s i)

  pub bare_step : (i at : ℕ) (w w' : List ℕ) (f l n : ℕ) → head_of (take (length s - i) (drop i s)) ≡ H.Band f l n → n ≡ 0
      → w' ≡ set (set (set w at f) (at + 1) l) (at + 2) n → Ahead s (bands_of s) (bands_of (drop i s)) from v i at w → Ahead s (bands_of s) (bands_of (drop (i + 4) s)) from v (i + 4) (at + 3) w'
  bare_step i at w w' f l n e z q a =
      let b : bands_of (drop i s) ≡ push3 f l n (bands_of (drop 4 (drop i s))) = rw (bands-step (drop i s), rw (take_rest i s) at e, eq-eqb n 0 z) in
      ahead_step s 4 (bands_of s) (bands_of (drop i s)) (bands_of (drop (i + 4) s)) f l n from v i at w w' (omega arith) (bare-room i f l n e a.there) (b ∙ ap (λ (t : List ℕ). push3 f l n (bands_of t)) (drop-drop 4 i s)) q a

  -- an entry that is not its band's last
  pub inner-starts : (n lo : ℕ) → Ahead s (entries_of s n lo) (entries_of (drop 0 s) n lo) from v 0 from v
  inner-starts n lo = ahead-starts s (entries_of s n lo) (entries_of s n lo) from v refl

  pub inner_room : (i lo c x a : ℕ) → entry_of (take (length s - i) (drop i s)) lo ≡ got c x a → i ≤ length s → i + 6 ≤ length s
  inner_room i lo c x a e h = omega (arith, entry-room (take (length s - i) (drop i s)) lo c x a e, after-length s i)

  pub inner_step : (m k : ℕ) (i at n lo : ℕ) (w w' : List ℕ) (c x a : ℕ) → entry_of (take (length s - i) (drop i s)) lo ≡ got c x a → 1 < n
      → w' ≡ set (set (set w at c) (at + 1) x) (at + 2) a → Ahead s (entries_of s m k) (entries_of (drop i s) n lo) from v i at w
      → Ahead s (entries_of s m k) (entries_of (drop (i + 6) s) (n - 1) (c + 1)) from v (i + 6) (at + 3) w'
  inner_step m k i at n lo w w' c x a e z q h =
      let b : entries_of (drop i s) n lo ≡ push3 c x a (entries_of (drop 6 (drop i s)) (n - 1) (c + 1)) = rw (entries-step (drop i s) n lo, rw (take_rest i s) at e, ne_eqb n 1 (λ f. omega arith)) in
      ahead_step s 6 (entries_of s m k) (entries_of (drop i s) n lo) (entries_of (drop (i + 6) s) (n - 1) (c + 1)) c x a from v i at w w' (omega arith) (inner_room i lo c x a e h.there) (b ∙ ap (λ (t : List ℕ). push3 c x a (entries_of t (n - 1) (c + 1))) (drop-drop 6 i s)) q h

-- what f reads from there on
pub goes_after : (s : List ℕ) (i d : ℕ) (g : Res (List ℕ)) (f : List ℕ → Res (List ℕ)) (at to : ℕ) (v w v' : List ℕ) (r : Stop) → Ahead s g (f (drop i s)) at v i to w
    → Goes (take (length s - i) (drop i s)) d (f (take (length s - i) (drop i s))) to w r v' → Goes s d g at v r v'
unfolding Goes
goes_after s i d g f at to v w v' r a q = go r (subst (λ (t : List ℕ). Goes t d (f t) to w r v') (take_rest i s) q)
  where
    there : i ≤ length s
    there = a.there

    room : to + length s ≤ at + length s + i
    room = a.room

    go : (r : Stop) → Goes (drop i s) d (f (drop i s)) to w r v' → Goes s d g at v r v'
    go (stop.End n) q = part_join g (f (drop i s)) (ok []) at to n v w v' a.part q
    go stop.Bad q = a.part.reads ∙ ap (pushes a.part.ws) q
    go (stop.More rest left lo n) q =
        let b : rest + d ≤ length s - i = rw (← length-drop i s) q.1 in
        let c : n + rest ≤ to + (length s - i) = rw (← length-drop i s) q.2 in
        (part_join g (f (drop i s)) (rest_of (last_of rest s) left lo) at to n v w v' a.part (subst (λ (t : List ℕ). Part (f (drop i s)) (rest_of t left lo) to n w v') (last-drop i rest s (omega arith)) q.0), omega arith, omega arith)

-- the readers have read g up to the last n bytes of s, and go on from there
pub record Reading (s : List ℕ) (from : ℕ) (v : List ℕ) (n left lo at : ℕ) (v' : List ℕ) : Type 0 where
  pub there : n ≤ length s
  pub room : at + n ≤ from + length s
  pub part : Part (bands_of s) (rest_of (last_of n s) left lo) from at v v'

module _ (s : List ℕ) (from : ℕ) (v : List ℕ) where
  pub reading-starts : Reading s from v (length s) 0 0 from v
  unfolding Goes
  reading-starts =
      let q = goes_none s 0 0 0 from (bands_of s) v refl refl in
      record { there = omega arith; room = omega arith; part = q.0 }

  pub reading-long : (n left lo at : ℕ) (w : List ℕ) → Reading s from v n left lo at w → length w ≡ length v
  reading-long n left lo at w i = rw (i.part.words, length-sets)

  module _ (n left lo at : ℕ) (w v' : List ℕ) (i : Reading s from v n left lo at w) where
    abbrev onward : List ℕ
    onward = take (length s - (length s - n)) (drop (length s - n) s)

    pub onward-is : onward ≡ last_of n s
    onward-is = take_rest (length s - n) s

    pub onward-length : length onward ≡ n
    onward-length = rw (onward-is, length-drop (length s - n) s) (let l = i.there in omega arith)

    module _ (d : ℕ) (r : Stop) (q : Goes onward d (rest_of onward left lo) at w r v') where
      told : (r' : Stop) → r ≡ r' → Goes onward d (rest_of onward left lo) at w r' v'
      told r' e = subst (λ (t : Stop). Goes onward d (rest_of onward left lo) at w t v') e q

      pub reading-ends : (to : ℕ) → r ≡ stop.End to → Part (bands_of s) (ok []) from to v v'
      unfolding Goes
      reading-ends to e = part_join (bands_of s) (rest_of (last_of n s) left lo) (ok []) from at to v w v' i.part (subst (λ (t : List ℕ). Part (rest_of t left lo) (ok []) at to w v') onward-is (told (stop.End to) e))

      pub reading-fails : r ≡ stop.Bad → bands_of s ≡ refuse no_band_list
      unfolding Goes
      reading-fails e = i.part.reads ∙ ap (pushes i.part.ws) (subst (λ (t : List ℕ). rest_of t left lo ≡ refuse no_band_list) onward-is (told stop.Bad e))

      module _ (n' left' lo' to : ℕ) (e : r ≡ stop.More n' left' lo' to) where
        pub reading-less : n' + d ≤ n
        unfolding Goes
        reading-less = rw (← onward-length) (told (stop.More n' left' lo' to) e).1

        pub reading-goes : Reading s from v n' left' lo' to v'
        unfolding Goes
        reading-goes =
            let t = told (stop.More n' left' lo' to) e in
            let l : n' ≤ n = let h = reading-less in omega arith in
            let k = i.there in
            let m = i.room in
            let b : to + n' ≤ at + n = rw (← onward-length) t.2 in
            let f = ap (last_of n') onward-is ∙ last-drop (length s - n) n' s (omega arith) in
            let h = subst (λ (t : List ℕ). Part (rest_of t left lo) (rest_of (last_of n' onward) left' lo') at to w v') onward-is t.0 in
            let g = subst (λ (t : List ℕ). Part (rest_of (last_of n s) left lo) (rest_of t left' lo') at to w v') f h in
            record { there = omega arith; room = omega arith; part = part_join (bands_of s) (rest_of (last_of n s) left lo) (rest_of (last_of n' s) left' lo') from at to v w v' i.part g }

pub list_ends : (s : List ℕ) (from to : ℕ) (v v' : List ℕ) → Part (bands_of s) (ok []) from to v v' → ListRead s from v (ok (to - from)) v'
list_ends s from to v v' p = record { answer = rw (e, l) (ap ok (omega arith)); words = λ o. rw e p.words }
  where
    none : (ws : List ℕ) → ws ++ [] ≡ ws
    none [] = refl
    none (x ∷ ws) = ap (λ (t : List ℕ). x ∷ t) (none ws)

    e : bands_of s ≡ ok p.ws
    e = p.reads ∙ ap ok (none p.ws)

    l : to ≡ from + length p.ws
    l = p.place

pub list_fails : (s : List ℕ) (from : ℕ) (v v' : List ℕ) → bands_of s ≡ refuse no_band_list → ListRead s from v (refuse no_band_list) v'
list_fails s from v v' e = record { answer = rw e; words = λ o. absurd (subst IsOk e o) }

-- joined bands are stored one payload after the other
pub words-join : (cs bs : List Band) → band_words (cs ++ bs) ≡ band_words cs ++ band_words bs
unfolding band_words
words-join [] bs = refl
words-join (a ∷ cs) bs =
    ap (λ (l : List ℕ). a.first ∷ a.last ∷ a.count ∷ l)
    (ap (λ (l : List ℕ). entry_words a.entries ++ l) (words-join cs bs) ∙ sym (append_assoc (entry_words a.entries) (band_words cs) (band_words bs)))
