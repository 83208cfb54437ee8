-- What packets keep, joined: measured, and copied into scratch. Assumes nothing.
use Prim.Native.Nat.{ℕ, ◌+◌, ◌-◌, ◌*◌, ◌≤◌, ◌<◌, min}
use native.Mathlib.Omega.{arith}
use mathlib.Core.Path.{◌≡◌, refl, sym, ap, ◌∙◌, subst}
use mathlib.Core.Bool.{Bool, true, false, cond}
use mathlib.Core.Logic.{⊎_elim}
use mathlib.Core.List.{List, [], ◌∷◌, ◌++◌, append_assoc, append-nil}
use lib.ListN.{length, take, drop, length-take, length-append, length-drop, get_or-append}
use lib.Seq.{slice, sets, slice_empty, length-slice, length-sets, length-take-le, get_or-append-add, get_or-drop, get_or-take, take_all, take_at, take-take, take-append-le, take-append-add}
use lib.Dec.{leb, ltb}
use borrow.Author.Tests.{le-leb, lt-leb, lt-ltb, leb-true, leb-false, ltb-true, ltb-false}
use Rattle.outcome.specs.Outcome.{Res, ok, refuse, and_then, cons_res}
use Rattle.outcome.proofs.Laws.{ok-not-refuse, ok-injective, cons_res-ok, sets-append, part_slice, either}
use Rattle.outcome.proofs.Lists.{list_step}
use Rattle.grammar.specs.Bytes.{byte, word}
use Rattle.grammar.specs.Packets.{Packet, kept_bytes, joined, packets, unit_of}
use Rattle.ps_model.specs.OnePacket.{packet_at}
use Rattle.ps_model.specs.Packets.{Stand, stand, complete, stand_done, stand_packet, stand_next, packets_at}
use Rattle.ps_model.specs.Answers.{joined_given}
use Rattle.ps_model.proofs.Grammar.{packet-falls}
use Rattle.ps_model.proofs.Read.{Told}

-- ---- One packet more

module _ (id : ℕ → Bool) (f : List ℕ) (at : ℕ) (k : List ℕ) where
  pub packets-done : complete k ≡ true → packets_at id f at k ≡ ok []
  unfolding packets_at
  packets-done t =
      list_step stand_done (stand_packet id f) stand_next (λ (s : Stand). length f - s.place) (packet-falls id f) (stand at k)
      ∙ rw t

  packets-open : complete k ≡ false
      → packets_at id f at k ≡ and_then (packet_at id f at) (λ (p : Packet). cons_res p (packets_at id f p.end (k ++ kept_bytes p.kept)))
  unfolding packets_at
  packets-open t =
      list_step stand_done (stand_packet id f) stand_next (λ (s : Stand). length f - s.place) (packet-falls id f) (stand at k)
      ∙ rw t

  packets-refused : complete k ≡ false → (n : ℕ) → packet_at id f at ≡ refuse n → packets_at id f at k ≡ refuse n
  packets-refused t n e = packets-open t ∙ rw e

  -- the packet at hand in front of those that follow
  packets-more : complete k ≡ false → (a e : ℕ) (h : Told id f at a e)
      → packets_at id f at k ≡ cons_res h.packet (packets_at id f e (k ++ slice a e f))
  packets-more t a e h = packets-open t ∙ rw (h.found, h.ends, h.keeps)

-- ---- Bytes of what is joined

pub byte-joined : (k l : List ℕ) (j : ℕ) → byte (k ++ l) j ≡ cond (ltb j (length k)) (byte k j) (byte l (j - length k))
byte-joined k l j = go (ltb j (length k)) refl
  where
    go : (t : Bool) → ltb j (length k) ≡ t → byte (k ++ l) j ≡ cond t (byte k j) (byte l (j - length k))
    go true e = get_or-append k l 0 j (ltb-true _ _ e)
    go false e =
        let h : length k ≤ j = ltb-false j (length k) e in
        let q : j ≡ length k + (j - length k) = omega arith in
        ap (byte (k ++ l)) q ∙ get_or-append-add k l (j - length k) 0

module _ (f : List ℕ) (a e have j old : ℕ) where
  pub byte-old : j < have → old ≡ cond (ltb j have) old (byte (slice a e f) (j - have))
  byte-old h = rw (lt-ltb j have h)

-- ---- Measuring

-- the answer where k is kept and the packets r follow
abbrev answer_after : List ℕ → Res (List Packet) → Res ℕ
answer_after k (ok ps) = ok (length (take (word (k ++ joined ps) 0) (k ++ joined ps)))
answer_after k (refuse n) = refuse n

answer_cons : (k : List ℕ) (p : Packet) (r : Res (List Packet))
    → answer_after k (cons_res p r) ≡ answer_after (k ++ kept_bytes p.kept) r
unfolding joined
answer_cons k p (ok ps) = rw (append_assoc k (kept_bytes p.kept) (joined ps))
answer_cons k p (refuse n) = refl

-- where measuring stands: what is kept, its length and its first two bytes, and the answer x from there on
pub record Measuring (id : ℕ → Bool) (f : List ℕ) (x : Res ℕ) (at have first second : ℕ) : Type 0 where
  pub kept : List ℕ
  pub count : length kept ≡ have
  pub first_is : first ≡ byte kept 0
  pub second_is : second ≡ byte kept 1
  pub low : have ≤ at
  pub short : complete kept ≡ false
  pub same : x ≡ answer_after kept (packets_at id f at kept)

pub measuring-starts : (id : ℕ → Bool) (f : List ℕ) (from : ℕ)
    → Measuring id f (joined_given (packets_at id f from [])) from 0 0 0
unfolding unit_of
measuring-starts id f from =
    record { kept = []; count = refl; first_is = refl; second_is = refl; low = omega arith; short = refl; same = go (packets_at id f from []) }
  where
    go : (r : Res (List Packet)) → joined_given r ≡ answer_after [] r
    go (ok ps) = refl
    go (refuse n) = refl

module _ (id : ℕ → Bool) (f : List ℕ) (x : Res ℕ) (at have first second : ℕ) (i : Measuring id f x at have first second) where
  pub measuring_refused : (n : ℕ) → packet_at id f at ≡ refuse n → refuse n ≡ x
  measuring_refused n e = sym (i.same ∙ ap (answer_after i.kept) (packets-refused id f at i.kept i.short n e))

  next : (a e : ℕ) → Told id f at a e
      → x ≡ answer_after (i.kept ++ slice a e f) (packets_at id f e (i.kept ++ slice a e f))
  next a e h =
      i.same
      ∙ ap (answer_after i.kept) (packets-more id f at i.kept i.short a e h)
      ∙ answer_cons i.kept h.packet (packets_at id f e (i.kept ++ slice a e f))
      ∙ ap (λ (l : List ℕ). answer_after (i.kept ++ l) (packets_at id f e (i.kept ++ slice a e f))) h.keeps

  pub measuring_passes : (e : ℕ) → Told id f at e e → Measuring id f x e have first second
  measuring_passes e h =
      let z : i.kept ++ slice e e f ≡ i.kept = ap (λ (l : List ℕ). i.kept ++ l) (slice_empty e f) ∙ append-nil i.kept in
      let l = h.after in
      let m = i.low in
      record {
        kept = i.kept;
        count = i.count;
        first_is = i.first_is;
        second_is = i.second_is;
        low = omega arith;
        short = i.short;
        same = next e e h ∙ ap (λ (k : List ℕ). answer_after k (packets_at id f e k)) z;
      }

  module _ (a e : ℕ) (h : Told id f at a e) (b c : ℕ)
      (u : b ≡ cond (ltb 0 have) first (byte (slice a e f) (0 - have)))
      (v : c ≡ cond (ltb 1 have) second (byte (slice a e f) (1 - have))) where
    now-first : b ≡ byte (i.kept ++ slice a e f) 0
    now-first = u ∙ rw (byte-joined i.kept (slice a e f) 0, i.count, ← i.first_is)

    now-second : c ≡ byte (i.kept ++ slice a e f) 1
    now-second = v ∙ rw (byte-joined i.kept (slice a e f) 1, i.count, ← i.second_is)

    now-count : length (i.kept ++ slice a e f) ≡ have + (e - a)
    now-count = length-append i.kept (slice a e f) ∙ rw (i.count, length-slice a e f h.inside)

    now-word : b * 256 + c ≡ word (i.kept ++ slice a e f) 0
    unfolding word
    now-word = rw (now-first, now-second)

    pub measuring_done : 2 ≤ have + (e - a) → (t : ℕ) → t ≡ b * 256 + c → t ≤ have + (e - a) → ok t ≡ x
    unfolding joined
    measuring_done k t w l =
        let s : List ℕ = i.kept ++ slice a e f in
        let m = now-count in
        let g = now-word in
        let two : 2 ≤ length s = omega arith in
        let fits : word s 0 ≤ length s = omega arith in
        let d : complete s ≡ true = rw (le-leb 2 (length s) two, le-leb (word s 0) (length s) fits) in
        sym (
        next a e h
        ∙ ap (answer_after s) (packets-done id f e s d)
        ∙ ap (λ (y : List ℕ). ok (length (take (word y 0) y))) (append-nil s)
        ∙ ap ok (length-take-le (word s 0) s fits ∙ sym g ∙ sym w)
        )

    goes : complete (i.kept ++ slice a e f) ≡ false → Measuring id f x e (have + (e - a)) b c
    goes d =
        let l = h.after in
        let m = i.low in
        let o = h.upto in
        record { kept = i.kept ++ slice a e f; count = now-count; first_is = now-first; second_is = now-second; low = omega arith; short = d; same = next a e h }

    pub measuring_few : have + (e - a) < 2 → Measuring id f x e (have + (e - a)) b c
    measuring_few k =
        let l : length (i.kept ++ slice a e f) < 2 = omega (arith, now-count) in
        goes (rw (lt-leb 2 (length (i.kept ++ slice a e f)) l))

    pub measuring_more : 2 ≤ have + (e - a) → (t : ℕ) → t ≡ b * 256 + c → have + (e - a) < t
        → Measuring id f x e (have + (e - a)) b c
    measuring_more k t w g =
        let m = now-count in
        let n = now-word in
        let two : 2 ≤ length (i.kept ++ slice a e f) = omega arith in
        let l : length (i.kept ++ slice a e f) < word (i.kept ++ slice a e f) 0 = omega arith in
        goes (rw (le-leb 2 (length (i.kept ++ slice a e f)) two, lt-leb (word (i.kept ++ slice a e f) 0) (length (i.kept ++ slice a e f)) l))

-- ---- Copying

-- the m bytes from a on
module _ (f : List ℕ) (a m : ℕ) (h : a + m ≤ length f) where
  pub part_length : length (take m (drop a f)) ≡ m
  part_length = length-take-le m (drop a f) (rw (length-drop a f) (omega arith))

  pub part-byte : (i : ℕ) → i < m → byte f (a + i) ≡ byte (take m (drop a f)) i
  part-byte i l = sym (get_or-take m (drop a f) i 0 l ∙ get_or-drop a f i 0)

-- ---- Joining in scratch

-- the packets from `at` on, with what was kept before them: together all that is kept
pub record Left (id : ℕ → Bool) (f all : List ℕ) (at have : ℕ) : Type 0 where
  pub kept : List ℕ
  pub count : length kept ≡ have
  pub list : List Packet
  pub listed : packets_at id f at kept ≡ ok list
  pub whole : kept ++ joined list ≡ all

-- where joining stands: of t bytes `have` are in scratch
pub record Joining (id : ℕ → Bool) (f all : List ℕ) (t : ℕ) (s₀ s : List ℕ) (at have : ℕ) : Type 0 where
  pub upto : have ≤ t
  pub held : s ≡ sets s₀ 0 (take have all)
  pub size : length s ≡ length s₀
  pub rest : have < t → Left id f all at have

module _ (id : ℕ → Bool) (f : List ℕ) (from : ℕ) (ps : List Packet) (h : packets_at id f from [] ≡ ok ps) where
  pub joining-starts : (t : ℕ) (s₀ : List ℕ) → Joining id f (joined ps) t s₀ s₀ from 0
  joining-starts t s₀ = record { upto = omega arith; held = refl; size = refl; rest = λ l. record { kept = []; count = refl; list = ps; listed = h; whole = refl } }

  -- the unit's length is no more than what is kept
  pub unit-within : length (unit_of (packets ps)) ≤ length (joined ps)
  unfolding unit_of
  unit-within = rw (length-take (word (joined ps) 0) (joined ps)) (omega arith)

  pub joining_ends : (t : ℕ) (s₀ s : List ℕ) (at have : ℕ) → t ≡ length (unit_of (packets ps))
      → Joining id f (joined ps) t s₀ s at have → t ≤ have → s ≡ sets s₀ 0 (unit_of (packets ps))
  unfolding unit_of
  joining_ends t s₀ s at have e j l =
      let u = j.upto in
      let n : ℕ = word (joined ps) 0 in
      let q : have ≡ min n (length (joined ps)) = omega (arith, e, length-take n (joined ps)) in
      let z : take (min n (length (joined ps))) (joined ps) ≡ take n (joined ps) = take_min n (joined ps) in
      j.held ∙ ap (λ (m : ℕ). sets s₀ 0 (take m (joined ps))) q ∙ ap (sets s₀ 0) z
    where
      take_min : (n : ℕ) (l : List ℕ) → take (min n (length l)) l ≡ take n l
      take_min n l = ⊎_elim short long (either (leb n (length l)))
        where
          short : leb n (length l) ≡ true → take (min n (length l)) l ≡ take n l
          short t = let h : n ≤ length l = omega (arith, leb-true n (length l) t) in let q : min n (length l) ≡ n = omega arith in rw q

          long : leb n (length l) ≡ false → take (min n (length l)) l ≡ take n l
          long t = let h : length l < n = omega (arith, leb-false n (length l) t) in let q : min n (length l) ≡ length l = omega arith in rw q (take_all (length l) l (omega arith) ∙ sym (take_all n l (omega arith)))

module _ (id : ℕ → Bool) (f all : List ℕ) (t : ℕ) (within : t ≤ length all) (s₀ s : List ℕ) (at have : ℕ) (j : Joining id f all t s₀ s at have) (l : have < t) where
  still : complete (j.rest l).kept ≡ false
  unfolding joined
  still = ⊎_elim done (λ x. x) (either (complete (j.rest l).kept))
    where
      done : complete (j.rest l).kept ≡ true → complete (j.rest l).kept ≡ false
      done d =
          let r = j.rest l in
          let e : [] ≡ r.list = ok-injective (sym (packets-done id f at r.kept d) ∙ r.listed) in
          let w : r.kept ++ joined [] ≡ all = ap (λ (p : List Packet). r.kept ++ joined p) e ∙ r.whole in
          let n : length all ≡ have = ap length (sym w ∙ append-nil r.kept) ∙ r.count in
          absurd (omega arith)

  pub joining_refused : (n : ℕ) → packet_at id f at ≡ refuse n → ⊥
  joining_refused n e = ok-not-refuse (sym (packets-refused id f at (j.rest l).kept still n e) ∙ (j.rest l).listed)

  module _ (a e : ℕ) (h : Told id f at a e) where
    tail : (r : List Packet) × (packets_at id f e ((j.rest l).kept ++ slice a e f) ≡ ok r) × (h.packet ∷ r ≡ (j.rest l).list)
    tail = cons_res-ok h.packet (packets_at id f e ((j.rest l).kept ++ slice a e f)) (sym (packets-more id f at (j.rest l).kept still a e h) ∙ (j.rest l).listed)

    all-is : (j.rest l).kept ++ (slice a e f ++ joined tail.0) ≡ all
    unfolding joined
    all-is =
        ap (λ (k : List ℕ). (j.rest l).kept ++ (k ++ joined tail.0)) (sym h.keeps)
        ∙ ap (λ (p : List Packet). (j.rest l).kept ++ joined p) tail.2
        ∙ (j.rest l).whole

    left : Left id f all e (have + (e - a))
    left =
        record {
          kept = (j.rest l).kept ++ slice a e f;
          count = length-append (j.rest l).kept (slice a e f) ∙ rw ((j.rest l).count, length-slice a e f h.inside);
          list = tail.0;
          listed = tail.1;
          whole = append_assoc (j.rest l).kept (slice a e f) (joined tail.0) ∙ all-is;
        }

    pub joining_passes : a ≡ e → Joining id f all t s₀ s e have
    joining_passes q =
        record { upto = j.upto; held = j.held; size = j.size; rest = λ k. let z : have + (e - a) ≡ have = omega arith in subst (Left id f all e) z left }

    module _ (m : ℕ) (q : m ≡ min (e - a) (t - have)) where
      front : take (have + m) all ≡ take have all ++ take m (drop a f)
      front =
          let k : List ℕ = (j.rest l).kept in
          let x : List ℕ = slice a e f ++ joined tail.0 in
          let c = (j.rest l).count in
          let z : length k + m ≡ have + m = omega arith in
          let y : m ≤ length (slice a e f) = rw (length-slice a e f h.inside) (omega arith) in
          ap (take (have + m)) (sym all-is)
          ∙ ap (λ (n : ℕ). take n (k ++ x)) (sym z)
          ∙ take-append-add k x m
          ∙ ap (λ (w : List ℕ). k ++ w) (take-append-le m (slice a e f) (joined tail.0) y ∙ ap (take m) (sym (part_slice a e f)) ∙ take-take m (e - a) (drop a f) (omega arith))
          ∙ ap (λ (w : List ℕ). w ++ take m (drop a f)) (sym (ap (take have) (sym all-is) ∙ take_at k x have c))

      pub joining_goes : (d : List ℕ) → d ≡ sets s have (take m (drop a f)) → Joining id f all t s₀ d e (have + m)
      joining_goes d w =
          let u : length (take have all) ≡ have = length-take-le have all (omega arith) in
          let v : 0 + length (take have all) ≡ have = omega arith in
          let x : d ≡ sets s₀ 0 (take (have + m) all) =
          w
          ∙ ap (λ (y : List ℕ). sets y have (take m (drop a f))) j.held
          ∙ ap (λ (n : ℕ). sets (sets s₀ 0 (take have all)) n (take m (drop a f))) (sym v)
          ∙ sym (sets-append s₀ 0 (take have all) (take m (drop a f)))
          ∙ ap (sets s₀ 0) (sym front) in
          record {
            upto = omega arith;
            held = x;
            size = ap length x ∙ length-sets s₀ 0 (take (have + m) all);
            rest = λ k. let z : have + (e - a) ≡ have + m = omega arith in subst (Left id f all e) z left;
          }
