-- What the readers' answers say, and one turn of each loop. Assumes nothing.
use Prim.Native.Nat.{ℕ, ◌+◌, ◌*◌, ◌≤◌, ◌<◌}
use native.Mathlib.Omega.{arith}
use mathlib.Core.Path.{◌≡◌, refl, sym, ap, ◌∙◌, subst}
use mathlib.Core.Bool.{Bool, true, false, cond, ◌&&◌}
use mathlib.Core.Logic.{◌⊎◌, inl, inr}
use Rattle.std.specs.Prelude.{Some as some, None as none}
use mathlib.Core.List.{List, [], ◌∷◌, ◌++◌}
use lib.ListN.{length, length-append}
use lib.Dec.{leb}
use lib.Seq.{slice}
use borrow.Author.Tests.{le-leb, lt-leb, eq-eqb, ne_eqb, lt-ltb, le-ltb}
use Rattle.outcome.specs.Outcome.{Res, ok, refuse, check, and_then, cons_res, map_res, no_head, bad_head, no_area, cut_parameters, small_size, unknown_command}
use Rattle.outcome.proofs.Laws.{ok-injective, le_or_lt}
use Rattle.grammar.specs.Bytes.{byte, word}
use Rattle.grammar.specs.Bands.{Band, band_words}
use Rattle.grammar.specs.Control.{Order, forced_start, start, stop, selectors, alphas, area, offsets, colours, size_of, Written, Command, command_end, Commands, Block, length_word, control_word}
use Rattle.grammar.specs.Record.{Told, told}
use Rattle.control_model.specs.Fold.{untold, tell, tell_block, tell_chain}
use Rattle.bands_model.specs.Bands.{bands_of}
use Rattle.bands_model.specs.Answers.{count_of}
use Rattle.control_model.specs.Listed.{held_bands, bands_at}
use Rattle.control_model.specs.Chain.{plain_at, change_at, order_at, command, command_at, commands_at, block, block_at, blocks_at, head_fits, chain_at, has_area, control_at}
use Rattle.control_model.specs.Answers.{spu_of, after_command, order_answer, commands_answer, chain_answer, control_answer}
use Rattle.control_model.specs.declared.Spu.{Spu}
use Rattle.control_model.specs.declared.AfterCommand.{AfterCommand}
use Rattle.bands_model.proofs.Loops.{words-join}
use Rattle.control_model.proofs.Fold.{folded}
use Rattle.control_model.proofs.Grammar.{order_sound, commands-iff, commands-step, blocks_step}
use Rattle.control_model.proofs.Listed.{bands-listed, bands-few}
use Rattle.rle_model.specs.Answers.{nothing}

-- ---- A colour change of size z

-- its bands take n words
pub record Changed (u : List ℕ) (L p z n : ℕ) : Type 0 where
  pub bs : List Band
  pub count : n ≡ length (band_words bs)
  pub few : n ≤ length u
  pub reads : change_at u L p ≡ ok (colours z bs)

pub change-told : (u : List ℕ) (L p z n d : ℕ) (t : Told) (s : Spu) (c : Changed u L p z n) → s ≡ spu_of (tell d (colours z c.bs) t) nothing
    → after_command (p + z) s ≡ order_answer d p t (change_at u L p)
change-told u L p z n d t s c e = ap (after_command (p + z)) e ∙ ap (order_answer d p t) (sym c.reads)

module _ (u : List ℕ) (L p z : ℕ) (size : z ≡ word u p) where
  pub change-cut : (d : ℕ) (t : Told) → L < p + 2 → refuse cut_parameters ≡ order_answer d p t (change_at u L p)
  unfolding change_at
  change-cut d t h = rw (lt-leb (p + 2) L h)

  pub change-small : (d : ℕ) (t : Told) → p + 2 ≤ L → z < 2 → refuse small_size ≡ order_answer d p t (change_at u L p)
  unfolding change_at
  change-small d t h k = rw (← size, le-leb (p + 2) L h, lt-leb 2 z k)

  pub change_past : (d : ℕ) (t : Told) → p + 2 ≤ L → 2 ≤ z → L < p + z → refuse cut_parameters ≡ order_answer d p t (change_at u L p)
  unfolding change_at
  change_past d t h k l = rw (← size, le-leb (p + 2) L h, le-leb 2 z k, lt-leb (p + z) L l)

  -- what its size counts fits
  module _ (h : p + 2 ≤ L) (k : 2 ≤ z) (l : p + z ≤ L) where
    change-read : change_at u L p ≡ map_res (colours z) (bands_at u (p + z) (p + 2))
    unfolding change_at
    change-read = rw (← size, le-leb (p + 2) L h, le-leb 2 z k, le-leb (p + z) L l)

    -- and is no list of bands
    pub change-none : (s : List ℕ) (n d : ℕ) (t : Told) → s ≡ slice (p + 2) (p + z) u → refuse n ≡ count_of 0 (bands_of s)
        → refuse n ≡ order_answer d p t (change_at u L p)
    unfolding bands_at
    change-none s n d t q e = go (bands_of (slice (p + 2) (p + z) u)) refl (e ∙ ap (λ (x : List ℕ). count_of 0 (bands_of x)) q)
      where
        go : (r : Res (List ℕ)) → bands_of (slice (p + 2) (p + z) u) ≡ r → refuse n ≡ count_of 0 r → refuse n ≡ order_answer d p t (change_at u L p)
        go (ok ws) q f = let y : ◌≡◌ {A = ℕ} 0 1 = cc in absurd (omega arith)
        go (refuse m) q f = let y : n ≡ m = cc in rw (change-read, q) (ap refuse y)

    -- or is one, of n words
    pub change-bands : (s : List ℕ) (n : ℕ) → L ≤ length u → s ≡ slice (p + 2) (p + z) u → ok n ≡ count_of 0 (bands_of s) → Changed u L p z n
    unfolding bands_at
    change-bands s n i q e = go (bands_of (slice (p + 2) (p + z) u)) refl (e ∙ ap (λ (x : List ℕ). count_of 0 (bands_of x)) q)
      where
        go : (r : Res (List ℕ)) → bands_of (slice (p + 2) (p + z) u) ≡ r → ok n ≡ count_of 0 r → Changed u L p z n
        go (refuse m) q f = let y : ◌≡◌ {A = ℕ} 0 1 = cc in absurd (omega arith)
        go (ok ws) q f =
            let y : n ≡ 0 + length ws = cc in
            let a : bands_at u (p + z) (p + 2) ≡ ok (held_bands (p + 2) ws) = ap (map_res (held_bands (p + 2))) q in
            let b = bands-listed u (p + z) (omega arith) (p + 2) (held_bands (p + 2) ws) (omega arith) a in
            let w : ws ≡ band_words (held_bands (p + 2) ws) = ok-injective (sym q ∙ b.1) in
            let m : length ws ≡ length (band_words (held_bands (p + 2) ws)) = ap length w in
            let o = bands-few u (p + z) (p + 2) (held_bands (p + 2) ws) b.0 in
            record { bs = held_bands (p + 2) ws; count = omega arith; few = omega arith; reads = change-read ∙ ap (map_res (colours z)) a }

-- ---- A command by its byte

module _ (u : List ℕ) (L p k d : ℕ) (t : Told) where
  pub order_change : k ≡ 7 → change_at u L p ≡ order_at u L p k
  unfolding order_at
  order_change e = rw (e)

  pub order_unknown : 7 < k → refuse unknown_command ≡ order_answer d p t (order_at u L p k)
  unfolding order_at
  order_unknown h = let l : 7 ≤ k = omega arith in rw (le-ltb k 7 l, ne_eqb k 7 (λ e. omega arith))

  pub order-cut : k < 7 → (n : ℕ) → n ≡ size_of (plain_at u p k) → L < p + n → refuse cut_parameters ≡ order_answer d p t (order_at u L p k)
  unfolding order_at
  order-cut h n e l = rw (lt-ltb k 7 h, ← e, lt-leb (p + n) L l)

  pub order-told : k < 7 → (n : ℕ) (s : Spu) → n ≡ size_of (plain_at u p k) → p + n ≤ L → s ≡ spu_of (tell d (plain_at u p k) t) nothing
      → after_command (p + n) s ≡ order_answer d p t (order_at u L p k)
  unfolding order_at
  order-told h n s e l q = rw (lt-ltb k 7 h, ← e, le-leb (p + n) L l) (λ j. after_command (p + e j) (q j))

-- ---- The commands of a block

-- what a command that was read says
pub record Got (u : List ℕ) (L p k d : ℕ) (t : Told) (a : ℕ) (s : Spu) : Type 0 where
  pub o : Order
  pub reads : order_at u L p k ≡ ok o
  pub place : a ≡ p + size_of o
  pub spu : s ≡ spu_of (tell d o t) nothing

pub got : (u : List ℕ) (L p k d : ℕ) (t : Told) (a : ℕ) (s : Spu) → after_command a s ≡ order_answer d p t (order_at u L p k) → Got u L p k d t a s
got u L p k d t a s e = go (order_at u L p k) refl e
  where
    -- what both sides hold
    place_of : Res AfterCommand → ℕ
    place_of (ok x) = x.at
    place_of (refuse n) = 0

    spu_in : Res AfterCommand → Spu
    spu_in (ok x) = x.spu
    spu_in (refuse n) = s

    go : (r : Res Order) → order_at u L p k ≡ r → after_command a s ≡ order_answer d p t r → Got u L p k d t a s
    go (refuse n) q f = let y : ◌≡◌ {A = ℕ} 0 1 = cc in absurd (omega arith)
    go (ok o) q f = record { o = o; reads = q; place = ap place_of f; spu = ap spu_in f }

pub ungot : (u : List ℕ) (L p k d : ℕ) (t : Told) (n : ℕ) → refuse n ≡ order_answer d p t (order_at u L p k) → order_at u L p k ≡ refuse n
ungot u L p k d t n e = go (order_at u L p k) refl e
  where
    go : (r : Res Order) → order_at u L p k ≡ r → refuse n ≡ order_answer d p t r → order_at u L p k ≡ refuse n
    go (ok o) q f = let y : ◌≡◌ {A = ℕ} 0 1 = cc in absurd (omega arith)
    go (refuse m) q f = let y : n ≡ m = cc in q ∙ ap refuse (sym y)

-- an order adds fewer words than it has bytes
order_grows : (u : List ℕ) (p d : ℕ) (t : Told) (o : Order) → Written u p o → length (band_words (tell d o t).bands) ≤ length (band_words t.bands) + size_of o
order_grows u p d t forced_start h = omega arith
order_grows u p d t start h = omega arith
order_grows u p d t stop h = omega arith
order_grows u p d t (selectors w) h = omega arith
order_grows u p d t (alphas w) h = omega arith
order_grows u p d t (area a b c e) h = omega arith
order_grows u p d t (offsets a b) h = omega arith
order_grows u p d t (colours s bs) h =
    let j : length (band_words (t.bands ++ bs)) ≡ length (band_words t.bands) + length (band_words bs) = ap length (words-join t.bands bs) ∙ length-append (band_words t.bands) (band_words bs) in
    let f = bands-few u (p + s) (p + 2) bs h.2 in
    omega arith

-- where reading the commands of a block stands
pub record Commanding (u : List ℕ) (L d from : ℕ) (spu : Spu) (at : ℕ) (told : Spu) : Type 0 where
  pub there : at ≤ L
  pub few : told.band_words + from ≤ spu.band_words + at
  pub goes : (t : Told) → spu ≡ spu_of t nothing → (t' : Told) × (told ≡ spu_of t' nothing) × (commands_answer d t' (commands_at u L at) ≡ commands_answer d t (commands_at u L from))

module _ (u : List ℕ) (L d from : ℕ) (spu : Spu) (inside : L ≤ length u) where
  pub commanding-starts : from ≤ L → Commanding u L d from spu from spu
  commanding-starts h = record { there = h; few = omega arith; goes = λ t e. (t, e, refl) }

  module _ (at : ℕ) (told : Spu) (i : Commanding u L d from spu at told) where
    -- one more
    abbrev Next : ℕ → Spu → Type 0
    Next a s = (t : Told) → told ≡ spu_of t nothing → after_command a s ≡ order_answer d (at + 1) t (order_at u L (at + 1) (byte u at))

    pub commanding_falls : (a : ℕ) (s : Spu) → Next a s → ((t : Told) × (spu ≡ spu_of t nothing)) → (at < a) × (a ≤ L)
    commanding_falls a s n k =
        let w = i.goes k.0 k.1 in
        let g = got u L (at + 1) (byte u at) d w.0 a s (n w.0 w.1) in
        let o = order_sound u L inside (at + 1) (byte u at) g.o g.reads in
        let f = o.within in
        let p = g.place in
        (omega arith, omega arith)

    pub commanding_goes : (a : ℕ) (s : Spu) → Next a s → ((t : Told) × (spu ≡ spu_of t nothing)) → at < L → (byte u at ≡ 255 → ⊥) → Commanding u L d from spu a s
    unfolding spu_of command_at tell_block
    commanding_goes a s n k l b =
        record { there = (commanding_falls a s n k).1; few = grows (i.goes k.0 k.1); goes = λ t e. go t (i.goes t e) }
      where
        grows : ((t' : Told) × (told ≡ spu_of t' nothing) × (commands_answer d t' (commands_at u L at) ≡ commands_answer d k.0 (commands_at u L from))) → s.band_words + from ≤ spu.band_words + a
        grows w =
            let g = got u L (at + 1) (byte u at) d w.0 a s (n w.0 w.1) in
            let o = order_sound u L inside (at + 1) (byte u at) g.o g.reads in
            let h = order_grows u (at + 1) d w.0 g.o o.says in
            let x : told.band_words ≡ length (band_words w.0.bands) = ap (λ (r : Spu). r.band_words) w.1 in
            let y : s.band_words ≡ length (band_words (tell d g.o w.0).bands) = ap (λ (r : Spu). r.band_words) g.spu in
            let p = g.place in
            let f = i.few in
            omega arith

        go : (t : Told) → ((t' : Told) × (told ≡ spu_of t' nothing) × (commands_answer d t' (commands_at u L at) ≡ commands_answer d t (commands_at u L from)))
            → (t' : Told) × (s ≡ spu_of t' nothing) × (commands_answer d t' (commands_at u L a) ≡ commands_answer d t (commands_at u L from))
        go t w =
            let g = got u L (at + 1) (byte u at) d w.0 a s (n w.0 w.1) in
            let c : command_at u L at ≡ ok (command at g.o) = ap (map_res (command at)) g.reads in
            let m : commands_answer d w.0 (commands_at u L at) ≡ commands_answer d (tell d g.o w.0) (commands_at u L a) =
            rw (commands-step u L inside at, lt-leb L at l, ne_eqb (byte u at) 255 b, c, ← g.place) (more w.0 g.o (commands_at u L a)) in
            (tell d g.o w.0, g.spu, sym m ∙ w.2)
          where
            more : (t : Told) (o : Order) (r : Res (List Command)) → commands_answer d t (cons_res (command at o) r) ≡ commands_answer d (tell d o t) r
            more t o (ok cs) = refl
            more t o (refuse n) = refl

    -- the last, at `FF` or at L
    pub commanding_ends : ((at < L) → byte u at ≡ 255) → (t : Told) → spu ≡ spu_of t nothing → ok told ≡ commands_answer d t (commands_at u L from)
    unfolding tell_block
    commanding_ends h t e =
        let w = i.goes t e in
        let m : commands_answer d w.0 (commands_at u L at) ≡ ok (spu_of w.0 nothing) = ap (commands_answer d w.0) (stops (le_or_lt L at)) in
        ap ok w.1 ∙ sym m ∙ w.2
      where
        stops : (L ≤ at) ⊎ (at < L) → commands_at u L at ≡ ok []
        stops (inl l) = rw (commands-step u L inside at, le-leb L at l)
        stops (inr l) = rw (commands-step u L inside at, lt-leb L at l, eq-eqb (byte u at) 255 (h l))

    pub commanding_refuses : (n : ℕ) → at < L → (byte u at ≡ 255 → ⊥) → ((t : Told) → told ≡ spu_of t nothing → refuse n ≡ order_answer d (at + 1) t (order_at u L (at + 1) (byte u at)))
        → (t : Told) → spu ≡ spu_of t nothing → refuse n ≡ commands_answer d t (commands_at u L from)
    unfolding command_at
    commanding_refuses n l b f t e =
        let w = i.goes t e in
        let g = ungot u L (at + 1) (byte u at) d w.0 n (f w.0 w.1) in
        let c : command_at u L at ≡ refuse n = ap (map_res (command at)) g in
        let m : commands_answer d w.0 (commands_at u L at) ≡ refuse n = rw (commands-step u L inside at, lt-leb L at l, ne_eqb (byte u at) 255 b, c) in
        sym m ∙ w.2

-- ---- The blocks of a chain

-- what commands that were read say
pub record BlockTold (u : List ℕ) (L p d : ℕ) (t : Told) (s : Spu) : Type 0 where
  pub cs : List Command
  pub reads : commands_at u L p ≡ ok cs
  pub spu : s ≡ spu_of (tell_block d cs t) nothing

pub block-told : (u : List ℕ) (L p d : ℕ) (t : Told) (s : Spu) → ok s ≡ commands_answer d t (commands_at u L p) → BlockTold u L p d t s
block-told u L p d t s e = go (commands_at u L p) refl e
  where
    go : (r : Res (List Command)) → commands_at u L p ≡ r → ok s ≡ commands_answer d t r → BlockTold u L p d t s
    go (refuse n) q f = let y : ◌≡◌ {A = ℕ} 0 1 = cc in absurd (omega arith)
    go (ok cs) q f = record { cs = cs; reads = q; spu = cc }

pub block_refused : (u : List ℕ) (L p d : ℕ) (t : Told) (n : ℕ) → refuse n ≡ commands_answer d t (commands_at u L p) → commands_at u L p ≡ refuse n
block_refused u L p d t n e = go (commands_at u L p) refl e
  where
    go : (r : Res (List Command)) → commands_at u L p ≡ r → refuse n ≡ commands_answer d t r → commands_at u L p ≡ refuse n
    go (ok cs) q f = let y : ◌≡◌ {A = ℕ} 0 1 = cc in absurd (omega arith)
    go (refuse m) q f = let y : n ≡ m = cc in q ∙ ap refuse (sym y)

-- a block adds fewer words than the unit has bytes
block-grows : (u : List ℕ) (L p d : ℕ) (cs : List Command) (t : Told) → Commands u L p cs → length (band_words (tell_block d cs t).bands) + p ≤ length (band_words t.bands) + L
unfolding Commands tell_block
block-grows u L p d [] t (inl e) = omega arith
block-grows u L p d [] t (inr e) = let l = e.0 in omega arith
block-grows u L p d (c ∷ cs) t h =
    let i = block-grows u L (command_end c) d cs (tell d c.order t) h.2 in
    let g = order_grows u (c.place + 1) d t c.order h.1.says in
    let q = h.0 in
    omega arith

-- where reading the chain stands
pub record Chaining (u : List ℕ) (L from pos : ℕ) (told : Spu) : Type 0 where
  pub t : Told
  pub is : told ≡ spu_of t nothing
  pub below : pos < 65536
  pub few : told.band_words ≤ 65536 * pos
  pub goes : chain_answer t (blocks_at u L (some pos)) ≡ chain_answer untold (blocks_at u L (some from))

module _ (u : List ℕ) (L from : ℕ) (inside : L ≤ length u) where
  pub chaining-starts : from < 65536 → Chaining u L from from (spu_of untold nothing)
  unfolding spu_of untold band_words
  chaining-starts h = record { t = untold; is = refl; below = h; few = omega arith; goes = refl }

  module _ (pos : ℕ) (told : Spu) (i : Chaining u L from pos told) where
    pub chaining_ends : L < pos + 4 → ok told ≡ chain_answer untold (blocks_at u L (some from))
    unfolding tell_chain
    chaining_ends h =
        let m : chain_answer i.t (blocks_at u L (some pos)) ≡ ok (spu_of i.t nothing) = rw (blocks_step u L inside (some pos), lt-ltb L (pos + 4) h) in
        ap ok i.is ∙ sym m ∙ i.goes

    -- the block at pos, of delay d, that names place n
    module _ (h : pos + 4 ≤ L) (d n : ℕ) (delay : d ≡ word u pos) (next : n ≡ word u (pos + 2)) where
      pub chaining_refuses : (k : ℕ) → ((t : Told) → told ≡ spu_of t nothing → refuse k ≡ commands_answer d t (commands_at u L (pos + 4)))
          → refuse k ≡ chain_answer untold (blocks_at u L (some from))
      unfolding block_at
      chaining_refuses k f =
          let c : block_at u L pos ≡ refuse k = ap (map_res (block u pos)) (block_refused u L (pos + 4) d i.t k (f i.t i.is)) in
          let m : chain_answer i.t (blocks_at u L (some pos)) ≡ refuse k = rw (blocks_step u L inside (some pos), le-ltb L (pos + 4) h, c) in
          sym m ∙ i.goes

      module _ (s : Spu) (f : (t : Told) → told ≡ spu_of t nothing → ok s ≡ commands_answer d t (commands_at u L (pos + 4))) where
        b : BlockTold u L (pos + 4) d i.t s
        b = block-told u L (pos + 4) d i.t s (f i.t i.is)

        read : block_at u L pos ≡ ok (block u pos b.cs)
        unfolding block_at
        read = ap (map_res (block u pos)) b.reads

        now-told : s ≡ spu_of (tell_block (word u pos) b.cs i.t) nothing
        now-told = b.spu ∙ ap (λ (e : ℕ). spu_of (tell_block e b.cs i.t) nothing) delay

        more : (r : Res (List Block)) → chain_answer i.t (cons_res (block u pos b.cs) r) ≡ chain_answer (tell_block (word u pos) b.cs i.t) r
        unfolding tell_chain
        more (ok bs) = refl
        more (refuse k) = refl

        pub chaining-last : n ≤ pos → ok s ≡ chain_answer untold (blocks_at u L (some from))
        unfolding tell_chain
        chaining-last l =
            let l' : word u (pos + 2) ≤ pos = rw (← next) l in
            let m : chain_answer i.t (blocks_at u L (some pos)) ≡ ok (spu_of (tell_block (word u pos) b.cs i.t) nothing) =
            rw (blocks_step u L inside (some pos), le-ltb L (pos + 4) h, read, le-leb (word u (pos + 2)) pos l', blocks_step u L inside none) in
            ap ok now-told ∙ sym m ∙ i.goes

        pub chaining_goes : n < 65536 → L < 65536 → pos < n → Chaining u L from n s
        unfolding spu_of
        chaining_goes k o l =
            let l' : pos < word u (pos + 2) = rw (← next) l in
            let m : chain_answer i.t (blocks_at u L (some pos)) ≡ chain_answer (tell_block (word u pos) b.cs i.t) (blocks_at u L (some (word u (pos + 2)))) =
            rw (blocks_step u L inside (some pos), le-ltb L (pos + 4) h, read, lt-leb (word u (pos + 2)) pos l') (more (blocks_at u L (some (word u (pos + 2))))) in
            let g = block-grows u L (pos + 4) d b.cs i.t ((commands-iff u L inside (pos + 4) b.cs h).0 b.reads) in
            let x : told.band_words ≡ length (band_words i.t.bands) = ap (λ (r : Spu). r.band_words) i.is in
            let y : s.band_words ≡ length (band_words (tell_block d b.cs i.t).bands) = ap (λ (r : Spu). r.band_words) b.spu in
            let f = i.few in
            record {
              t = tell_block (word u pos) b.cs i.t;
              is = now-told;
              below = k;
              few = omega arith;
              goes = ap (λ (e : ℕ). chain_answer (tell_block (word u pos) b.cs i.t) (blocks_at u L (some e))) next ∙ sym m ∙ i.goes;
            }

-- ---- A unit

module _ (u : List ℕ) where
  pub unit-short : length u < 4 → refuse no_head ≡ control_answer u
  unfolding control_at chain_at
  unit-short h = rw (lt-leb 4 (length u) h)

  module _ (h : 4 ≤ length u) where
    -- a head that does not fit
    unfit : head_fits u ≡ false → refuse bad_head ≡ control_answer u
    unfolding control_at chain_at
    unfit e = rw (le-leb 4 (length u) h, e)

    pub unit-early : control_word u < 4 → refuse bad_head ≡ control_answer u
    unfolding head_fits
    unit-early l = unfit (rw (lt-leb 4 (control_word u) l))

    pub unit-late : length_word u < control_word u → refuse bad_head ≡ control_answer u
    unfolding head_fits
    unit-late l = unfit (go (leb 4 (control_word u)))
      where
        go : (b : Bool) → (b && leb (control_word u) (length_word u) && leb (length_word u) (length u)) ≡ false
        go b = rw (lt-leb (control_word u) (length_word u) l) (none b (leb (length_word u) (length u)))
          where
            none : (b c : Bool) → (b && false && c) ≡ false
            none true c = refl
            none false c = refl

    pub unit-past : length u < length_word u → refuse bad_head ≡ control_answer u
    unfolding head_fits
    unit-past l = unfit (rw (lt-leb (length_word u) (length u) l) (none (leb 4 (control_word u)) (leb (control_word u) (length_word u))))
      where
        none : (b c : Bool) → (b && c && false) ≡ false
        none true true = refl
        none true false = refl
        none false c = refl

    module _ (a : 4 ≤ control_word u) (b : control_word u ≤ length_word u) (c : length_word u ≤ length u) where
      abbrev found : Res (List Block)
      found = blocks_at u (length_word u) (some (control_word u))

      fits : control_at u ≡ and_then found (λ bs. check (has_area (told bs)) no_area (ok bs))
      unfolding control_at chain_at head_fits
      fits = rw (le-leb 4 (length u) h, le-leb 4 (control_word u) a, le-leb (control_word u) (length_word u) b, le-leb (length_word u) (length u) c)

      pub unit-refused : (n : ℕ) → refuse n ≡ chain_answer untold found → refuse n ≡ control_answer u
      unit-refused n e = go found refl e
        where
          go : (r : Res (List Block)) → found ≡ r → refuse n ≡ chain_answer untold r → refuse n ≡ control_answer u
          go (ok bs) q f = let y : ◌≡◌ {A = ℕ} 0 1 = cc in absurd (omega arith)
          go (refuse m) q f = rw (fits, q) f

      module _ (s : Spu) (e : ok s ≡ chain_answer untold found) where
        -- of what a chain told
        tells : (b : Bool) → ((t : Told) → s ≡ spu_of t nothing → has_area t ≡ b) → cond b (ok s) (refuse no_area) ≡ control_answer u
        tells b k = go found refl e
          where
            go : (r : Res (List Block)) → found ≡ r → ok s ≡ chain_answer untold r → cond b (ok s) (refuse no_area) ≡ control_answer u
            go (refuse m) q f = let y : ◌≡◌ {A = ℕ} 0 1 = cc in absurd (omega arith)
            go (ok bs) q f =
                let y : s ≡ spu_of (tell_chain bs untold) nothing = cc in
                rw (fits, q, k (told bs) (y ∙ ap (λ (t : Told). spu_of t nothing) (folded bs))) (last b f)
              where
                last : (b : Bool) → ok s ≡ chain_answer untold (ok bs) → cond b (ok s) (refuse no_area) ≡ chain_answer untold (check b no_area (ok bs))
                last true f = f
                last false f = refl

        pub unit-narrow : s.x2 < s.x1 → refuse no_area ≡ control_answer u
        unfolding spu_of
        unit-narrow l = tells false (λ t y. let g : t.at.x2 < t.at.x1 = subst (λ (r : Spu). r.x2 < r.x1) y l in rw (lt-leb t.at.x1 t.at.x2 g))

        pub unit-low : s.x1 ≤ s.x2 → s.y2 < s.y1 → refuse no_area ≡ control_answer u
        unfolding spu_of
        unit-low l m = tells false (λ t y. let f : t.at.x1 ≤ t.at.x2 = subst (λ (r : Spu). r.x1 ≤ r.x2) y l in let g : t.at.y2 < t.at.y1 = subst (λ (r : Spu). r.y2 < r.y1) y m in rw (le-leb t.at.x1 t.at.x2 f, lt-leb t.at.y1 t.at.y2 g))

        pub unit_told : s.x1 ≤ s.x2 → s.y1 ≤ s.y2 → ok s ≡ control_answer u
        unfolding spu_of
        unit_told l m = tells true (λ t y. let f : t.at.x1 ≤ t.at.x2 = subst (λ (r : Spu). r.x1 ≤ r.x2) y l in let g : t.at.y1 ≤ t.at.y2 = subst (λ (r : Spu). r.y1 ≤ r.y2) y m in rw (le-leb t.at.x1 t.at.x2 f, le-leb t.at.y1 t.at.y2 g))
