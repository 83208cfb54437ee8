-- The words of bands, stored command by command and block by block, are the words of all that was told. Assumes nothing.
use Prim.Native.Nat.{ℕ, ◌+◌, ◌≤◌, ◌<◌}
use native.Mathlib.Omega.{arith}
use mathlib.Core.Path.{◌≡◌, refl, sym, ap, ◌∙◌, subst}
use mathlib.Core.Bool.{Bool, true, false, cond}
use mathlib.Core.Logic.{◌⊎◌, inl, inr}
use Rattle.std.specs.Prelude.{Some as some, None as none}
use mathlib.Core.List.{List, [], ◌∷◌, ◌++◌, append_assoc, append-nil}
use lib.ListN.{length, length-append}
use lib.Dec.{leb, eqb}
use lib.Seq.{sets, slice, length-sets}
use borrow.Author.Tests.{leb-true, le-leb, lt-leb, eq-eqb, ne_eqb, lt-ltb, le-ltb}
use Rattle.outcome.specs.Outcome.{Res, ok, refuse, IsOk, no_area, check, and_then, cons_res, listed, cut_parameters, small_size, unknown_command}
use Rattle.outcome.proofs.Laws.{ok-not-refuse, ok-injective, check-ok, map_res-ok, and_then-ok, cons_res-ok, le_or_lt, sets-append}
use Rattle.grammar.specs.Bytes.{byte, word}
use Rattle.grammar.specs.Bands.{band_words}
use Rattle.grammar.specs.Control.{Order, forced_start, start, stop, selectors, alphas, area, offsets, colours, code_of, size_of, Command, command_end, Block, length_word, control_word, IsChain}
use Rattle.grammar.specs.Record.{Told, told}
use Rattle.control_model.specs.Fold.{untold, tell, tell_block, tell_chain}
use Rattle.bands_model.specs.Bands.{bands_of}
use Rattle.bands_model.specs.Answers.{count_of, ListRead}
use Rattle.bands_model.proofs.Loops.{words-join}
use Rattle.control_model.specs.Listed.{bands_at}
use Rattle.control_model.specs.Chain.{plain_at, change_at, order_at, command, command_at, commands_at, block, block_at, chain_next, blocks_at, chain_at, has_area, control_at}
use Rattle.control_model.specs.Fill.{order_words, block_words, chain_words, unit_words, OrderFilled, Filled}
use Rattle.control_model.specs.declared.Place.{Place}
use Rattle.control_model.proofs.Fold.{folded}
use Rattle.control_model.proofs.Listed.{bands-listed}
use Rattle.control_model.proofs.Grammar.{order_sound, commands-step, blocks_step, blocks-iff, chain_iff}

-- ---- A colour change

-- what one that was read says
pub record Change (u : List ℕ) (L p : ℕ) (o : Order) : Type 0 where
  pub head : p + 2 ≤ L
  pub small : 2 ≤ word u p
  pub fits : p + word u p ≤ L
  pub size : size_of o ≡ word u p
  pub reads : bands_of (slice (p + 2) (p + word u p) u) ≡ ok (order_words o)

pub change-is : (u : List ℕ) (L p : ℕ) (o : Order) → L ≤ length u → change_at u L p ≡ ok o → Change u L p o
unfolding change_at order_words untold
change-is u L p o i e =
    let a = check-ok (leb (p + 2) L) cut_parameters _ e in
    let b = check-ok (leb 2 (word u p)) small_size _ a.1 in
    let c = check-ok (leb (p + word u p) L) cut_parameters _ b.1 in
    let w = map_res-ok (colours (word u p)) (bands_at u (p + word u p) (p + 2)) c.1 in
    let l = leb-true (p + word u p) L c.0 in
    let m = leb-true 2 (word u p) b.0 in
    let d = bands-listed u (p + word u p) (omega arith) (p + 2) w.0 (omega arith) w.1 in
    subst (Change u L p) w.2 (record { head = leb-true (p + 2) L a.0; small = m; fits = l; size = refl; reads = d.1 })

module _ (u : List ℕ) (L p : ℕ) (o : Order) (c : Change u L p o) (s : List ℕ) (part : s ≡ slice (p + 2) (p + word u p) u) (to : ℕ) (ws : List ℕ) (room : to + length (order_words o) ≤ length ws) where
  reads_all : bands_of s ≡ ok (order_words o)
  reads_all = ap bands_of part ∙ c.reads

  -- what storing them asks for
  pub change_known : IsOk (bands_of s) × (to + length (listed (bands_of s)) ≤ length ws)
  change_known = rw reads_all (tt, room)

  pub change_count : (n : ℕ) (r : Res ℕ) (ws' : List ℕ) → ListRead s to ws r ws' → r ≡ ok n → n ≡ length (order_words o)
  change_count n r ws' q e = let z : ok n ≡ ok (0 + length (order_words o)) = sym e ∙ q.answer ∙ ap (count_of 0) reads_all in let y : n ≡ 0 + length (order_words o) = cc in omega arith

  pub change_filled : (z n : ℕ) (r : Res ℕ) (ws' : List ℕ) → z ≡ word u p → ListRead s to ws r ws' → r ≡ ok n
      → OrderFilled o p to ws (record { at = p + z; to = to + n }) ws'
  change_filled z n r ws' y q e =
      record { next = ap (λ (k : ℕ). p + k) (y ∙ sym c.size); place = ap (λ (k : ℕ). to + k) (change_count n r ws' q e); words = q.words change_known.0 ∙ ap (λ (g : Res (List ℕ)). sets ws to (listed g)) reads_all }

  pub change-kept : (k : ℕ) (r : Res ℕ) (ws' : List ℕ) → ListRead s to ws r ws' → r ≡ refuse k → ⊥
  change-kept k r ws' q e = let z : refuse k ≡ ok (0 + length (order_words o)) = sym e ∙ q.answer ∙ ap (count_of 0) reads_all in let y : ◌≡◌ {A = ℕ} 0 1 = cc in omega arith

-- ---- Any command

-- a byte of 7 or more that is read is a colour change; one below 7 has no words
pub order_changes : (u : List ℕ) (L p k : ℕ) (o : Order) → 7 ≤ k → order_at u L p k ≡ ok o → change_at u L p ≡ ok o
unfolding order_at
order_changes u L p k o h e = go (eqb k 7) (rw (le-ltb k 7 h) at e)
  where
    go : (t : Bool) → cond t (change_at u L p) (refuse unknown_command) ≡ ok o → change_at u L p ≡ ok o
    go true f = f
    go false f = ok-not-refuse f

pub order-plain : (u : List ℕ) (L p k : ℕ) (o : Order) → k < 7 → order_at u L p k ≡ ok o → plain_at u p k ≡ o
unfolding order_at
order-plain u L p k o h e = ok-injective (check-ok (leb (p + size_of (plain_at u p k)) L) cut_parameters _ (rw (lt-ltb k 7 h) at e)).1

no_words : (o : Order) → code_of o < 7 → order_words o ≡ []
unfolding order_words untold band_words
no_words forced_start h = refl
no_words start h = refl
no_words stop h = refl
no_words (selectors w) h = refl
no_words (alphas w) h = refl
no_words (area a b c d) h = refl
no_words (offsets a b) h = refl
no_words (colours s bs) h = absurd (omega arith)

pub plain_filled : (u : List ℕ) (L p k n to : ℕ) (o : Order) (ws : List ℕ) → L ≤ length u → k < 7 → n ≡ size_of (plain_at u p k) → order_at u L p k ≡ ok o
    → OrderFilled o p to ws (record { at = p + n; to = to }) ws
plain_filled u L p k n to o ws i h e q =
    let s = order_sound u L i p k o q in
    let d = s.coded in
    let w = no_words o (omega arith) in
    let l : length (order_words o) ≡ 0 = ap length w in
    record { next = ap (λ (j : ℕ). p + j) (e ∙ ap size_of (order-plain u L p k o h q)); place = omega arith; words = ap (sets ws to) (sym w) }

-- ---- The commands of a block

-- where storing the words of a block's commands stands
pub record Filling (u : List ℕ) (L from start : ℕ) (ws : List ℕ) (at to : ℕ) (ws' : List ℕ) : Type 0 where
  pub cs : List Command
  pub reads : commands_at u L at ≡ ok cs
  pub long : length ws' ≡ length ws
  pub goes : (all : List Command) → commands_at u L from ≡ ok all → (to + length (block_words cs) ≡ start + length (block_words all)) × (sets ws' to (block_words cs) ≡ sets ws start (block_words all))

module _ (u : List ℕ) (L from start : ℕ) (ws : List ℕ) (inside : L ≤ length u) where
  pub filling-starts : (all : List Command) → commands_at u L from ≡ ok all → Filling u L from start ws from start ws
  filling-starts all e =
      record {
        cs = all;
        reads = e;
        long = refl;
        goes = λ a f. let q : all ≡ a = ok-injective (sym e ∙ f) in (ap (λ (l : List Command). start + length (block_words l)) q, ap (λ (l : List Command). sets ws start (block_words l)) q);
      }

  module _ (at to : ℕ) (ws' : List ℕ) (i : Filling u L from start ws at to ws') where
    -- one command more
    record Next : Type 0 where
      o : Order
      rest : List Command
      is : order_at u L (at + 1) (byte u at) ≡ ok o
      after : commands_at u L (at + 1 + size_of o) ≡ ok rest
      all : block_words i.cs ≡ order_words o ++ block_words rest

    next : at < L → (byte u at ≡ 255 → ⊥) → Next
    unfolding block_words command_at
    next l b =
        let e : and_then (command_at u L at) (λ c. cons_res c (commands_at u L (command_end c))) ≡ ok i.cs = rw (commands-step u L inside at, lt-leb L at l, ne_eqb (byte u at) 255 b) at i.reads in
        let w = and_then-ok (command_at u L at) (λ c. cons_res c (commands_at u L (command_end c))) e in
        let v = cons_res-ok w.0 (commands_at u L (command_end w.0)) w.2 in
        let m = map_res-ok (command at) (order_at u L (at + 1) (byte u at)) w.1 in
        record {
          o = m.0;
          rest = v.0;
          is = m.1;
          after = subst (λ (c : Command). commands_at u L (command_end c) ≡ ok v.0) (sym m.2) v.1;
          all = ap block_words (sym v.2) ∙ ap (λ (c : Command). order_words c.order ++ block_words v.0) (sym m.2);
        }

    pub filling_has : at < L → (byte u at ≡ 255 → ⊥) → (all : List Command) → commands_at u L from ≡ ok all → start + length (block_words all) ≤ length ws
        → (o : Order) × (order_at u L (at + 1) (byte u at) ≡ ok o) × (to + length (order_words o) ≤ length ws')
    filling_has l b all e h =
        let n = next l b in
        let g = (i.goes all e).0 in
        let k = ap length n.all ∙ length-append (order_words n.o) (block_words n.rest) in
        let m = i.long in
        (n.o, n.is, omega arith)

    module _ (l : at < L) (b : byte u at ≡ 255 → ⊥) (r : Place) (v : List ℕ) (f : (o : Order) → order_at u L (at + 1) (byte u at) ≡ ok o → OrderFilled o (at + 1) to ws' r v) where
      pub filling_falls : (at < r.at) × (r.at ≤ L)
      filling_falls =
          let n = next l b in
          let g = (f n.o n.is).next in
          let s = (order_sound u L inside (at + 1) (byte u at) n.o n.is).within in
          (omega arith, omega arith)

      pub filling_goes : Filling u L from start ws r.at r.to v
      filling_goes =
          let n = next l b in
          let g = f n.o n.is in
          let p = g.place in
          let k = ap length n.all ∙ length-append (order_words n.o) (block_words n.rest) in
          record {
            cs = n.rest;
            reads = rw g.next n.after;
            long = ap length g.words ∙ length-sets ws' to (order_words n.o) ∙ i.long;
            goes = λ all e. let h = i.goes all e in let h0 = h.0 in (omega arith, rw (p, g.words) (sym (sets-append ws' to (order_words n.o) (block_words n.rest))) ∙ ap (sets ws' to) (sym n.all) ∙ h.1);
          }

    pub filling_ends : ((at < L) → byte u at ≡ 255) → (all : List Command) → commands_at u L from ≡ ok all → Filled (block_words all) start ws to ws'
    unfolding block_words
    filling_ends h all e =
        let q : i.cs ≡ [] = ok-injective (sym i.reads ∙ stops (le_or_lt L at)) in
        let g = i.goes all e in
        let k : length (block_words i.cs) ≡ 0 = ap (λ (l : List Command). length (block_words l)) q in
        let g0 = g.0 in
        record { place = omega arith; words = sym (ap (λ (l : List Command). sets ws' to (block_words l)) q) ∙ g.1 }
      where
        stops : (L ≤ at) ⊎ (at < L) → commands_at u L at ≡ ok []
        stops (inl l) = rw (commands-step u L inside at, le-leb L at l)
        stops (inr l) = rw (commands-step u L inside at, lt-leb L at l, eq-eqb (byte u at) 255 (h l))

-- ---- The blocks of a chain

-- where storing the words of a chain's blocks stands
pub record ChainFilling (u : List ℕ) (L from : ℕ) (ws : List ℕ) (pos to : ℕ) (ws' : List ℕ) : Type 0 where
  pub below : pos < 65536
  pub bs : List Block
  pub reads : blocks_at u L (some pos) ≡ ok bs
  pub long : length ws' ≡ length ws
  pub goes : (all : List Block) → blocks_at u L (some from) ≡ ok all → (to + length (chain_words bs) ≡ length (chain_words all)) × (sets ws' to (chain_words bs) ≡ sets ws 0 (chain_words all))

module _ (u : List ℕ) (L from : ℕ) (ws : List ℕ) (inside : L ≤ length u) where
  pub chain-starts : from < 65536 → (all : List Block) → blocks_at u L (some from) ≡ ok all → ChainFilling u L from ws from 0 ws
  chain-starts k all e =
      record {
        below = k;
        bs = all;
        reads = e;
        long = refl;
        goes = λ a f. let q : all ≡ a = ok-injective (sym e ∙ f) in let z = ap (λ (l : List Block). length (chain_words l)) q in (omega arith, ap (λ (l : List Block). sets ws 0 (chain_words l)) q);
      }

  module _ (pos to : ℕ) (ws' : List ℕ) (i : ChainFilling u L from ws pos to ws') where
    pub chain_ends : L < pos + 4 → (all : List Block) → blocks_at u L (some from) ≡ ok all → ws' ≡ sets ws 0 (chain_words all)
    unfolding chain_words
    chain_ends h all e =
        let q : i.bs ≡ [] = ok-injective (sym i.reads ∙ rw (blocks_step u L inside (some pos), lt-ltb L (pos + 4) h)) in
        sym (ap (λ (l : List Block). sets ws' to (chain_words l)) q) ∙ (i.goes all e).1

    -- one block more
    record NextBlock : Type 0 where
      cs : List Command
      rest : List Block
      is : commands_at u L (pos + 4) ≡ ok cs
      after : blocks_at u L (chain_next (some pos) (block u pos cs)) ≡ ok rest
      all : chain_words i.bs ≡ block_words cs ++ chain_words rest

    module _ (h : pos + 4 ≤ L) where
      next-block : NextBlock
      unfolding chain_words block_at
      next-block =
          let e : and_then (block_at u L pos) (λ b. cons_res b (blocks_at u L (chain_next (some pos) b))) ≡ ok i.bs = rw (blocks_step u L inside (some pos), le-ltb L (pos + 4) h) at i.reads in
          let w = and_then-ok (block_at u L pos) (λ b. cons_res b (blocks_at u L (chain_next (some pos) b))) e in
          let v = cons_res-ok w.0 (blocks_at u L (chain_next (some pos) w.0)) w.2 in
          let m = map_res-ok (block u pos) (commands_at u L (pos + 4)) w.1 in
          record {
            cs = m.0;
            rest = v.0;
            is = m.1;
            after = subst (λ (b : Block). blocks_at u L (chain_next (some pos) b) ≡ ok v.0) (sym m.2) v.1;
            all = ap chain_words (sym v.2) ∙ ap (λ (b : Block). block_words b.commands ++ chain_words v.0) (sym m.2);
          }

      pub chain_has : (all : List Block) → blocks_at u L (some from) ≡ ok all → length (chain_words all) ≤ length ws
          → (cs : List Command) × (commands_at u L (pos + 4) ≡ ok cs) × (to + length (block_words cs) ≤ length ws')
      chain_has all e k =
          let n = next-block in
          let g = (i.goes all e).0 in
          let j = ap length n.all ∙ length-append (block_words n.cs) (chain_words n.rest) in
          let m = i.long in
          (n.cs, n.is, omega arith)

      module _ (r : ℕ) (v : List ℕ) (f : (cs : List Command) → commands_at u L (pos + 4) ≡ ok cs → Filled (block_words cs) to ws' r v) (n : ℕ) (next : n ≡ word u (pos + 2)) where
        stored-so : (all : List Block) → blocks_at u L (some from) ≡ ok all
            → (r + length (chain_words next-block.rest) ≡ length (chain_words all)) × (sets v r (chain_words next-block.rest) ≡ sets ws 0 (chain_words all))
        stored-so all e =
            let b = next-block in
            let g = f b.cs b.is in
            let p = g.place in
            let h' = i.goes all e in
            let h0 = h'.0 in
            let j = ap length b.all ∙ length-append (block_words b.cs) (chain_words b.rest) in
            (omega arith, rw (p, g.words) (sym (sets-append ws' to (block_words b.cs) (chain_words b.rest))) ∙ ap (sets ws' to) (sym b.all) ∙ h'.1)

        pub chain-last : n ≤ pos → (all : List Block) → blocks_at u L (some from) ≡ ok all → v ≡ sets ws 0 (chain_words all)
        unfolding chain_words
        chain-last l all e =
            let b = next-block in
            let l' : word u (pos + 2) ≤ pos = rw (← next) l in
            let z : blocks_at u L none ≡ ok b.rest = rw (le-leb (word u (pos + 2)) pos l') at b.after in
            let q : b.rest ≡ [] = ok-injective (sym z ∙ rw (blocks_step u L inside none)) in
            sym (ap (λ (x : List Block). sets v r (chain_words x)) q) ∙ (stored-so all e).1

        pub chain_goes : n < 65536 → pos < n → ChainFilling u L from ws n r v
        chain_goes k l =
            let b = next-block in
            let l' : pos < word u (pos + 2) = rw (← next) l in
            let z : blocks_at u L (some (word u (pos + 2))) ≡ ok b.rest = rw (lt-leb (word u (pos + 2)) pos l') at b.after in
            let g = f b.cs b.is in
            record {
              below = k;
              bs = b.rest;
              reads = rw next z;
              long = ap length g.words ∙ length-sets ws' to (block_words b.cs) ∙ i.long;
              goes = stored-so;
            }

-- ---- All that was told

order_joins : (d : ℕ) (o : Order) (t : Told) → band_words (tell d o t).bands ≡ band_words t.bands ++ order_words o
unfolding order_words untold band_words
order_joins d forced_start t = sym (append-nil (band_words t.bands))
order_joins d start t = sym (append-nil (band_words t.bands))
order_joins d stop t = sym (append-nil (band_words t.bands))
order_joins d (selectors w) t = sym (append-nil (band_words t.bands))
order_joins d (alphas w) t = sym (append-nil (band_words t.bands))
order_joins d (area a b c e) t = sym (append-nil (band_words t.bands))
order_joins d (offsets a b) t = sym (append-nil (band_words t.bands))
order_joins d (colours s bs) t = words-join t.bands bs

block-joins : (d : ℕ) (cs : List Command) (t : Told) → band_words (tell_block d cs t).bands ≡ band_words t.bands ++ block_words cs
unfolding tell_block block_words
block-joins d [] t = sym (append-nil (band_words t.bands))
block-joins d (c ∷ cs) t =
    block-joins d cs (tell d c.order t) ∙ ap (λ (l : List ℕ). l ++ block_words cs) (order_joins d c.order t)
    ∙ append_assoc (band_words t.bands) (order_words c.order) (block_words cs)

chain_joins : (bs : List Block) (t : Told) → band_words (tell_chain bs t).bands ≡ band_words t.bands ++ chain_words bs
unfolding tell_chain chain_words
chain_joins [] t = sym (append-nil (band_words t.bands))
chain_joins (b ∷ bs) t =
    chain_joins bs (tell_block b.delay b.commands t) ∙ ap (λ (l : List ℕ). l ++ chain_words bs) (block-joins b.delay b.commands t)
    ∙ append_assoc (band_words t.bands) (block_words b.commands) (chain_words bs)

pub told-words : (bs : List Block) → band_words (told bs).bands ≡ chain_words bs
unfolding untold band_words
told-words bs = ap (λ (t : Told). band_words t.bands) (sym (folded bs)) ∙ chain_joins bs untold

-- ---- A unit that was read

pub record UnitRead (u : List ℕ) : Type 0 where
  pub bs : List Block
  pub is : IsChain u bs
  pub found : blocks_at u (length_word u) (some (control_word u)) ≡ ok bs
  pub area : has_area (told bs) ≡ true
  pub reads : control_at u ≡ ok bs
  pub words : unit_words u ≡ chain_words bs

pub control-is : (u : List ℕ) (bs : List Block) → control_at u ≡ ok bs → UnitRead u
unfolding control_at
control-is u bs e =
    let w = and_then-ok (chain_at u) (λ (l : List Block). check (has_area (told l)) no_area (ok l)) e in
    let c = check-ok (has_area (told w.0)) no_area (ok w.0) w.2 in
    let q : w.0 ≡ bs = ok-injective c.1 in
    let i : IsChain u bs = (chain_iff u bs).0 (w.1 ∙ ap ok q) in
    record {
      bs = bs;
      is = i;
      found = (blocks-iff u (length_word u) i.inside (control_word u) bs).1 i.chain;
      area = ap (λ (l : List Block). has_area (told l)) (sym q) ∙ c.0;
      reads = e;
      words = ap (λ (r : Res (List Block)). band_words (told (listed r)).bands) e ∙ told-words bs;
    }

pub unit-read : (u : List ℕ) → IsOk (control_at u) → UnitRead u
unit-read u k = go (control_at u) refl k
  where
    go : (r : Res (List Block)) → control_at u ≡ r → IsOk r → UnitRead u
    go (refuse n) q k = absurd k
    go (ok bs) q k = control-is u bs q
