-- The blocks that are found are the ones that the grammar lists, so that no unit has two chains. Assumes nothing.
use Prim.Native.Nat.{ℕ, zero, suc, ◌+◌, ◌-◌, ◌≤◌, ◌<◌}
use native.Mathlib.Omega.{arith}
use mathlib.Core.Path.{◌≡◌, refl, sym, ap, ◌∙◌, subst}
use mathlib.Core.Bool.{Bool, true, false, cond, ◌&&◌}
use mathlib.Core.Logic.{◌⊎◌, inl, inr, ⊎_elim, ◌↔◌}
use Rattle.std.specs.Prelude.{Option, Some as some, None as none}
use mathlib.Core.List.{List, [], ◌∷◌}
use lib.ListN.{length}
use lib.Dec.{eqb, leb}
use borrow.Author.Tests.{leb-true, eqb-true, ltb-true, ltb-false, le-leb, lt-leb, eq-eqb, ne_eqb, lt-ltb, le-ltb}
use Rattle.outcome.specs.Outcome.{ok, refuse, and_then, cons_res, no_head, bad_head, cut_parameters, small_size, unknown_command}
use Rattle.outcome.specs.Lists.{Listed}
use Rattle.outcome.proofs.Laws.{ok-not-refuse, ok-injective, map_res-ok, check-ok, and-true, le_or_lt}
use Rattle.outcome.proofs.Lists.{list_iff, list_step}
use Rattle.grammar.specs.Bytes.{byte, word}
use Rattle.grammar.specs.Bands.{Band}
use Rattle.grammar.specs.Control.{Order, forced_start, start, stop, selectors, alphas, area, offsets, colours, code_of, size_of, Written, Command, command_end, IsCommand, CommandsEnd, Commands, Block, IsBlock, Chain, length_word, control_word, IsChain}
use Rattle.control_model.specs.Listed.{bands_at}
use Rattle.control_model.specs.Chain.{plain_at, change_at, order_at, command, command_at, commands_stop, next_command, commands_at, block, block_at, chain_stop, chain_block, chain_next, chain_left, blocks_at, head_fits, chain_at}
use Rattle.control_model.proofs.Listed.{bands-found, bands-listed}

-- ---- An order

-- what stands behind byte k at p is o
pub record Ordered (u : List ℕ) (L p k : ℕ) (o : Order) : Type 0 where
  pub within : p + size_of o ≤ L
  pub coded : k ≡ code_of o
  pub says : Written u p o

-- the order of a byte below 7 says what stands there
plain-says : (u : List ℕ) (p k : ℕ) → k < 7 → (k ≡ code_of (plain_at u p k)) × Written u p (plain_at u p k)
unfolding plain_at
plain-says u p zero h = (refl, tt)
plain-says u p (suc zero) h = (refl, tt)
plain-says u p (suc (suc zero)) h = (refl, tt)
plain-says u p (suc (suc (suc zero))) h = (refl, refl)
plain-says u p (suc (suc (suc (suc zero)))) h = (refl, refl)
plain-says u p (suc (suc (suc (suc (suc zero))))) h = (refl, (refl, refl, refl, refl))
plain-says u p (suc (suc (suc (suc (suc (suc zero)))))) h = (refl, (refl, refl))
plain-says u p (suc (suc (suc (suc (suc (suc (suc k))))))) h = absurd (omega arith)

module _ (u : List ℕ) (L : ℕ) (inside : L ≤ length u) where
  change_sound : (p : ℕ) (o : Order) → change_at u L p ≡ ok o → Ordered u L p 7 o
  unfolding change_at
  change_sound p o e =
      let a = check-ok (leb (p + 2) L) cut_parameters _ e in
      let b = check-ok (leb 2 (word u p)) small_size _ a.1 in
      let c = check-ok (leb (p + word u p) L) cut_parameters _ b.1 in
      let w = map_res-ok (colours (word u p)) (bands_at u (p + word u p) (p + 2)) c.1 in
      let l = leb-true (p + word u p) L c.0 in
      let m = leb-true 2 (word u p) b.0 in
      let d = bands-listed u (p + word u p) (omega arith) (p + 2) w.0 (omega arith) w.1 in
      subst (Ordered u L p 7) w.2 (record { within = l; coded = refl; says = (m, refl, d.0) })

  pub order_sound : (p k : ℕ) (o : Order) → order_at u L p k ≡ ok o → Ordered u L p k o
  unfolding order_at
  order_sound p k o e =
      ⊎_elim
      (λ h.
      let c = check-ok (leb (p + size_of (plain_at u p k)) L) cut_parameters _ (rw (lt-ltb k 7 h) at e) in
      let q = ok-injective c.1 in
      let s = plain-says u p k h in
      subst (Ordered u L p k) q (record { within = leb-true _ _ c.0; coded = s.0; says = s.1 }))
      (λ h. seven (eqb k 7) refl (rw (le-ltb k 7 h) at e))
      (lt_or_le k 7)
    where
      lt_or_le : (a b : ℕ) → (a < b) ⊎ (b ≤ a)
      lt_or_le a b = ⊎_elim (λ x. inr x) (λ x. inl x) (le_or_lt b a)

      seven : (t : Bool) → eqb k 7 ≡ t → cond t (change_at u L p) (refuse unknown_command) ≡ ok o → Ordered u L p k o
      seven true q f = subst (λ (j : ℕ). Ordered u L p j o) (sym (eqb-true k 7 q)) (change_sound p o f)
      seven false q f = ok-not-refuse f

  change-complete : (p s : ℕ) (bs : List Band) → Ordered u L p 7 (colours s bs) → change_at u L p ≡ ok (colours s bs)
  unfolding change_at
  change-complete p s bs h =
      let k = h.says in
      let w = h.within in
      let l : p + 2 ≤ L = omega (arith, k.0) in
      rw (← k.1, le-leb _ _ l, le-leb _ _ k.0, le-leb _ _ w, bands-found u (p + s) (omega arith) (p + 2) bs k.2)

  plain-complete : (p : ℕ) (o : Order) → code_of o < 7 → plain_at u p (code_of o) ≡ o → p + size_of o ≤ L → order_at u L p (code_of o) ≡ ok o
  unfolding order_at
  plain-complete p o h e w = rw (lt-ltb (code_of o) 7 h, e, le-leb _ _ w)

  order-complete : (p : ℕ) (o : Order) → p + size_of o ≤ L → Written u p o → order_at u L p (code_of o) ≡ ok o
  unfolding plain_at order_at
  order-complete p forced_start w h = plain-complete p forced_start (omega arith) refl w
  order-complete p start w h = plain-complete p start (omega arith) refl w
  order-complete p stop w h = plain-complete p stop (omega arith) refl w
  order-complete p (selectors v) w h = plain-complete p (selectors v) (omega arith) (ap selectors (sym h)) w
  order-complete p (alphas v) w h = plain-complete p (alphas v) (omega arith) (ap alphas (sym h)) w
  order-complete p (area a b c d) w h = plain-complete p (area a b c d) (omega arith) (λ t. area (sym h.0 t) (sym h.1 t) (sym h.2 t) (sym h.3 t)) w
  order-complete p (offsets a b) w h = plain-complete p (offsets a b) (omega arith) (λ t. offsets (sym h.0 t) (sym h.1 t)) w
  order-complete p (colours s bs) w h = change-complete p s bs (record { within = w; coded = refl; says = h })

  -- ---- Commands

  pub command-sound : (p : ℕ) (c : Command) → command_at u L p ≡ ok c → (c.place ≡ p) × IsCommand u L c
  unfolding command_at
  command-sound p c e =
      let w = map_res-ok (command p) (order_at u L (p + 1) (byte u p)) e in
      let o = order_sound (p + 1) (byte u p) w.0 w.1 in
      subst (λ (d : Command). (d.place ≡ p) × IsCommand u L d) w.2 (refl, record { within = o.within; coded = o.coded; says = o.says })

  command-complete : (c : Command) → IsCommand u L c → command_at u L c.place ≡ ok c
  unfolding command_at
  command-complete c h = rw (h.coded, order-complete (c.place + 1) c.order h.within h.says)

  byte-below : (o : Order) → code_of o < 8
  byte-below forced_start = omega arith
  byte-below start = omega arith
  byte-below stop = omega arith
  byte-below (selectors w) = omega arith
  byte-below (alphas w) = omega arith
  byte-below (area a b c d) = omega arith
  byte-below (offsets t b) = omega arith
  byte-below (colours s bs) = omega arith

  -- commands stop at L or at `FF`, and no command stands there
  stop-sound : (p : ℕ) → p ≤ L → commands_stop u L p ≡ true → CommandsEnd u L p
  stop-sound p h e =
      ⊎_elim (λ l. inl (omega arith)) (λ l. inr (l, eqb-true _ _ (rw (lt-leb L p l) at e))) (le_or_lt L p)

  stop-complete : (p : ℕ) → CommandsEnd u L p → commands_stop u L p ≡ true
  stop-complete p (inl e) = let l : L ≤ p = omega arith in rw (le-leb L p l)
  stop-complete p (inr e) = rw (lt-leb L p e.0, eq-eqb _ _ e.1)

  command-stands : (p : ℕ) (c : Command) → c.place ≡ p → IsCommand u L c → commands_stop u L p ≡ false
  command-stands p c q h =
      let w = h.within in
      let l : p < L = omega arith in
      let g : byte u p ≡ code_of c.order = ap (byte u) (sym q) ∙ h.coded in
      let b = byte-below c.order in
      rw (lt-leb L p l, ne_eqb (byte u p) 0xFF (λ e. omega arith))

  commands-listed : (p : ℕ) (cs : List Command) → Commands u L p cs → Listed (commands_stop u L) (command_at u L) next_command p cs
  unfolding Commands Listed
  commands-listed p [] h = stop-complete p h
  commands-listed p (c ∷ cs) h = (
    command-stands p c h.0 h.1,
    rw (← h.0) (command-complete c h.1),
    commands-listed (command_end c) cs h.2,
  )

  listed-commands : (p : ℕ) (cs : List Command) → p ≤ L → Listed (commands_stop u L) (command_at u L) next_command p cs → Commands u L p cs
  unfolding Commands Listed
  listed-commands p [] l h = stop-sound p l h
  listed-commands p (c ∷ cs) l h =
      let x = command-sound p c h.1 in
      (x.0, x.1, listed-commands (command_end c) cs x.1.within h.2)

  pub command-falls : (p : ℕ) (c : Command) → commands_stop u L p ≡ false → command_at u L p ≡ ok c → L - command_end c < L - p
  command-falls p c t e = let x = command-sound p c e in let w = x.1.within in let q = x.0 in omega arith

  pub commands-iff : (p : ℕ) (cs : List Command) → p ≤ L → (commands_at u L p ≡ ok cs) ↔ Commands u L p cs
  unfolding commands_at
  commands-iff p cs l =
      let i = list_iff (commands_stop u L) (command_at u L) next_command (λ (q : ℕ). L - q) command-falls p cs in
      (λ h. listed-commands p cs l (i.0 h), λ h. i.1 (commands-listed p cs h))

  -- one turn
  pub commands-step : (p : ℕ) → commands_at u L p ≡ cond (commands_stop u L p) (ok []) (and_then (command_at u L p) (λ c. cons_res c (commands_at u L (command_end c))))
  unfolding commands_at
  commands-step p = list_step (commands_stop u L) (command_at u L) next_command (λ (q : ℕ). L - q) command-falls p

  -- ---- Blocks

  block-sound : (p : ℕ) (b : Block) → p + 4 ≤ L → block_at u L p ≡ ok b → (b.place ≡ p) × IsBlock u L b
  unfolding block_at
  block-sound p b l e =
      let w = map_res-ok (block u p) (commands_at u L (p + 4)) e in
      subst (λ (c : Block). (c.place ≡ p) × IsBlock u L c) w.2 (
        refl,
        record { within = l; delay_is = refl; next_is = refl; list = (commands-iff (p + 4) w.0 l).0 w.1 },
      )

  block-complete : (b : Block) → IsBlock u L b → block_at u L b.place ≡ ok b
  unfolding block_at
  block-complete b h =
      rw ((commands-iff (b.place + 4) b.commands h.within).1 h.list)
      (λ i. ok (record { place = b.place; delay = sym h.delay_is i; next = sym h.next_is i; commands = b.commands }))

  -- the chain from a place on, or ended
  abbrev ChainOn : Option ℕ → List Block → Type 0
  ChainOn none bs = bs ≡ []
  ChainOn (some p) bs = Chain u L p bs

  abbrev After : Block → List Block → Type 0
  After b bs = ((b.next ≤ b.place) × (bs ≡ [])) ⊎ ((b.place < b.next) × Chain u L b.next bs)

  after_on : (s : Option ℕ) (b : Block) (bs : List Block) → After b bs → ChainOn (chain_next s b) bs
  after_on s b bs (inl x) = rw (le-leb _ _ x.0) x.1
  after_on s b bs (inr x) = rw (lt-leb _ _ x.0) x.1

  on-after : (s : Option ℕ) (b : Block) (bs : List Block) → ChainOn (chain_next s b) bs → After b bs
  on-after s b bs h = ⊎_elim (λ l. inl (l, rw (le-leb _ _ l) at h)) (λ l. inr (l, rw (lt-leb _ _ l) at h)) (le_or_lt b.next b.place)

  chain-listed : (s : Option ℕ) (bs : List Block) → ChainOn s bs → Listed (chain_stop L) (chain_block u L) chain_next s bs
  unfolding Listed Chain
  chain-listed none [] h = refl
  chain-listed none (b ∷ bs) h = absurd (let z : ◌≡◌ {A = ℕ} 0 1 = cc in omega arith)
  chain-listed (some p) [] h = lt-ltb _ _ h
  chain-listed (some p) (b ∷ bs) h =
      let w = h.1.within in
      let q = h.0 in (
        le-ltb L (p + 4) (omega arith),
        rw (← h.0) (block-complete b h.1),
        chain-listed (chain_next (some p) b) bs (after_on (some p) b bs h.2),
      )

  listed-chain : (s : Option ℕ) (bs : List Block) → Listed (chain_stop L) (chain_block u L) chain_next s bs → ChainOn s bs
  unfolding Listed Chain
  listed-chain none [] h = refl
  listed-chain none (b ∷ bs) h = ok-not-refuse h.1
  listed-chain (some p) [] h = ltb-true _ _ h
  listed-chain (some p) (b ∷ bs) h =
      let x = block-sound p b (ltb-false _ _ h.0) h.1 in
      (x.0, x.1, on-after (some p) b bs (listed-chain (chain_next (some p) b) bs h.2))

  pub chain-falls : (s : Option ℕ) (b : Block) → chain_stop L s ≡ false → chain_block u L s ≡ ok b → chain_left L (chain_next s b) < chain_left L s
  chain-falls none b t e = ok-not-refuse e
  chain-falls (some p) b t e =
      let x = block-sound p b (ltb-false _ _ t) e in
      let w = x.1.within in
      let q = x.0 in
      ⊎_elim (λ l. rw (le-leb b.next b.place l) (omega arith)) (λ l. rw (lt-leb b.next b.place l) (omega arith)) (le_or_lt b.next b.place)

  pub blocks-iff : (p : ℕ) (bs : List Block) → (blocks_at u L (some p) ≡ ok bs) ↔ Chain u L p bs
  unfolding blocks_at
  blocks-iff p bs =
      let l = list_iff (chain_stop L) (chain_block u L) chain_next (chain_left L) chain-falls (some p) bs in
      (λ h. listed-chain (some p) bs (l.0 h), λ h. l.1 (chain-listed (some p) bs h))

  -- one turn
  pub blocks_step : (s : Option ℕ) → blocks_at u L s ≡ cond (chain_stop L s) (ok []) (and_then (chain_block u L s) (λ b. cons_res b (blocks_at u L (chain_next s b))))
  unfolding blocks_at
  blocks_step s = list_step (chain_stop L) (chain_block u L) chain_next (chain_left L) chain-falls s

-- ---- The chain of a unit

pub chain_iff : (u : List ℕ) (bs : List Block) → (chain_at u ≡ ok bs) ↔ IsChain u bs
unfolding chain_at head_fits
chain_iff u bs = (to, from)
  where
    to : chain_at u ≡ ok bs → IsChain u bs
    to e =
        let a = check-ok (leb 4 (length u)) no_head _ e in
        let b = check-ok (leb 4 (control_word u) && leb (control_word u) (length_word u) && leb (length_word u) (length u)) bad_head _ a.1 in
        let d = and-true (leb 4 (control_word u) && leb (control_word u) (length_word u)) (leb (length_word u) (length u)) b.0 in
        let c = and-true (leb 4 (control_word u)) (leb (control_word u) (length_word u)) d.0 in
        let i = leb-true (length_word u) (length u) d.1 in
        record { head = leb-true _ _ a.0; control = leb-true _ _ c.0; order = leb-true _ _ c.1; inside = i; chain = (blocks-iff u (length_word u) i (control_word u) bs).0 b.1 }

    from : IsChain u bs → chain_at u ≡ ok bs
    from h =
        rw (le-leb _ _ h.head, le-leb _ _ h.control, le-leb _ _ h.order, le-leb _ _ h.inside)
        ((blocks-iff u (length_word u) h.inside (control_word u) bs).1 h.chain)

-- no unit has two chains
pub chain_unique : (u : List ℕ) (a b : List Block) → IsChain u a → IsChain u b → a ≡ b
chain_unique u a b x y = ok-injective (sym ((chain_iff u a).1 x) ∙ (chain_iff u b).1 y)
