-- No two lists pass: a place has one command and one block, a unit one chain of blocks, one list of rows, and so one listing.
-- Assumes nothing.
use Prim.Native.Nat.{ℕ, suc, ◌+◌, ◌*◌, ◌≤◌, ◌<◌}
use native.Mathlib.Omega.{arith}
use mathlib.Core.Path.{◌≡◌, refl, sym, ap, ap₂, ◌∙◌}
use mathlib.Core.Logic.{◌⊎◌, inl, inr, ⊎_elim}
use mathlib.Core.List.{List, [], ◌∷◌}
use lib.ListN.{length, get_or}
use Rattle.grammar.specs.Bytes.{byte, word, nibbles}
use Rattle.grammar.specs.Bands.{Band, Bands}
use Rattle.grammar.specs.Control.{Order, forced_start, start, stop, selectors, alphas, area, offsets, colours, code_of, Written, Command, command_end, IsCommand, CommandsEnd, Commands, Block, IsBlock, Chain, length_word, control_word, IsChain}
use Rattle.grammar.specs.Record.{Told, told, width}
use Rattle.grammar.specs.Rows.{Code}
use Rattle.grammar.specs.Picture.{evens, odds, top_end, Stay0, Bottom, IsPicture, ListedUnit, IsUnit}
use Rattle.grammar.proofs.Unique.{bands-unique, field-unique}

-- ---- Commands

-- the one order that byte c and the bytes from p on can say, but for its bands
abbrev order_at : List ℕ → ℕ → ℕ → List Band → Order
order_at u p c bs =
    get_or
    (forced_start
    ∷ start
    ∷ stop
    ∷ selectors (word u p)
    ∷ alphas (word u p)
    ∷ area (nibbles u (2 * p) 3) (nibbles u (2 * p + 3) 3) (nibbles u (2 * p + 6) 3) (nibbles u (2 * p + 9) 3)
    ∷ offsets (word u p) (word u (p + 2))
    ∷ colours (word u p) bs
    ∷ []) c stop

abbrev bands_of : Order → List Band
bands_of forced_start = []
bands_of start = []
bands_of stop = []
bands_of (selectors w) = []
bands_of (alphas w) = []
bands_of (area x1 x2 y1 y2) = []
bands_of (offsets t b) = []
bands_of (colours s bs) = bs

order_is : (u : List ℕ) (p : ℕ) (o : Order) → Written u p o → o ≡ order_at u p (code_of o) (bands_of o)
order_is u p forced_start h = refl
order_is u p start h = refl
order_is u p stop h = refl
order_is u p (selectors w) h = ap selectors h
order_is u p (alphas w) h = ap alphas h
order_is u p (area x1 x2 y1 y2) h = λ t. area (h.0 t) (h.1 t) (h.2 t) (h.3 t)
order_is u p (offsets a b) h = ap₂ offsets h.0 h.1
order_is u p (colours s bs) h = ap (λ (n : ℕ). colours n bs) h.1

-- a colour change has the bands of its bytes, any other order none
abbrev BandsAt : List ℕ → ℕ → ℕ → List Band → Type 0
BandsAt u p c bs = ((c < 7) × (bs ≡ [])) ⊎ ((c ≡ 7) × Bands u (p + word u p) (p + 2) bs)

bands_are : (u : List ℕ) (p : ℕ) (o : Order) → Written u p o → BandsAt u p (code_of o) (bands_of o)
bands_are u p forced_start h = inl (omega arith, refl)
bands_are u p start h = inl (omega arith, refl)
bands_are u p stop h = inl (omega arith, refl)
bands_are u p (selectors w) h = inl (omega arith, refl)
bands_are u p (alphas w) h = inl (omega arith, refl)
bands_are u p (area x1 x2 y1 y2) h = inl (omega arith, refl)
bands_are u p (offsets a b) h = inl (omega arith, refl)
bands_are u p (colours s bs) h = inr (refl, rw h.1 at h.2)

bands_at-unique : (u : List ℕ) (p c : ℕ) (a b : List Band) → BandsAt u p c a → BandsAt u p c b → a ≡ b
bands_at-unique u p c a b (inl x) (inl y) = x.1 ∙ sym y.1
bands_at-unique u p c a b (inl x) (inr y) = absurd (omega arith)
bands_at-unique u p c a b (inr x) (inl y) = absurd (omega arith)
bands_at-unique u p c a b (inr x) (inr y) = bands-unique u (p + word u p) (p + 2) a b x.1 y.1

order_unique : (u : List ℕ) (p : ℕ) (a b : Order) → code_of a ≡ code_of b → Written u p a → Written u p b → a ≡ b
order_unique u p a b q h k =
    let n : bands_of a ≡ bands_of b = bands_at-unique u p (code_of a) (bands_of a) (bands_of b) (bands_are u p a h) (rw q (bands_are u p b k)) in
    order_is u p a h ∙ ap₂ (order_at u p) q n ∙ sym (order_is u p b k)

code_below : (u : List ℕ) (p : ℕ) (o : Order) → Written u p o → code_of o < 8
code_below u p o h = ⊎_elim (λ x. omega arith) (λ x. omega arith) (bands_are u p o h)

command-unique : (u : List ℕ) (L : ℕ) (a b : Command) → a.place ≡ b.place → IsCommand u L a → IsCommand u L b → a ≡ b
command-unique u L a b q h k =
    let c : code_of a.order ≡ code_of b.order = sym h.coded ∙ ap (byte u) q ∙ k.coded in
    let o : a.order ≡ b.order = order_unique u (a.place + 1) a.order b.order c h.says (rw q k.says) in
    λ t. record { place = q t; order = o t }

-- where the commands end, none starts
no-command : (u : List ℕ) (L p : ℕ) (c : Command) → CommandsEnd u L p → c.place ≡ p → IsCommand u L c → ⊥
no-command u L p c (inl e) q h = omega (arith, h.within)
no-command u L p c (inr f) q h =
    let g : byte u c.place ≡ byte u p = ap (byte u) q in
    omega (arith, f.1, h.coded, code_below u (c.place + 1) c.order h.says)

pub commands-unique : (u : List ℕ) (L p : ℕ) (a b : List Command) → Commands u L p a → Commands u L p b → a ≡ b
unfolding Commands
commands-unique u L p [] [] h k = refl
commands-unique u L p [] (d ∷ b) h k = absurd (no-command u L p d h k.0 k.1)
commands-unique u L p (c ∷ a) [] h k = absurd (no-command u L p c k h.0 h.1)
commands-unique u L p (c ∷ a) (d ∷ b) h k =
    let q : c ≡ d = command-unique u L c d (h.0 ∙ sym k.0) h.1 k.1 in
    ap₂ ◌∷◌ q (commands-unique u L (command_end c) a b h.2 (rw q k.2))

-- ---- Blocks

block-unique : (u : List ℕ) (L : ℕ) (a b : Block) → a.place ≡ b.place → IsBlock u L a → IsBlock u L b → a ≡ b
block-unique u L a b q h k =
    let d : a.delay ≡ b.delay = h.delay_is ∙ ap (word u) q ∙ sym k.delay_is in
    let n : a.next ≡ b.next = h.next_is ∙ ap (λ (p : ℕ). word u (p + 2)) q ∙ sym k.next_is in
    let c : a.commands ≡ b.commands = commands-unique u L (a.place + 4) a.commands b.commands h.list (rw q k.list) in
    λ t. record { place = q t; delay = d t; next = n t; commands = c t }

-- what follows a block
abbrev Follows : List ℕ → ℕ → Block → List Block → Type 0
Follows u L b bs = ((b.next ≤ b.place) × (bs ≡ [])) ⊎ ((b.place < b.next) × Chain u L b.next bs)

follows_unique : (u : List ℕ) (L : ℕ) (c : Block) (a b : List Block) → (Chain u L c.next a → Chain u L c.next b → a ≡ b)
    → Follows u L c a → Follows u L c b → a ≡ b
follows_unique u L c a b f (inl x) (inl y) = x.1 ∙ sym y.1
follows_unique u L c a b f (inl x) (inr y) = absurd (omega arith)
follows_unique u L c a b f (inr x) (inl y) = absurd (omega arith)
follows_unique u L c a b f (inr x) (inr y) = f x.1 y.1

blocks-unique : (u : List ℕ) (L p : ℕ) (a b : List Block) → Chain u L p a → Chain u L p b → a ≡ b
unfolding Chain
blocks-unique u L p [] [] h k = refl
blocks-unique u L p [] (d ∷ b) h k = absurd (omega (arith, k.0, k.1.within))
blocks-unique u L p (c ∷ a) [] h k = absurd (omega (arith, h.0, h.1.within))
blocks-unique u L p (c ∷ a) (d ∷ b) h k =
    let q : c ≡ d = block-unique u L c d (h.0 ∙ sym k.0) h.1 k.1 in
    let k' : Follows u L c b = rw q k.2 in
    ap₂ ◌∷◌ q (follows_unique u L c a b (λ x y. blocks-unique u L c.next a b x y) h.2 k')

pub chain_unique : (u : List ℕ) (a b : List Block) → IsChain u a → IsChain u b → a ≡ b
chain_unique u a b h k = blocks-unique u (length_word u) (control_word u) a b h.chain k.chain

-- ---- Rows of a picture

stay_unique : (a b : List (List Code)) → length a ≡ length b → Stay0 a → Stay0 b → a ≡ b
unfolding Stay0
stay_unique [] [] n h k = refl
stay_unique [] (d ∷ b) n h k = absurd (omega arith)
stay_unique (c ∷ a) [] n h k = absurd (omega arith)
stay_unique (c ∷ a) (d ∷ b) n h k = ap₂ ◌∷◌ (h.0 ∙ sym k.0) (stay_unique a b (omega arith) h.1 k.1)

length-evens : (a b : List (List Code)) → length a ≡ length b → length (evens a) ≡ length (evens b)
unfolding evens
length-evens [] [] n = refl
length-evens [] (d ∷ b) n = absurd (omega arith)
length-evens (c ∷ a) [] n = absurd (omega arith)
length-evens (c ∷ []) (d ∷ []) n = refl
length-evens (c ∷ []) (d ∷ d' ∷ b) n = absurd (omega arith)
length-evens (c ∷ c' ∷ a) (d ∷ []) n = absurd (omega arith)
length-evens (c ∷ c' ∷ a) (d ∷ d' ∷ b) n = ap suc (length-evens a b (omega arith))

length-odds : (a b : List (List Code)) → length a ≡ length b → length (odds a) ≡ length (odds b)
length-odds [] [] n = refl
length-odds [] (d ∷ b) n = absurd (omega arith)
length-odds (c ∷ a) [] n = absurd (omega arith)
length-odds (c ∷ a) (d ∷ b) n = length-evens a b (omega arith)

evens-cons : (r : List Code) (rs : List (List Code)) → evens (r ∷ rs) ≡ r ∷ odds rs
unfolding evens
evens-cons r [] = refl
evens-cons r (q ∷ rs) = refl

-- rows are known from the even and the odd ones
rejoin : (a b : List (List Code)) → length a ≡ length b → evens a ≡ evens b → odds a ≡ odds b → a ≡ b
rejoin [] [] n e o = refl
rejoin [] (d ∷ b) n e o = absurd (omega arith)
rejoin (c ∷ a) [] n e o = absurd (omega arith)
rejoin (c ∷ a) (d ∷ b) n e o =
    let f : c ∷ odds a ≡ d ∷ odds b = sym (evens-cons c a) ∙ e ∙ evens-cons d b in
    let q : c ≡ d = cc f in
    let x : odds a ≡ odds b = cc f in
    ap₂ ◌∷◌ q (rejoin a b (omega arith) o x)

bottom-unique : (u : List ℕ) (C offset w : ℕ) (a b : List (List Code)) → length a ≡ length b → Bottom u C offset w a → Bottom u C offset w b → a ≡ b
bottom-unique u C offset w a b n (inl h) (inl k) = field-unique u C w (2 * offset) a b n h.2 k.2
bottom-unique u C offset w a b n (inl h) (inr k) = absurd (⊎_elim (λ z. omega arith) (λ z. omega arith) k.0)
bottom-unique u C offset w a b n (inr h) (inl k) = absurd (⊎_elim (λ z. omega arith) (λ z. omega arith) h.0)
bottom-unique u C offset w a b n (inr h) (inr k) = stay_unique a b n h.1 k.1

pub picture_unique : (u : List ℕ) (t : Told) (a b : List (List Code)) → IsPicture u t a → IsPicture u t b → a ≡ b
picture_unique u t a b h k =
    let n : length a ≡ length b = h.all ∙ sym k.all in
    rejoin a b n
    (field-unique u (top_end (control_word u) t.fields) (width t) (2 * t.fields.top) (evens a) (evens b) (length-evens a b n) h.top k.top)
    (bottom-unique u (control_word u) t.fields.bottom (width t) (odds a) (odds b) (length-odds a b n) h.bottom k.bottom)

-- ---- A unit

pub unit-unique : (u : List ℕ) (a b : ListedUnit) → IsUnit u a → IsUnit u b → a ≡ b
unit-unique u a b h k =
    let q : a.blocks ≡ b.blocks = chain_unique u a.blocks b.blocks h.chain k.chain in
    let r : a.rows ≡ b.rows = picture_unique u (told a.blocks) a.rows b.rows h.picture (rw q k.picture) in
    λ t. record { blocks = q t; rows = r t }
