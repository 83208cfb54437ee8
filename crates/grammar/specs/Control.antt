-- The head of a unit and its chain of control blocks: conditions on a finished list of blocks (FORMAT 3.1 to 3.4).
-- They find no block and no command. Assumes nothing: these are definitions.
use Rattle.std.specs.Prelude.{ℕ, ◌+◌, ◌*◌, ◌≤◌, ◌<◌, ◌≡◌, ◌⊎◌, List, [], ◌∷◌, length}
use Rattle.grammar.specs.Bytes.{byte, word, nibbles}
use Rattle.grammar.specs.Bands.{Band, Bands}

-- what a command says (FORMAT 3.4): four selectors or alphas are one word, colour 0 in the top nibble
pub data Order : Type 0 where
  forced_start : Order
  start : Order
  stop : Order
  selectors : (four : ℕ) → Order
  alphas : (four : ℕ) → Order
  area : (x1 x2 y1 y2 : ℕ) → Order
  offsets : (top bottom : ℕ) → Order
  colours : (size : ℕ) (bands : List Band) → Order

-- the command's byte
abbrev pub code_of : Order → ℕ
code_of forced_start = 0
code_of start = 1
code_of stop = 2
code_of (selectors w) = 3
code_of (alphas w) = 4
code_of (area x1 x2 y1 y2) = 5
code_of (offsets t b) = 6
code_of (colours s bs) = 7

-- the bytes after it: a colour change says itself how many
abbrev pub size_of : Order → ℕ
size_of forced_start = 0
size_of start = 0
size_of stop = 0
size_of (selectors w) = 2
size_of (alphas w) = 2
size_of (area x1 x2 y1 y2) = 6
size_of (offsets t b) = 4
size_of (colours s bs) = s

-- the bytes of u from p on say it; a colour change's size counts the size word itself (FORMAT 3.4, 4.1)
abbrev pub Written : List ℕ → ℕ → Order → Type 0
Written u p forced_start = Unit {0}
Written u p start = Unit {0}
Written u p stop = Unit {0}
Written u p (selectors w) = w ≡ word u p
Written u p (alphas w) = w ≡ word u p
Written u p (area x1 x2 y1 y2) =
    (x1 ≡ nibbles u (2 * p) 3) × (x2 ≡ nibbles u (2 * p + 3) 3) × (y1 ≡ nibbles u (2 * p + 6) 3) × (y2 ≡ nibbles u (2 * p + 9) 3)
Written u p (offsets t b) = (t ≡ word u p) × (b ≡ word u (p + 2))
Written u p (colours s bs) = (2 ≤ s) × (s ≡ word u p) × Bands u (p + s) (p + 2) bs

pub record Command : Type 0 where
  pub place : ℕ
  pub order : Order

-- the place after a command
abbrev pub command_end : Command → ℕ
command_end c = c.place + 1 + size_of c.order

-- c stands in u, before byte L (FORMAT 3.4)
pub record IsCommand (u : List ℕ) (L : ℕ) (c : Command) : Type 0 where
  pub within : command_end c ≤ L
  pub coded : byte u c.place ≡ code_of c.order
  pub says : Written u (c.place + 1) c.order

-- the commands end at L, or at a byte `FF` before it (FORMAT 3.3)
abbrev pub CommandsEnd : List ℕ → ℕ → ℕ → Type 0
CommandsEnd u L p = (p ≡ L) ⊎ ((p < L) × (byte u p ≡ 0xFF))

-- commands from p on
unfoldable pub Commands : List ℕ → ℕ → ℕ → List Command → Type 0
Commands u L p [] = CommandsEnd u L p
Commands u L p (c ∷ cs) = (c.place ≡ p) × IsCommand u L c × Commands u L (command_end c) cs

-- a block: where it stands, its delay, the place that it names as the next, and its commands
pub record Block : Type 0 where
  pub place : ℕ
  pub delay : ℕ
  pub next : ℕ
  pub commands : List Command

-- b stands in u, before byte L (FORMAT 3.2)
pub record IsBlock (u : List ℕ) (L : ℕ) (b : Block) : Type 0 where
  pub within : b.place + 4 ≤ L
  pub delay_is : b.delay ≡ word u b.place
  pub next_is : b.next ≡ word u (b.place + 2)
  pub list : Commands u L (b.place + 4) b.commands

-- blocks from p on: the chain ends where a block's first four bytes do not fit, and after a block that names no later place (FORMAT 3.2)
unfoldable pub Chain : List ℕ → ℕ → ℕ → List Block → Type 0
Chain u L p [] = L < p + 4
Chain u L p (b ∷ bs) =
    (b.place ≡ p) × IsBlock u L b × (((b.next ≤ b.place) × (bs ≡ [])) ⊎ ((b.place < b.next) × Chain u L b.next bs))

-- the unit's length, and the place of its first block (FORMAT 3.1)
abbrev pub length_word : List ℕ → ℕ
length_word u = word u 0

abbrev pub control_word : List ℕ → ℕ
control_word u = word u 2

-- bs are the blocks of the unit u
pub record IsChain (u : List ℕ) (bs : List Block) : Type 0 where
  pub head : 4 ≤ length u
  pub control : 4 ≤ control_word u
  pub order : control_word u ≤ length_word u
  pub inside : length_word u ≤ length u
  pub chain : Chain u (length_word u) (control_word u) bs
