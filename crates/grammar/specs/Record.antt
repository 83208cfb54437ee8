-- What listed blocks give: the record of a unit and its bands (FORMAT 3.6, 3.7). Assumes nothing: these are definitions.
use Rattle.std.specs.Prelude.{ℕ, ◌+◌, ◌-◌, Bool, true, false, cond, ◌||◌, List, [], ◌∷◌, ◌++◌, eqb, leb, get_or}
use Rattle.std.specs.Prelude.{Option, Some as some, None as none}
use Rattle.grammar.specs.Bands.{Band}
use Rattle.grammar.specs.Control.{Order, forced_start, start, stop, selectors, alphas, area, offsets, colours, code_of, Command, Block}

-- where a picture stands on the display: its first and last column, its first and last line
pub record Area : Type 0 where
  pub x1 : ℕ
  pub x2 : ℕ
  pub y1 : ℕ
  pub y2 : ℕ

-- where the two fields start in the unit
pub record Offsets : Type 0 where
  pub top : ℕ
  pub bottom : ℕ

-- what commands have told: where, selectors and alphas, the first start and the last stop, whether a start was forced, the fields, whether
-- there was a colour change, and the bands of all of them
pub record Told : Type 0 where
  pub at : Area
  pub selected : ℕ
  pub alpha : ℕ
  pub starts : Option ℕ
  pub stops : Option ℕ
  pub forced : Bool
  pub fields : Offsets
  pub changed : Bool
  pub bands : List Band

-- a command with the delay of its block
pub record Timed : Type 0 where
  pub delay : ℕ
  pub order : Order

-- the commands of all blocks in turn: what one block says stands in the next (FORMAT 3.6)
unfoldable pub commands_in : ℕ → List Command → List Timed → List Timed
commands_in d [] rest = rest
commands_in d (c ∷ cs) rest = record { delay = d; order = c.order } ∷ commands_in d cs rest

unfoldable pub commands_of : List Block → List Timed
commands_of [] = []
commands_of (b ∷ bs) = commands_in b.delay b.commands (commands_of bs)

-- a command's numbers, and its bands
abbrev pub numbers_in : Order → List ℕ
numbers_in forced_start = []
numbers_in start = []
numbers_in stop = []
numbers_in (selectors w) = w ∷ []
numbers_in (alphas w) = w ∷ []
numbers_in (area a b c e) = a ∷ b ∷ c ∷ e ∷ []
numbers_in (offsets a b) = a ∷ b ∷ []
numbers_in (colours s bs) = []

abbrev pub bands_in : Order → List Band
bands_in forced_start = []
bands_in start = []
bands_in stop = []
bands_in (selectors w) = []
bands_in (alphas w) = []
bands_in (area a b c e) = []
bands_in (offsets a b) = []
bands_in (colours s bs) = bs

-- a command of byte k; a start of either kind
abbrev pub coded : ℕ → Timed → Bool
coded k c = eqb (code_of c.order) k

abbrev pub starting : Timed → Bool
starting c = leb (code_of c.order) 1

-- the delay of the first command that passes, and of the last
unfoldable pub first_delay : (Timed → Bool) → List Timed → Option ℕ
first_delay p [] = none
first_delay p (c ∷ cs) = cond (p c) (some c.delay) (first_delay p cs)

abbrev pub or_earlier : Option ℕ → ℕ → Bool → Option ℕ
or_earlier (some d) e t = some d
or_earlier none e t = cond t (some e) none

unfoldable pub last_delay : (Timed → Bool) → List Timed → Option ℕ
last_delay p [] = none
last_delay p (c ∷ cs) = or_earlier (last_delay p cs) c.delay (p c)

-- the numbers of the last command of byte k, or those given
unfoldable pub last_numbers : ℕ → List ℕ → List Timed → List ℕ
last_numbers k ns [] = ns
last_numbers k ns (c ∷ cs) = last_numbers k (cond (coded k c) (numbers_in c.order) ns) cs

-- whether there is a command of byte k
unfoldable pub stands : ℕ → List Timed → Bool
stands k [] = false
stands k (c ∷ cs) = coded k c || stands k cs

-- ---- What commands have told (FORMAT 3.6)

abbrev pub area_from : List ℕ → Area
area_from ns = record { x1 = get_or ns 0 0; x2 = get_or ns 1 0; y1 = get_or ns 2 0; y2 = get_or ns 3 0 }

abbrev pub offsets_from : List ℕ → Offsets
offsets_from ns = record { top = get_or ns 0 0; bottom = get_or ns 1 0 }

-- the last area, selectors, alphas and offsets; 0 where there is none
abbrev pub area_in : List Timed → Area
area_in cs = area_from (last_numbers 5 (0 ∷ 0 ∷ 0 ∷ 0 ∷ []) cs)

abbrev pub selectors_in : List Timed → ℕ
selectors_in cs = get_or (last_numbers 3 (0 ∷ []) cs) 0 0

abbrev pub alphas_in : List Timed → ℕ
alphas_in cs = get_or (last_numbers 4 (0 ∷ []) cs) 0 0

abbrev pub offsets_in : List Timed → Offsets
offsets_in cs = offsets_from (last_numbers 6 (0 ∷ 0 ∷ []) cs)

-- the first start, of either kind, and the last stop
abbrev pub first_start : List Timed → Option ℕ
first_start cs = first_delay starting cs

abbrev pub last_stop : List Timed → Option ℕ
last_stop cs = last_delay (coded 2) cs

-- whether a start is forced, and whether there is a colour change
abbrev pub forced_in : List Timed → Bool
forced_in cs = stands 0 cs

abbrev pub changed_in : List Timed → Bool
changed_in cs = stands 7 cs

-- the bands of all colour changes, joined
unfoldable pub all_bands : List Timed → List Band
all_bands [] = []
all_bands (c ∷ cs) = bands_in c.order ++ all_bands cs

abbrev pub told_in : List Timed → Told
told_in cs =
    record {
      at = area_in cs;
      selected = selectors_in cs;
      alpha = alphas_in cs;
      starts = first_start cs;
      stops = last_stop cs;
      forced = forced_in cs;
      fields = offsets_in cs;
      changed = changed_in cs;
      bands = all_bands cs;
    }

unfoldable pub told : List Block → Told
told bs = told_in (commands_of bs)

-- whether a value was told
abbrev pub given : {A : Type 0} → Option A → Bool
given none = false
given (some a) = true

-- a delay, 0 where none was told
abbrev pub delay_of : Option ℕ → ℕ
delay_of none = 0
delay_of (some d) = d

-- width and height (FORMAT 3.7)
abbrev pub width : Told → ℕ
width t = t.at.x2 + 1 - t.at.x1

abbrev pub height : Told → ℕ
height t = t.at.y2 + 1 - t.at.y1
