-- The blocks of a unit and their commands, found: the first fault in the chain's order refuses (FORMAT 3.1 to 3.5, 3.7).
-- Assumes nothing: these are definitions.
use Rattle.std.specs.Prelude.{ℕ, suc, ◌+◌, ◌-◌, ◌*◌, Bool, true, cond, ◌&&◌, ◌||◌, List, [], ◌∷◌, eqb, leb, ltb, length, get_or}
use Rattle.std.specs.Prelude.{Option, Some as some, None as none}
use Rattle.outcome.specs.Outcome.{Res, ok, refuse, check, and_then, map_res, no_head, bad_head, cut_parameters, small_size, unknown_command, no_area}
use Rattle.outcome.specs.Lists.{list_from}
use Rattle.grammar.specs.Bytes.{byte, word, nibbles}
use Rattle.grammar.specs.Control.{Order, forced_start, start, stop, selectors, alphas, area, offsets, colours, size_of, Command, command_end, Block, length_word, control_word}
use Rattle.grammar.specs.Record.{Told, told}
use Rattle.control_model.specs.Listed.{bands_at}

-- the area and the offsets that the bytes from p on give (FORMAT 3.4)
abbrev pub area_at : List ℕ → ℕ → Order
area_at u p = area (nibbles u (2 * p) 3) (nibbles u (2 * p + 3) 3) (nibbles u (2 * p + 6) 3) (nibbles u (2 * p + 9) 3)

abbrev pub offsets_at : List ℕ → ℕ → Order
offsets_at u p = offsets (word u p) (word u (p + 2))

-- the order of a byte below 7, its parameters from p on (FORMAT 3.4); the last `stop` is for no such byte
unfoldable pub plain_at : List ℕ → ℕ → ℕ → Order
plain_at u p k =
    get_or (forced_start ∷ start ∷ stop ∷ selectors (word u p) ∷ alphas (word u p) ∷ area_at u p ∷ offsets_at u p ∷ []) k stop

-- a colour change, its size word at p: the word fits, counts itself, and what it counts fits, and is a list of bands (FORMAT 3.4, 3.5)
unfoldable pub change_at : List ℕ → ℕ → ℕ → Res Order
change_at u L p =
    check (leb (p + 2) L) cut_parameters
    (check (leb 2 (word u p)) small_size
    (check (leb (p + word u p) L) cut_parameters
    (map_res (colours (word u p)) (bands_at u (p + word u p) (p + 2)))))

-- the order of byte k, its parameters from p on (FORMAT 3.4, 3.5)
unfoldable pub order_at : List ℕ → ℕ → ℕ → ℕ → Res Order
order_at u L p k =
    cond (ltb k 7) (check (leb (p + size_of (plain_at u p k)) L) cut_parameters (ok (plain_at u p k)))
    (cond (eqb k 7) (change_at u L p) (refuse unknown_command))

abbrev pub command : ℕ → Order → Command
command p o = record { place = p; order = o }

unfoldable pub command_at : List ℕ → ℕ → ℕ → Res Command
command_at u L p = map_res (command p) (order_at u L (p + 1) (byte u p))

-- no command follows at L, and at `FF` (FORMAT 3.3)
abbrev pub commands_stop : List ℕ → ℕ → ℕ → Bool
commands_stop u L p = leb L p || eqb (byte u p) 0xFF

abbrev pub next_command : ℕ → Command → ℕ
next_command p c = command_end c

unfoldable pub commands_at : List ℕ → ℕ → ℕ → Res (List Command)
commands_at u L p = list_from (commands_stop u L) (command_at u L) next_command (λ (q : ℕ). L - q) p

abbrev pub block : List ℕ → ℕ → List Command → Block
block u p cs = record { place = p; delay = word u p; next = word u (p + 2); commands = cs }

-- the block at p (FORMAT 3.2)
unfoldable pub block_at : List ℕ → ℕ → ℕ → Res Block
block_at u L p = map_res (block u p) (commands_at u L (p + 4))

-- `some p`: the chain goes on at p, and stops there where a block's first four bytes do not fit; `none`: it has ended (FORMAT 3.2)
abbrev pub chain_stop : ℕ → Option ℕ → Bool
chain_stop L none = true
chain_stop L (some p) = ltb L (p + 4)

-- nothing is read where it has ended
abbrev pub chain_block : List ℕ → ℕ → Option ℕ → Res Block
chain_block u L none = refuse 0
chain_block u L (some p) = block_at u L p

abbrev pub chain_next : Option ℕ → Block → Option ℕ
chain_next s b = cond (leb b.next b.place) none (some b.next)

abbrev pub chain_left : ℕ → Option ℕ → ℕ
chain_left L none = 0
chain_left L (some p) = suc L - p

unfoldable pub blocks_at : List ℕ → ℕ → Option ℕ → Res (List Block)
blocks_at u L s = list_from (chain_stop L) (chain_block u L) chain_next (chain_left L) s

-- the head (FORMAT 3.1)
unfoldable pub head_fits : List ℕ → Bool
head_fits u = leb 4 (control_word u) && leb (control_word u) (length_word u) && leb (length_word u) (length u)

-- the blocks of a unit (FORMAT 3.1, 3.2)
unfoldable pub chain_at : List ℕ → Res (List Block)
chain_at u = check (leb 4 (length u)) no_head (check (head_fits u) bad_head (blocks_at u (length_word u) (some (control_word u))))

-- a picture of one column and one line at least (FORMAT 3.7)
abbrev pub has_area : Told → Bool
has_area t = leb t.at.x1 t.at.x2 && leb t.at.y1 t.at.y2

-- those of a unit whose picture has a size (FORMAT 3.7)
unfoldable pub control_at : List ℕ → Res (List Block)
control_at u = and_then (chain_at u) (λ bs. check (has_area (told bs)) no_area (ok bs))
