-- Control blocks are refused with numbers of the table. Assumes nothing.
use Prim.Native.Nat.{ℕ, ◌+◌, ◌-◌, ◌≤◌}
use mathlib.Core.Path.{◌≡◌, refl}
use mathlib.Core.Bool.{true, false, ◌&&◌}
use Rattle.std.specs.Prelude.{Option, Some as some, None as none}
use mathlib.Core.List.{List, [], ◌∷◌, ◌++◌}
use lib.Dec.{leb, ltb, eqb}
use lib.ListN.{length, take, replicate}
use lib.Seq.{slice}
use Rattle.outcome.specs.Outcome.{InTable, ok, refuse, RefusedWith, Numbered, no_head, bad_head, cut_parameters, small_size, no_band_list, unknown_command, no_area, many_bands}
use Rattle.outcome.proofs.Numbers.{AfterText, after-in-table, check-numbered, checked-numbered, cond-numbered, and_then-numbered, map_res-numbered, only-numbered, list_numbered}
use Rattle.outcome.proofs.Laws.{clash, and-true}
use borrow.Author.Tests.{leb-true}
use Rattle.grammar.specs.Bytes.{byte, word, nibble, nibbles}
use Rattle.grammar.specs.Control.{colours, size_of, length_word, control_word}
use Rattle.grammar.specs.Bands.{most_bands}
use Rattle.grammar.specs.Record.{told, commands_of, commands_in, first_delay, last_delay, last_numbers, stands, all_bands}
use Rattle.bands_model.specs.Bands.{bands_of, entries_of, header, entry_of}
use Rattle.bands_model.proofs.Refusals.{bands-refuses}
use Rattle.control_model.specs.Listed.{held_bands, bands_at, held}
use Rattle.control_model.specs.Chain.{plain_at, change_at, order_at, command, command_at, commands_stop, next_command, commands_at, block, block_at, chain_stop, chain_block, chain_next, chain_left, blocks_at, head_fits, chain_at, has_area, control_at}
use Rattle.control_model.specs.Few.{few_at}
use Rattle.control_model.proofs.Grammar.{command-falls, chain-falls}
use Rattle.outcome.specs.Lists.{list_fuel, list_from}

-- over any property of the numbers after those of a text
module _ (P : ℕ → Type 0) (each : AfterText P) (u : List ℕ) (L : ℕ) where
  bands-with : (e p : ℕ) → RefusedWith P (bands_at u e p)
  unfolding bands_at
  bands-with e p =
      map_res-numbered P (held_bands p) (bands_of (slice p e u))
      (only-numbered P no_band_list (each no_band_list refl) (bands_of (slice p e u)) (bands-refuses (slice p e u)))

  change_with : (p : ℕ) → RefusedWith P (change_at u L p)
  unfolding change_at
  change_with p =
      check-numbered P (leb (p + 2) L) cut_parameters _ (each cut_parameters refl)
      (check-numbered P (leb 2 (word u p)) small_size _ (each small_size refl)
      (check-numbered P (leb (p + word u p) L) cut_parameters _ (each cut_parameters refl)
      (map_res-numbered P (colours (word u p)) (bands_at u (p + word u p) (p + 2)) (bands-with (p + word u p) (p + 2)))))

  order_with : (p k : ℕ) → RefusedWith P (order_at u L p k)
  unfolding order_at
  order_with p k =
      cond-numbered P (ltb k 7) _ _
      (check-numbered P (leb (p + size_of (plain_at u p k)) L) cut_parameters (ok (plain_at u p k))
      (each cut_parameters refl) tt)
      (cond-numbered P (eqb k 7) (change_at u L p) (refuse unknown_command) (change_with p) (each unknown_command refl))

  command-with : (p : ℕ) → RefusedWith P (command_at u L p)
  unfolding command_at
  command-with p = map_res-numbered P (command p) (order_at u L (p + 1) (byte u p)) (order_with (p + 1) (byte u p))

  commands-with : L ≤ length u → (p : ℕ) → RefusedWith P (commands_at u L p)
  unfolding commands_at
  commands-with i p =
      list_numbered P (commands_stop u L) (command_at u L) next_command (λ (q : ℕ). L - q) (command-falls u L i)
      (λ s h. command-with s) p

  block_with : L ≤ length u → (p : ℕ) → RefusedWith P (block_at u L p)
  unfolding block_at
  block_with i p = map_res-numbered P (block u p) (commands_at u L (p + 4)) (commands-with i (p + 4))

  blocks-with : L ≤ length u → (s : Option ℕ) → RefusedWith P (blocks_at u L s)
  unfolding blocks_at
  blocks-with i s = list_numbered P (chain_stop L) (chain_block u L) chain_next (chain_left L) (chain-falls u L i) next s
    where
      next : (s : Option ℕ) → chain_stop L s ≡ false → RefusedWith P (chain_block u L s)
      next none h = absurd (clash true refl h)
      next (some p) h = block_with i p

pub control_with : (P : ℕ → Type 0) → AfterText P → (u : List ℕ) → RefusedWith P (control_at u)
unfolding control_at chain_at head_fits
control_with P each u =
    and_then-numbered P (chain_at u) _
    (check-numbered P (leb 4 (length u)) no_head _ (each no_head refl)
    (checked-numbered P (head_fits u) bad_head _ (each bad_head refl)
    (λ t.
    let fits =
    and-true (leb 4 (control_word u) && leb (control_word u) (length_word u)) (leb (length_word u) (length u)) t in
    blocks-with P each u (length_word u) (leb-true _ _ fits.1) (some (control_word u)))))
    (λ bs. check-numbered P (has_area (told bs)) no_area (ok bs) (each no_area refl) tt)

-- a unit with one byte of field, a block at 5 whose next word is n, and these bytes after its head
abbrev unit : ℕ → List ℕ → List ℕ
unit n bs = 0x00 ∷ (9 + length bs) ∷ 0x00 ∷ 0x05 ∷ 0x70 ∷ 0x00 ∷ 0x00 ∷ 0x00 ∷ n ∷ bs

-- each order of FORMAT 9: a unit on which both are true, and the number that is given
pub orders :
    -- 16, and 20
    (control_at (0x00 ∷ 0x0A ∷ 0x00 ∷ 0x03 ∷ 0x00 ∷ 0x05 ∷ 0x00 ∷ 0x04 ∷ 0x08 ∷ 0xFF ∷ []) ≡ refuse bad_head)
    -- 17 and 19 of one command
    × (control_at (unit 0x05 (0x07 ∷ 0x00 ∷ 0x06 ∷ 0x10 ∷ 0x00 ∷ [])) ≡ refuse cut_parameters)
    -- 17, then 20
    × (control_at (unit 0x08 (0x05 ∷ 0x00 ∷ 0x00 ∷ 0x08 ∷ 0x00 ∷ 0x00 ∷ 0x00 ∷ 0x03 ∷ [])) ≡ refuse cut_parameters)
    -- 18, then 19
    × (control_at (unit 0x0D (0x07 ∷ 0x00 ∷ 0x01 ∷ 0xFF ∷ 0x00 ∷ 0x00 ∷ 0x00 ∷ 0x0D ∷ 0x07 ∷ 0x00 ∷ 0x03 ∷ 0x00 ∷ 0xFF ∷ [])) ≡ refuse small_size)
    -- 18, then 20
    × (control_at (unit 0x05 (0x07 ∷ 0x00 ∷ 0x00 ∷ 0x08 ∷ 0xFF ∷ [])) ≡ refuse small_size)
    -- 19, then 17
    × (control_at (unit 0x05 (0x07 ∷ 0x00 ∷ 0x03 ∷ 0x00 ∷ 0x05 ∷ [])) ≡ refuse no_band_list)
    -- 19, then 18
    × (control_at (unit 0x0E (0x07 ∷ 0x00 ∷ 0x03 ∷ 0x00 ∷ 0xFF ∷ 0x00 ∷ 0x00 ∷ 0x00 ∷ 0x0E ∷ 0x07 ∷ 0x00 ∷ 0x01 ∷ 0xFF ∷ [])) ≡ refuse no_band_list)
    -- 19, then 20
    × (control_at (unit 0x05 (0x07 ∷ 0x00 ∷ 0x03 ∷ 0x00 ∷ 0x08 ∷ 0xFF ∷ [])) ≡ refuse no_band_list)
    -- 20, then 17
    × (control_at (unit 0x0B (0x08 ∷ 0xFF ∷ 0x00 ∷ 0x00 ∷ 0x00 ∷ 0x0B ∷ 0x03 ∷ 0x00 ∷ [])) ≡ refuse unknown_command)
    -- 20, then 18
    × (control_at (unit 0x0B (0x08 ∷ 0xFF ∷ 0x00 ∷ 0x00 ∷ 0x00 ∷ 0x0B ∷ 0x07 ∷ 0x00 ∷ 0x01 ∷ 0xFF ∷ [])) ≡ refuse unknown_command)
    -- 20, then 19
    × (control_at (unit 0x0B (0x08 ∷ 0xFF ∷ 0x00 ∷ 0x00 ∷ 0x00 ∷ 0x0B ∷ 0x07 ∷ 0x00 ∷ 0x03 ∷ 0x00 ∷ 0xFF ∷ [])) ≡ refuse unknown_command)
    -- 17, and 21
    × (control_at (unit 0x05 (0x05 ∷ 0x00 ∷ 0x10 ∷ 0x00 ∷ 0x00 ∷ 0x00 ∷ 0x00 ∷ 0x03 ∷ 0x00 ∷ [])) ≡ refuse cut_parameters)
    -- 18, and 21
    × (control_at (unit 0x05 (0x05 ∷ 0x00 ∷ 0x10 ∷ 0x00 ∷ 0x00 ∷ 0x00 ∷ 0x00 ∷ 0x07 ∷ 0x00 ∷ 0x01 ∷ 0xFF ∷ [])) ≡ refuse small_size)
    -- 19, and 21
    × (control_at (unit 0x05 (0x05 ∷ 0x00 ∷ 0x10 ∷ 0x00 ∷ 0x00 ∷ 0x00 ∷ 0x00 ∷ 0x07 ∷ 0x00 ∷ 0x03 ∷ 0x00 ∷ 0xFF ∷ [])) ≡ refuse no_band_list)
    -- 20, and 21
    × (control_at (unit 0x05 (0x05 ∷ 0x00 ∷ 0x10 ∷ 0x00 ∷ 0x00 ∷ 0x00 ∷ 0x00 ∷ 0x08 ∷ [])) ≡ refuse unknown_command)
unfolding list_from list_fuel word nibbles nibble bands_at bands_of entries_of header entry_of held plain_at change_at order_at command_at commands_at block_at blocks_at head_fits chain_at control_at
orders = (refl, refl, refl, refl, refl, refl, refl, refl, refl, refl, refl, refl, refl, refl, refl)

-- ---- With the limit of bands

pub few_with : (P : ℕ → Type 0) → AfterText P → (u : List ℕ) → RefusedWith P (few_at u)
unfolding few_at
few_with P each u =
    and_then-numbered P (control_at u) _ (control_with P each u)
    (λ bs. check-numbered P (leb (length (told bs).bands) most_bands) many_bands (ok bs) (each many_bands refl) tt)

pub few_numbered : (u : List ℕ) → Numbered (few_at u)
few_numbered = few_with InTable after-in-table

-- a unit with one byte of field and a block at 5, whose first command is a colour change of 33 bands without entries; these bytes follow
abbrev bands_33 : List ℕ → List ℕ
bands_33 cs = 0x00 ∷ (144 + length cs) ∷ 0x00 ∷ 0x05 ∷ 0x70 ∷ 0x00 ∷ 0x00 ∷ 0x00 ∷ 0x05 ∷ 0x07 ∷ 0x00 ∷ 0x86 ∷ replicate 132 0x00 ++ cs

-- one with two blocks, of a colour change each
abbrev two_blocks : List ℕ → List ℕ → List ℕ
two_blocks a b =
    0x00 ∷ (21 + length a + length b) ∷ 0x00 ∷ 0x05 ∷ 0x70 ∷ 0x00 ∷ 0x00 ∷ 0x00 ∷ (13 + length a) ∷ 0x07 ∷ 0x00 ∷ (2 + length a)
    ∷ a ++ 0xFF ∷ 0x00 ∷ 0x00 ∷ 0x00 ∷ (13 + length a) ∷ 0x07 ∷ 0x00 ∷ (2 + length b) ∷ b ++ 0xFF ∷ []

-- each order of FORMAT 9 with 34: a unit on which both are true, and the number that is given, as the whole chain is read first
pub few_orders :
    -- 16, and 34
    (few_at (take 143 (bands_33 (0xFF ∷ []))) ≡ refuse bad_head)
    -- 17, and 34
    × (few_at (bands_33 (0x03 ∷ 0x00 ∷ [])) ≡ refuse cut_parameters)
    -- 18, and 34
    × (few_at (bands_33 (0x07 ∷ 0x00 ∷ 0x01 ∷ 0xFF ∷ [])) ≡ refuse small_size)
    -- 19, and 34
    × (few_at (bands_33 (0x07 ∷ 0x00 ∷ 0x03 ∷ 0x00 ∷ 0xFF ∷ [])) ≡ refuse no_band_list)
    -- 20, and 34
    × (few_at (bands_33 (0x08 ∷ 0xFF ∷ [])) ≡ refuse unknown_command)
    -- 21, and 34
    × (few_at (bands_33 (0x05 ∷ 0x00 ∷ 0x10 ∷ 0x00 ∷ 0x00 ∷ 0x00 ∷ 0x00 ∷ 0xFF ∷ [])) ≡ refuse no_area)
    -- 34 alone
    × (few_at (bands_33 (0xFF ∷ [])) ≡ refuse many_bands)
    -- 17 bands in one block, and 16 in the next
    × (few_at (two_blocks (replicate 68 0x00) (replicate 64 0x00)) ≡ refuse many_bands)
unfolding few_at list_from list_fuel word nibbles nibble bands_at bands_of entries_of header entry_of held plain_at change_at order_at command_at commands_at block_at blocks_at head_fits chain_at control_at told commands_of commands_in first_delay last_delay last_numbers stands all_bands
few_orders = (refl, refl, refl, refl, refl, refl, refl, refl)
