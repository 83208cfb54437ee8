-- What holds of every band that stands in a unit holds of all that its blocks tell; so each has at most 15 entries,
-- and 32 take at most 1,536 words. Assumes nothing.
use Prim.Native.Nat.{ℕ, ◌+◌, ◌-◌, ◌*◌, ◌≤◌, ◌<◌}
use native.Mathlib.Omega.{arith}
use mathlib.Core.Path.{◌≡◌, refl, sym, subst}
use mathlib.Core.Logic.{◌⊎◌, inl, inr}
use mathlib.Core.List.{List, [], ◌∷◌, ◌++◌}
use lib.ListN.{length, length-append, replicate, length-replicate}
use Rattle.grammar.specs.Bytes.{byte, word}
use Rattle.grammar.specs.Bands.{Entry, Band, IsBand, Bands, band_end, entry_words, band_words, most_bands, most_words, record_words}
use Rattle.grammar.specs.Control.{Order, forced_start, start, stop, selectors, alphas, area, offsets, colours, Command, command_end, Block, Written, Commands, Chain, IsChain, length_word, control_word}
use Rattle.grammar.specs.Record.{Timed, commands_in, commands_of, bands_in, all_bands, told}

-- ---- What holds of every band that stands in a unit

unfoldable pub Each : (Band → Type 0) → List Band → Type 0
Each P [] = Unit {0}
Each P (b ∷ bs) = P b × Each P bs

module _ (P : Band → Type 0) (u : List ℕ) (each : (e : ℕ) (b : Band) → IsBand u e b → P b) where
  join : (bs cs : List Band) → Each P bs → Each P cs → Each P (bs ++ cs)
  unfolding Each
  join [] cs g h = h
  join (b ∷ bs) cs g h = (g.0, join bs cs g.1 h)

  pub of-bands : (e p : ℕ) (bs : List Band) → Bands u e p bs → Each P bs
  unfolding Bands Each
  of-bands e p [] h = tt
  of-bands e p (b ∷ bs) h = (each e b h.1, of-bands e (band_end b) bs h.2)

  of_order : (p : ℕ) (o : Order) → Written u p o → Each P (bands_in o)
  unfolding Each
  of_order p forced_start w = tt
  of_order p start w = tt
  of_order p stop w = tt
  of_order p (selectors n) w = tt
  of_order p (alphas n) w = tt
  of_order p (area a b c e) w = tt
  of_order p (offsets a b) w = tt
  of_order p (colours s bs) w = of-bands (p + s) (p + 2) bs w.2

  of-commands : (L p d : ℕ) (cs : List Command) (rest : List Timed) → Commands u L p cs → Each P (all_bands rest)
      → Each P (all_bands (commands_in d cs rest))
  unfolding Commands commands_in all_bands
  of-commands L p d [] rest w h = h
  of-commands L p d (c ∷ cs) rest w h =
      join (bands_in c.order) (all_bands (commands_in d cs rest)) (of_order (c.place + 1) c.order w.1.says) (of-commands L (command_end c) d cs rest w.2 h)

  of_chain : (L p : ℕ) (bs : List Block) → Chain u L p bs → Each P (all_bands (commands_of bs))
  unfolding Chain commands_of all_bands Each
  of_chain L p [] w = tt
  of_chain L p (b ∷ bs) w = of-commands L (b.place + 4) b.delay b.commands (commands_of bs) w.1.list (go (of_chain L b.next bs) w.2)
    where
      go : (Chain u L b.next bs → Each P (all_bands (commands_of bs)))
          → ((b.next ≤ b.place) × (bs ≡ [])) ⊎ ((b.place < b.next) × Chain u L b.next bs) → Each P (all_bands (commands_of bs))
      go f (inl e) = subst (λ (l : List Block). Each P (all_bands (commands_of l))) (sym e.1) tt
      go f (inr e) = f e.1

  pub of-told : (bs : List Block) → IsChain u bs → Each P (told bs).bands
  unfolding told
  of-told bs h = of_chain (length_word u) (control_word u) bs h.chain

-- ---- At most 15 entries, of which each takes three words

-- a header's count has four bits
abbrev Fifteen : Band → Type 0
Fifteen b = (length b.entries ≡ b.count) × (b.count ≤ 15)

fifteen : (u : List ℕ) → ((i : ℕ) → byte u i < 256) → (e : ℕ) (b : Band) → IsBand u e b → Fifteen b
unfolding word
fifteen u small e b h =
    let a = small (b.place + 2) in
    let c = small (b.place + 2 + 1) in
    let k = h.count_is in
    (h.all, omega arith)

entry_words_lem : (es : List Entry) → length (entry_words es) ≡ 3 * length es
unfolding entry_words
entry_words_lem [] = refl
entry_words_lem (e ∷ es) = let h = entry_words_lem es in omega arith

words_of : (bs : List Band) → Each Fifteen bs → length (band_words bs) ≤ 48 * length bs
unfolding band_words Each
words_of [] h = omega arith
words_of (b ∷ bs) h =
    let a = length-append (entry_words b.entries) (band_words bs) in
    let c = entry_words_lem b.entries in
    let r = words_of bs h.1 in
    let k = h.0.0 in
    let l = h.0.1 in
    omega arith

module _ (u : List ℕ) (small : (i : ℕ) → byte u i < 256) where
  -- the bands of a payload, and of a unit
  pub payload_words : (e p : ℕ) (bs : List Band) → Bands u e p bs → length (band_words bs) ≤ 48 * length bs
  payload_words e p bs h = words_of bs (of-bands Fifteen u (fifteen u small) e p bs h)

  pub unit_words_lem : (bs : List Block) → IsChain u bs → length (band_words (told bs).bands) ≤ 48 * length (told bs).bands
  unit_words_lem bs h = words_of (told bs).bands (of-told Fifteen u (fifteen u small) bs h)

  -- no 32 bands of a unit take more than 1,536 words
  pub most_words-hold : (bs : List Block) → IsChain u bs → length (told bs).bands ≤ most_bands
      → length (band_words (told bs).bands) ≤ most_words
  most_words-hold bs h k = let w = unit_words_lem bs h in omega arith

-- and so a record holds them all
pub record-length : (bs : List Band) → length (band_words bs) ≤ most_words → length (record_words bs) ≡ most_words
unfolding record_words
record-length bs h =
    let a = length-append (band_words bs) (replicate (most_words - length (band_words bs)) 0) in
    let b = length-replicate {A = ℕ} (most_words - length (band_words bs)) 0 in
    omega arith
