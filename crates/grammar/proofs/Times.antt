-- Show and hide times: the conversion, the times of what was told, their bounds, and where they stay (FORMAT 6.7).
-- Assumes nothing.
use Prim.Native.Nat.{ℕ, ◌+◌, ◌-◌, ◌*◌, ◌/◌, ◌^◌, ◌≤◌, ◌<◌}
use native.Mathlib.Omega.{arith}
use mathlib.Core.Path.{◌≡◌, refl, sym, ap, ◌∙◌, subst}
use mathlib.Core.Bool.{Bool, true, false, cond}
use mathlib.Core.Logic.{◌⊎◌, inl, inr}
use Rattle.std.specs.Prelude.{Option, Some as some, None as none}
use mathlib.Core.List.{List, [], ◌∷◌}
use lib.IntN.{ℤ, pos, negsuc, ◌+ℤ◌}
use Rattle.grammar.specs.Bytes.{byte, word}
use Rattle.grammar.specs.Control.{Order, forced_start, start, stop, Command, Block, Chain, IsChain}
use Rattle.grammar.specs.Record.{Timed, told, given, commands_of, commands_in, first_delay, or_earlier, last_delay, last_numbers, stands, all_bands}
use Rattle.grammar.specs.Reading.{Wanted, Reading, told_by, reading_start, show_of, hide_of, IsReading, shown}
use Rattle.grammar.specs.Times.{in_micros, time_after, show_time, hide_time, TimeStays}

-- ---- Cards

-- a tick, nine of them, the most
pub conversion :
    (in_micros 0 ≡ 0) × (in_micros 1 ≡ 11377) × (in_micros 8 ≡ 91022) × (in_micros 9 ≡ 102400) × (in_micros 10 ≡ 113777)
    × (in_micros 65534 ≡ 745631288) × (in_micros 65535 ≡ 745642666)
conversion = (refl, refl, refl, refl, refl, refl, refl)

-- a delay of 0 is one that is given
pub delay-given : (given {A = ℕ} none ≡ false) × (given {A = ℕ} (some 0) ≡ true)
delay-given = (refl, refl)

-- a block of that delay with one command
abbrev block : ℕ → Order → Block
block d o = record { place = 0; delay = d; next = 0; commands = record { place = 4; order = o } ∷ [] }

-- both times of what blocks tell, for a cue that starts at 7
abbrev shows : List Block → Option ℤ
shows bs = show_time (pos 7) (told bs).starts

abbrev hides : List Block → Option ℤ
hides bs = hide_time (pos 7) (told bs).starts (told bs).stops

-- no command; a start, also at once and forced; a stop; both, in either order; two of each
pub times_told_lem :
    (shows [] ≡ none) × (hides [] ≡ none)
    × (shows (block 9 start ∷ []) ≡ some (pos 102407)) × (hides (block 9 start ∷ []) ≡ none)
    × (shows (block 0 start ∷ []) ≡ some (pos 7)) × (shows (block 1 forced_start ∷ []) ≡ some (pos 11384))
    × (shows (block 9 stop ∷ []) ≡ none) × (hides (block 9 stop ∷ []) ≡ none)
    × (shows (block 1 start ∷ block 9 stop ∷ []) ≡ some (pos 11384))
    × (hides (block 1 start ∷ block 9 stop ∷ []) ≡ some (pos 102407))
    × (shows (block 1 stop ∷ block 9 start ∷ []) ≡ some (pos 102407))
    × (hides (block 1 stop ∷ block 9 start ∷ []) ≡ some (pos 11384))
    × (shows (block 1 start ∷ block 9 start ∷ block 1 stop ∷ block 9 stop ∷ []) ≡ some (pos 11384))
    × (hides (block 1 start ∷ block 9 start ∷ block 1 stop ∷ block 9 stop ∷ []) ≡ some (pos 102407))
unfolding told commands_of commands_in first_delay last_delay last_numbers stands all_bands
times_told_lem = (refl, refl, refl, refl, refl, refl, refl, refl, refl, refl, refl, refl, refl, refl)

-- below 0 too: from -20,000 on, over 0 and not
pub times_below :
    (show_time (negsuc 19999) (some 1) ≡ some (negsuc 8622))
    × (hide_time (negsuc 19999) (some 1) (some 9) ≡ some (pos 82400))
times_below = (refl, refl)

-- ---- Bounds: met exactly, and missed by one

pub top-stays : TimeStays (some (pos (2 ^ 63 - 1)))
top-stays = omega arith

pub top-leaves : TimeStays (some (pos (2 ^ 63))) → ⊥
top-leaves h = omega arith

pub least_stays : TimeStays (some (negsuc (2 ^ 63 - 1)))
least_stays = omega arith

pub least_leaves : TimeStays (some (negsuc (2 ^ 63))) → ⊥
least_leaves h = omega arith

-- 2^63 - 1 less one tick
pub show_met : TimeStays (show_time (pos 9223372036854764430) (some 1))
show_met = omega arith

pub show_missed : TimeStays (show_time (pos 9223372036854764431) (some 1)) → ⊥
show_missed h = omega arith

pub hide_met : TimeStays (hide_time (pos 9223372036854764430) (some 0) (some 1))
hide_met = omega arith

pub hide_missed : TimeStays (hide_time (pos 9223372036854764431) (some 0) (some 1)) → ⊥
hide_missed h = omega arith

-- a stop alone gives no time that could leave
pub stop-alone : (z : ℤ) (d : ℕ) → TimeStays (show_time z none) × TimeStays (hide_time z none (some d))
stop-alone z d = (tt, tt)

-- ---- The delays of a unit of bytes are words, so that a cue from time 0 on keeps its times

-- a delay, if there is one, is a word
abbrev pub Word : Option ℕ → Type 0
Word none = Unit {0}
Word (some d) = d < 65536

-- each command's delay is
unfoldable Words : List Timed → Type 0
Words [] = Unit {0}
Words (c ∷ cs) = (c.delay < 65536) × Words cs

first_word : (p : Timed → Bool) (cs : List Timed) → Words cs → Word (first_delay p cs)
unfolding first_delay Words
first_word p [] h = tt
first_word p (c ∷ cs) h = go (p c) (first_word p cs h.1)
  where
    go : (t : Bool) → Word (first_delay p cs) → Word (cond t (some c.delay) (first_delay p cs))
    go true k = h.0
    go false k = k

last_word : (p : Timed → Bool) (cs : List Timed) → Words cs → Word (last_delay p cs)
unfolding last_delay Words
last_word p [] h = tt
last_word p (c ∷ cs) h = go (last_delay p cs) (p c) (last_word p cs h.1)
  where
    go : (o : Option ℕ) (t : Bool) → Word o → Word (or_earlier o c.delay t)
    go (some d) t k = k
    go none true k = h.0
    go none false k = tt

commands-words : (d : ℕ) (cs : List Command) (rest : List Timed) → d < 65536 → Words rest → Words (commands_in d cs rest)
unfolding commands_in Words
commands-words d [] rest h k = k
commands-words d (c ∷ cs) rest h k = (h, commands-words d cs rest h k)

module _ (u : List ℕ) (low : (i : ℕ) → byte u i < 256) where
  word_low : (i : ℕ) → word u i < 65536
  unfolding word
  word_low i = omega (arith, low i, low (i + 1))

  chain_words_lem : (L p : ℕ) (bs : List Block) → Chain u L p bs → Words (commands_of bs)
  unfolding Chain commands_of Words
  chain_words_lem L p [] h = tt
  chain_words_lem L p (b ∷ bs) h =
      commands-words b.delay b.commands (commands_of bs)
      (subst (λ (d : ℕ). d < 65536) (sym h.1.delay_is) (word_low b.place))
      (go bs (chain_words_lem L b.next bs) h.2)
    where
      go : (cs : List Block) → (Chain u L b.next cs → Words (commands_of cs))
          → ((b.next ≤ b.place) × (cs ≡ [])) ⊎ ((b.place < b.next) × Chain u L b.next cs) → Words (commands_of cs)
      go cs f (inl e) = subst (λ (l : List Block). Words (commands_of l)) (sym e.1) tt
      go cs f (inr e) = f e.1

  pub told-words : (bs : List Block) → IsChain u bs → Word (told bs).starts × Word (told bs).stops
  unfolding told
  told-words bs h =
      let w = chain_words_lem _ _ bs h.chain in (first_word _ (commands_of bs) w, last_word _ (commands_of bs) w)

-- from time 0 on
after-stays : (o : Option ℕ) → Word o → TimeStays (time_after (pos 0) o)
after-stays none h = tt
after-stays (some d) h = omega (arith, h)

pub from-0 : (starts stops : Option ℕ) → Word starts → Word stops
    → TimeStays (show_time (pos 0) starts) × TimeStays (hide_time (pos 0) starts stops)
from-0 none stops h k = (tt, tt)
from-0 (some d) stops h k = (after-stays (some d) h, after-stays stops k)

-- ---- Of a reading

module _ (x : Reading) where
  pub shown_at_lem : (d : ℕ) → (told_by x).starts ≡ some d → show_of x ≡ some (reading_start x +ℤ pos (d * 102400 / 9))
  shown_at_lem d e = ap (show_time (reading_start x)) e

  pub hidden_at : (d e : ℕ) → (told_by x).starts ≡ some d → (told_by x).stops ≡ some e
      → hide_of x ≡ some (reading_start x +ℤ pos (e * 102400 / 9))
  hidden_at d e h k = λ i. hide_time (reading_start x) (h i) (k i)

  pub not-shown : (told_by x).starts ≡ none → (show_of x ≡ none) × (hide_of x ≡ none)
  not-shown e =
      (ap (show_time (reading_start x)) e, ap (λ (o : Option ℕ). hide_time (reading_start x) o (told_by x).stops) e)

  pub not_hidden : (told_by x).stops ≡ none → hide_of x ≡ none
  not_hidden e = ap (hide_time (reading_start x) (told_by x).starts) e ∙ go (told_by x).starts
    where
      go : (o : Option ℕ) → hide_time (reading_start x) o none ≡ none
      go none = refl
      go (some d) = refl

pub times_stay_lem : (text file : List ℕ) (q : Wanted) (x : Reading) → IsReading text file q x
    → TimeStays (shown x).show × TimeStays (shown x).hide
unfolding shown
times_stay_lem text file q x h = (h.show_stays, h.hide_stays)
