-- Closed inputs on which each edit of this crate's definitions gives another value. Assumes nothing.
use mathlib.Core.Path.{◌≡◌, refl}
use mathlib.Core.Bool.{true}
use Rattle.std.specs.Prelude.{Some as some}
use Prim.Native.Nat.{ℕ}
use mathlib.Core.List.{List, [], ◌∷◌}
use lib.ListN.{length, get_or, replicate}
use Rattle.outcome.specs.Outcome.{ok, refuse, no_band_list, many_bands}
use Rattle.bands_model.specs.Bands.{header, entry_of, got, bands_of, entries_of}
use Rattle.bands_model.specs.Count.{counting, bands_held}
use Rattle.bands_model.specs.Answers.{padded, stored, array_after}
use Rattle.bands_model.specs.Look.{look, looking, look_words, spanning, spans_line}

-- a band of two entries at the same column is none
pub equal_columns : bands_of (0 ∷ 0 ∷ 32 ∷ 0 ∷ 0 ∷ 1 ∷ 0 ∷ 0 ∷ 0 ∷ 0 ∷ 0 ∷ 1 ∷ 0 ∷ 0 ∷ 0 ∷ 0 ∷ []) ≡ refuse no_band_list
unfolding bands_of entries_of header entry_of
equal_columns = refl

-- 32 headers without entries are stored, 33 are too many, though they take 99 words
pub bands-32 : stored (replicate 128 0) ≡ ok (replicate 96 0)
unfolding stored bands_of header counting
bands-32 = refl

pub bands_33 : stored (replicate 132 0) ≡ refuse many_bands
unfolding stored bands_of header counting
bands_33 = refl

-- six words of one band, then 0 at the next place and at the last; an array after a refusal is as found
abbrev six : List ℕ
six = 0 ∷ 5 ∷ 1 ∷ 0 ∷ 7 ∷ 8 ∷ []

pub words_then_0 : get_or (padded six) 5 9 ∷ get_or (padded six) 6 9 ∷ get_or (padded six) 1535 9 ∷ length (padded six) ∷ [] ≡ 8 ∷ 0 ∷ 0 ∷ 1536 ∷ []
words_then_0 = refl

pub array-kept : array_after (1 ∷ []) (refuse many_bands) ≡ 1 ∷ []
array-kept = refl

-- a band with an entry and one without are two, and the entry none
pub held-2 : bands_held (0 ∷ 5 ∷ 1 ∷ 0 ∷ 7 ∷ 8 ∷ 0 ∷ 5 ∷ 0 ∷ []) ≡ 2
unfolding counting
held-2 = refl

-- a band of lines 0 to 5 gives its colours on line 5
pub last_line : look_words 0 5 (0 ∷ 5 ∷ 1 ∷ 0 ∷ 7 ∷ 8 ∷ []) ≡ some (look 7 8)
unfolding look_words looking
last_line = refl

-- the second of two bands without an entry spans line 5
pub second-band : spans_line 5 (0 ∷ 1 ∷ 0 ∷ 5 ∷ 5 ∷ 0 ∷ []) ≡ true
unfolding spans_line spanning
second-band = refl

-- an entry at column 1 with selectors 0 1 2 3 and alphas 4 5 6 7
pub entry_words_lem : entry_of (0x00 ∷ 0x01 ∷ 0x01 ∷ 0x23 ∷ 0x45 ∷ 0x67 ∷ []) 0 ≡ got 1 0x0123 0x4567
unfolding entry_of
entry_words_lem = refl
