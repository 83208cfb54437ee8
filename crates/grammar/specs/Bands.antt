-- The colour bands of a colour change: conditions on a finished list of bands, and the words that they are stored as (FORMAT 4).
-- They find no band. Assumes nothing: these are definitions.
use Rattle.std.specs.Prelude.{ℕ, suc, ◌+◌, ◌-◌, ◌*◌, ◌/◌, ◌%◌, ◌≤◌, ◌<◌, ◌≡◌, ◌⊎◌, List, [], ◌∷◌, ◌++◌, length, replicate}
use Rattle.grammar.specs.Bytes.{word}

-- an entry: where it stands, its start column, and the words of its four selectors and its four alphas
pub record Entry : Type 0 where
  pub place : ℕ
  pub column : ℕ
  pub selectors : ℕ
  pub alphas : ℕ

-- a band: where its header stands, its first and last line, how many entries it has, and those
pub record Band : Type 0 where
  pub place : ℕ
  pub first : ℕ
  pub last : ℕ
  pub count : ℕ
  pub entries : List Entry

-- x stands in u, before byte e, and starts at column `least` or right of it (FORMAT 4.4)
pub record IsEntry (u : List ℕ) (e least : ℕ) (x : Entry) : Type 0 where
  pub within : x.place + 6 ≤ e
  pub column_is : x.column ≡ word u x.place
  pub selectors_are : x.selectors ≡ word u (x.place + 2)
  pub alphas_are : x.alphas ≡ word u (x.place + 4)
  pub rising : least ≤ x.column

-- entries from p on, each to the right of the one before it
unfoldable pub Entries : List ℕ → ℕ → ℕ → ℕ → List Entry → Type 0
Entries u e p least [] = Unit {0}
Entries u e p least (x ∷ xs) = (x.place ≡ p) × IsEntry u e least x × Entries u e (p + 6) (suc x.column) xs

-- the end mark `0F FF FF FF` at p (FORMAT 4.2)
pub record EndMark (u : List ℕ) (e p : ℕ) : Type 0 where
  pub within : p + 4 ≤ e
  pub mark : word u p * 65536 + word u (p + 2) ≡ 0x0FFFFFFF

-- b stands in u, before byte e (FORMAT 4.3)
pub record IsBand (u : List ℕ) (e : ℕ) (b : Band) : Type 0 where
  pub within : b.place + 4 ≤ e
  pub no_mark : EndMark u e b.place → ⊥
  pub zero_nibble : word u b.place < 4096
  pub first_is : b.first ≡ word u b.place
  pub count_is : b.count ≡ word u (b.place + 2) / 4096
  pub last_is : b.last ≡ word u (b.place + 2) % 4096
  pub order : b.first ≤ b.last
  pub all : length b.entries ≡ b.count
  pub list : Entries u e (b.place + 4) 0 b.entries

-- the place after a band
abbrev pub band_end : Band → ℕ
band_end b = b.place + 4 + 6 * b.count

-- bands from p on: they end where the bytes end, or at the end mark, and anything may follow that (FORMAT 4.2)
unfoldable pub Bands : List ℕ → ℕ → ℕ → List Band → Type 0
Bands u e p [] = (p ≡ e) ⊎ EndMark u e p
Bands u e p (b ∷ bs) = (b.place ≡ p) × IsBand u e b × Bands u e (band_end b) bs

-- ---- What listed bands give

-- the words of entries, and of bands: 3 + 3n for a band of n entries (FORMAT 4.5)
unfoldable pub entry_words : List Entry → List ℕ
entry_words [] = []
entry_words (x ∷ xs) = x.column ∷ x.selectors ∷ x.alphas ∷ entry_words xs

unfoldable pub band_words : List Band → List ℕ
band_words [] = []
band_words (b ∷ bs) = b.first ∷ b.last ∷ b.count ∷ entry_words b.entries ++ band_words bs

-- the most bands that a unit has, and the most words that so many take (FORMAT 4.5)
abbrev pub most_bands : ℕ
most_bands = 32

abbrev pub most_words : ℕ
most_words = 1536

-- the words of bands as a record holds them: 0 after the last
unfoldable pub record_words : List Band → List ℕ
record_words bs = band_words bs ++ replicate (most_words - length (band_words bs)) 0
