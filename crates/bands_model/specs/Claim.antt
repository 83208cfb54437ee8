-- What the layer claims, in the grammar's words; `proofs/Claim.antt` has it kept. Assumes nothing: these are definitions.
use Rattle.std.specs.Prelude.{ℕ, ◌≤◌, ◌<◌, ◌≡◌, ◌⊎◌, List, length}
use Rattle.outcome.specs.Outcome.{Res, ok, refuse, no_band_list, many_bands}
use Rattle.grammar.specs.Bands.{Band, Bands, band_words, most_bands, record_words}

-- the grammar lists bands in u from p on, before byte e, and ws are their words
pub record Listing (u : List ℕ) (e p : ℕ) (ws : List ℕ) : Type 0 where
  pub bands : List Band
  pub is : Bands u e p bands
  pub words : ws ≡ band_words bands

-- the grammar lists these bands in the payload s
abbrev pub PayloadBands : List ℕ → List Band → Type 0
PayloadBands s bs = Bands s (length s) 0 bs

-- more bands are listed in s than a unit has
abbrev pub TooMany : List ℕ → Type 0
TooMany s = (bs : List Band) × PayloadBands s bs × (most_bands < length bs)

-- what an answer for the payload s, and the array after it, say: where words are answered, bands are listed, at most
-- 32, and the array holds their words and then 0; a refusal leaves the array as found, and says that nothing is listed,
-- or, where it is 34, that too many are
abbrev pub Says : List ℕ → List ℕ → List ℕ → Res ℕ → Type 0
Says s ws ws' (ok n) =
    (bs : List Band) × PayloadBands s bs × (length bs ≤ most_bands) × (n ≡ length (band_words bs))
    × (ws' ≡ record_words bs) × (TooMany s → ⊥)
Says s ws ws' (refuse k) =
    (ws' ≡ ws) × (((k ≡ no_band_list) × ((bs : List Band) → PayloadBands s bs → ⊥)) ⊎ ((k ≡ many_bands) × TooMany s))
