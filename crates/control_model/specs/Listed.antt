-- The bands that stored words hold, with their places; and so the bands of a payload, found. Assumes nothing: these are definitions.
use Rattle.std.specs.Prelude.{ℕ, zero, suc, ◌+◌, List, [], ◌∷◌}
use Rattle.std.proofs.Math.Seq.{slice}
use Rattle.outcome.specs.Outcome.{Res, map_res}
use Rattle.grammar.specs.Bands.{Entry, Band}
use Rattle.bands_model.specs.Bands.{bands_of}

-- the entries of a band that are still to come, and the bands after it
pub record Rest : Type 0 where
  pub entries : List Entry
  pub bands : List Band

abbrev pub rest : List Entry → List Band → Rest
rest es bs = record { entries = es; bands = bs }

abbrev pub with_entry : ℕ → ℕ → ℕ → ℕ → Rest → Rest
with_entry p c s a r = rest (record { place = p; column = c; selectors = s; alphas = a } ∷ r.entries) r.bands

abbrev pub with_band : ℕ → ℕ → ℕ → ℕ → Rest → Rest
with_band p f l n r = rest [] (record { place = p; first = f; last = l; count = n; entries = r.entries } ∷ r.bands)

-- words from place p on, with `left` entries of a band to go: an entry has three words and six bytes, a header three and four (FORMAT 4.5)
unfoldable pub held : ℕ → ℕ → List ℕ → Rest
held left p [] = rest [] []
held left p (a ∷ []) = rest [] []
held left p (a ∷ b ∷ []) = rest [] []
held zero p (f ∷ l ∷ n ∷ ws) = with_band p f l n (held n (p + 4) ws)
held (suc k) p (c ∷ s ∷ a ∷ ws) = with_entry p c s a (held k (p + 6) ws)

abbrev pub held_bands : ℕ → List ℕ → List Band
held_bands p ws = (held zero p ws).bands

-- the bands in the bytes of u from p up to e (FORMAT 4.2)
unfoldable pub bands_at : List ℕ → ℕ → ℕ → Res (List Band)
bands_at u e p = map_res (held_bands p) (bands_of (slice p e u))
