-- What each answer means, and what the words hold afterwards. Assumes nothing: these are definitions.
use Rattle.std.specs.Prelude.{ℕ, ◌+◌, ◌-◌, ◌≤◌, ◌≡◌, cond, List, [], ◌++◌, leb, eqb, length, drop, replicate}
use Rattle.std.proofs.lemmas.List.Edits.{sets}
use Rattle.outcome.specs.Outcome.{Res, ok, refuse, check, and_then, listed, IsOk, no_band_list, many_bands}
use Rattle.grammar.specs.Bands.{most_bands, most_words}
use Rattle.bands_model.specs.Bands.{bands_of, entries_of}
use Rattle.bands_model.specs.Count.{bands_held}
use Rattle.bands_model.specs.declared.Stop.{Stop}
use Rattle.bands_model.specs.declared.Stop.TheVariants as stop

-- the number of words, and n more
abbrev pub count_of : ℕ → Res (List ℕ) → Res ℕ
count_of n (refuse k) = refuse k
count_of n (ok ws) = ok (n + length ws)

-- words, and 0 after them
abbrev pub padded : List ℕ → List ℕ
padded ws = sets (replicate most_words 0) 0 ws

-- the words of the bands in s, where these are not too many: 19 comes before 34
unfoldable pub stored : List ℕ → Res (List ℕ)
stored s = and_then (bands_of s) (λ v. check (leb (bands_held v) most_bands) many_bands (ok v))

-- an array after words are stored in it, or as it was
abbrev pub array_after : List ℕ → Res (List ℕ) → List ℕ
array_after ws (ok v) = padded v
array_after ws (refuse k) = ws

-- what reading a payload into an array leaves
pub record Stored (s ws : List ℕ) (r : Res ℕ) (ws' : List ℕ) : Type 0 where
  pub answer : r ≡ count_of 0 (stored s)
  pub words : ws' ≡ array_after ws (stored s)

-- words in front of what follows
abbrev pub pushes : List ℕ → Res (List ℕ) → Res (List ℕ)
pushes ws (refuse k) = refuse k
pushes ws (ok v) = ok (ws ++ v)

-- the words from a header on, or with `left` entries of a band to go
abbrev pub rest_of : List ℕ → ℕ → ℕ → Res (List ℕ)
rest_of s left lo = cond (eqb left 0) (bands_of s) (entries_of s left lo)

-- the last n of the bytes
abbrev pub last_of : ℕ → List ℕ → List ℕ
last_of n s = drop (length s - n) s

-- ws are read of the words g that s gives, and stored from place `at` on, where h is still to be read
pub record Part (g h : Res (List ℕ)) (at to : ℕ) (v v' : List ℕ) : Type 0 where
  pub ws : List ℕ
  pub reads : g ≡ pushes ws h
  pub place : to ≡ at + length ws
  pub words : v' ≡ sets v at ws

-- the same up to byte i of s, each word in more than a byte
pub record Ahead (s : List ℕ) (g h : Res (List ℕ)) (at : ℕ) (v : List ℕ) (i to : ℕ) (v' : List ℕ) : Type 0 where
  pub there : i ≤ length s
  pub room : to + length s ≤ at + length s + i
  pub part : Part g h at to v v'

-- where reading the words g from the bytes s stops after at most d calls: each of d calls has taken a byte at least, and a word takes
-- more than a byte
unfoldable pub Goes : List ℕ → ℕ → Res (List ℕ) → ℕ → List ℕ → Stop → List ℕ → Type 0
Goes s d g at v (stop.End to) v' = Part g (ok []) at to v v'
Goes s d g at v stop.Bad v' = g ≡ refuse no_band_list
Goes s d g at v (stop.More rest left lo to) v' =
    Part g (rest_of (last_of rest s) left lo) at to v v' × (rest + d ≤ length s) × (to + rest ≤ at + length s)

-- what reading a whole list leaves: its words are stored where it is one
pub record ListRead (s : List ℕ) (at : ℕ) (ws : List ℕ) (r : Res ℕ) (ws' : List ℕ) : Type 0 where
  pub answer : r ≡ count_of 0 (bands_of s)
  pub words : IsOk (bands_of s) → ws' ≡ sets ws at (listed (bands_of s))
