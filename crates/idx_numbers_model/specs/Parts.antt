-- Parts of the index text as functions of bytes: what is found, where the grammar has conditions (FORMAT 1.1, 1.2).
-- What finds a part works on bytes alone; the place beside it only counts. Assumes nothing: these are definitions.
use Rattle.std.specs.Prelude.{ℕ, suc, ◌+◌, Bool, true, false, cond, ◌&&◌, List, [], ◌∷◌, length, eqb}
use Rattle.std.specs.Prelude.{Option, Some as some, None as none}
use Rattle.grammar.specs.Parts.{Part}
use Rattle.grammar.specs.IndexParts.{blank}
use Rattle.grammar.specs.IndexNumbers.{Valued}

abbrev pub part : ℕ → List ℕ → Part
part at s = record { place = at; bytes = s }

abbrev pub valued : {A : Type 0} → Part → A → Valued A
valued p v = record { part = p; value = v }

-- every leading byte that passes, and what is left
unfoldable pub front : (ℕ → Bool) → List ℕ → List ℕ
front p [] = []
front p (b ∷ s) = cond (p b) (b ∷ front p s) []

unfoldable pub rest : (ℕ → Bool) → List ℕ → List ℕ
rest p [] = []
rest p (b ∷ s) = cond (p b) (rest p s) (b ∷ s)

-- every byte passes
unfoldable pub all : (ℕ → Bool) → List ℕ → Bool
all p [] = true
all p (b ∷ s) = p b && all p s

-- without every trailing byte that passes
abbrev pub keep : (ℕ → Bool) → ℕ → List ℕ → List ℕ
keep p b [] = cond (p b) [] (b ∷ [])
keep p b (c ∷ s) = b ∷ c ∷ s

unfoldable pub shorn : (ℕ → Bool) → List ℕ → List ℕ
shorn p [] = []
shorn p (b ∷ s) = keep p b (shorn p s)

-- the trimmed bytes, and the trimmed part (FORMAT 1.1)
abbrev pub trimmed : List ℕ → List ℕ
trimmed s = shorn blank (rest blank s)

unfoldable pub trim : Part → Part
trim p = part (p.place + length (front blank p.bytes)) (trimmed p.bytes)

-- the parts of s between the bytes sep (FORMAT 1.2)
abbrev pub push : ℕ → ℕ → List Part → List Part
push at b [] = []
push at b (p ∷ ps) = part at (b ∷ p.bytes) ∷ ps

unfoldable pub split : ℕ → ℕ → List ℕ → List Part
split sep at [] = part at [] ∷ []
split sep at (b ∷ s) = cond (eqb b sep) (part at [] ∷ split sep (suc at) s) (push at b (split sep (suc at) s))

-- what follows the word w, where s starts with it
unfoldable pub strip : List ℕ → List ℕ → Option (List ℕ)
strip [] s = some s
strip (a ∷ w) [] = none
strip (a ∷ w) (b ∷ s) = cond (eqb b a) (strip w s) none

abbrev pub moved : ℕ → Option (List ℕ) → Option Part
moved at none = none
moved at (some s) = some (part at s)

abbrev pub after : List ℕ → Part → Option Part
after w p = moved (p.place + length w) (strip w p.bytes)

abbrev pub found : Option (List ℕ) → Bool
found none = false
found (some r) = true

abbrev pub starts : List ℕ → List ℕ → Bool
starts w s = found (strip w s)
