-- Parts of the index text: blanks, trimming, splitting, words at the front (FORMAT 1.1, 1.2). Conditions on finished parts; they find none.
-- Assumes nothing: these are definitions.
use Rattle.std.specs.Prelude.{ℕ, suc, ◌+◌, ◌≡◌, Bool, true, false, not, ◌&&◌, ◌||◌, ◌⊎◌, List, [], ◌∷◌, ◌++◌, length, leb, eqb}
use Rattle.grammar.specs.Parts.{Part}

-- a blank (FORMAT 1.1)
abbrev pub blank : ℕ → Bool
blank b = (leb 9 b && leb b 13) || eqb b 32

-- a byte between tokens, and a byte of one (FORMAT 1.5)
abbrev pub parting : ℕ → Bool
parting b = blank b || eqb b 44

abbrev pub token_byte : ℕ → Bool
token_byte b = not (parting b)

-- not the separator
abbrev pub unlike : ℕ → ℕ → Bool
unlike sep b = not (eqb b sep)

-- the separators, by name
abbrev pub line_end : ℕ
line_end = 10

abbrev pub comma : ℕ
comma = 44

abbrev pub colon : ℕ
colon = 58

abbrev pub letter_x : ℕ
letter_x = 120

-- every byte passes; no byte stands here that passes; the last byte, if there is one, does not pass
abbrev pub All : (ℕ → Bool) → List ℕ → Type 0
All p [] = Unit {0}
All p (b ∷ s) = (p b ≡ true) × All p s

abbrev pub Stops : (ℕ → Bool) → List ℕ → Type 0
Stops p [] = Unit {0}
Stops p (b ∷ s) = p b ≡ false

abbrev pub Ends : (ℕ → Bool) → List ℕ → Type 0
Ends p [] = Unit {0}
Ends p (b ∷ []) = p b ≡ false
Ends p (b ∷ c ∷ s) = Ends p (c ∷ s)

-- s is a and then b, where a is every leading byte that passes
pub record Span (p : ℕ → Bool) (s a b : List ℕ) : Type 0 where
  pub whole : s ≡ a ++ b
  pub front : All p a
  pub stops : Stops p b

-- i is o without every leading blank and every trailing one (FORMAT 1.1)
pub record Trimmed (o i : Part) : Type 0 where
  pub before : List ℕ
  pub middle : List ℕ
  pub after : List ℕ
  pub leading : Span blank o.bytes before middle
  pub rest : middle ≡ i.bytes ++ after
  pub trailing : All blank after
  pub ends : Ends blank i.bytes
  pub place : i.place ≡ o.place + length before

-- the second parts are the first ones, each trimmed
abbrev pub AllTrimmed : List Part → List Part → Type 0
AllTrimmed [] [] = Unit {0}
AllTrimmed [] (i ∷ is) = ⊥
AllTrimmed (o ∷ os) [] = ⊥
AllTrimmed (o ∷ os) (i ∷ is) = Trimmed o i × AllTrimmed os is

-- the parts of s, which starts at place `at`: each goes up to the next separator, the last to the end (FORMAT 1.2)
abbrev pub Parted : ℕ → ℕ → List ℕ → List Part → Type 0
Parted sep at s [] = ⊥
Parted sep at s (p ∷ []) = (p.place ≡ at) × (p.bytes ≡ s) × All (unlike sep) p.bytes
Parted sep at s (p ∷ q ∷ ps) =
    (p.place ≡ at)
    × (rest : List ℕ)
    × (s ≡ p.bytes ++ sep ∷ rest)
    × All (unlike sep) p.bytes
    × Parted sep (at + suc (length p.bytes)) rest (q ∷ ps)

-- s starts with the word w
abbrev pub StartsWith : List ℕ → List ℕ → Type 0
StartsWith w s = (r : List ℕ) × (s ≡ w ++ r)

-- r is what follows the word w in i
pub record After (w : List ℕ) (i r : Part) : Type 0 where
  pub whole : i.bytes ≡ w ++ r.bytes
  pub place : r.place ≡ i.place + length w

-- a and b are the two sides of the first separator (FORMAT 1.4)
pub record Halves (sep : ℕ) (s a b : Part) : Type 0 where
  pub whole : s.bytes ≡ a.bytes ++ sep ∷ b.bytes
  pub first : All (unlike sep) a.bytes
  pub left : a.place ≡ s.place
  pub right : b.place ≡ s.place + suc (length a.bytes)

-- x is the first of the parts with P; none has P; x is the last with P
abbrev pub First : (Part → Type 0) → List Part → Part → Type 0
First P [] x = ⊥
First P (p ∷ ps) x = (P p × (p ≡ x)) ⊎ ((P p → ⊥) × First P ps x)

abbrev pub NoneOf : (Part → Type 0) → List Part → Type 0
NoneOf P [] = Unit {0}
NoneOf P (p ∷ ps) = (P p → ⊥) × NoneOf P ps

abbrev pub Last : (Part → Type 0) → List Part → Part → Type 0
Last P [] x = ⊥
Last P (p ∷ ps) x = Last P ps x ⊎ (NoneOf P ps × P p × (p ≡ x))
