-- What each answer of the code means, and what is written on the way. Assumes nothing: these are definitions.
use Rattle.std.specs.Prelude.{ℕ, ◌+◌, ◌*◌, ◌≤◌, ◌≡◌, List, [], ◌∷◌, ◌++◌, length}
use Rattle.std.proofs.lemmas.List.Edits.{sets}
use Rattle.outcome.specs.Outcome.{Res, ok, refuse, listed}
use Rattle.demo_model.specs.Codes.{packed, last_marks}
use Rattle.demo_model.specs.Unit.{Four, top_nibbles, bottom_nibbles, demo_at}
use Rattle.demo_model.specs.declared.NibbleWriter.{NibbleWriter}
use Rattle.demo_model.specs.declared.Ends.{Ends}

-- the last of an odd number of nibbles, else 0
unfoldable pub half : List ℕ → ℕ
half [] = 0
half (a ∷ []) = a
half (a ∷ b ∷ ns) = half ns

-- the nibbles ns are written in the output o: how many they are, the last where their number is odd, and their bytes from place 4 on
pub record Inked (ns o : List ℕ) (w : NibbleWriter) (out : List ℕ) : Type 0 where
  pub count : w.pos ≡ length ns
  pub last : w.high ≡ half ns
  pub bytes : out ≡ sets o 4 (packed ns)

-- a picture that may be written
pub record Sound (w h : ℕ) (px : List ℕ) : Type 0 where
  pub wide : 1 ≤ w
  pub w_most : w ≤ 4096
  pub high : 1 ≤ h
  pub h_most : h ≤ 4096
  pub all : length px ≡ w * h
  pub colours : Four px

-- the nibbles of its fields, counted
pub record EndsOf (w h : ℕ) (px : List ℕ) (e : Ends) : Type 0 where
  pub top : e.top ≡ length (top_nibbles last_marks w h px)
  pub all : e.all ≡ length (top_nibbles last_marks w h px) + length (bottom_nibbles last_marks w h px)

pub record FieldsWritten (w h : ℕ) (px out : List ℕ) (e : Ends) (out' : List ℕ) : Type 0 where
  pub ends : EndsOf w h px e
  pub most : e.all ≤ 200000000
  pub bytes : out' ≡ sets out 4 (packed (top_nibbles last_marks w h px ++ bottom_nibbles last_marks w h px))

-- the length of the written unit
abbrev pub demo_given : Res (List ℕ) → Res ℕ
demo_given (ok u) = ok (length u)
demo_given (refuse n) = refuse n

-- what writing a picture leaves: on a refusal nothing is stored
pub record Written (w h : ℕ) (px out : List ℕ) (r : Res ℕ) (out' : List ℕ) : Type 0 where
  pub answer : r ≡ demo_given (demo_at w h px (length out))
  pub output : out' ≡ sets out 0 (listed (demo_at w h px (length out)))
