-- What each answer of the code means. Assumes nothing: these are definitions.
use Rattle.std.specs.Prelude.{ℕ, ◌≡◌, List, [], length, take, drop}
use Rattle.std.proofs.lemmas.List.Edits.{sets}
use Rattle.outcome.specs.Outcome.{Res, ok, refuse, map_res}
use Rattle.grammar.specs.Packets.{Packet, Form, bare, packets, unit_of}
use Rattle.ps_model.specs.Unit.{stream_unit}
use Rattle.ps_model.specs.declared.UnitAt.{UnitAt}

-- how many bytes packets give a unit
abbrev pub joined_given : Res (List Packet) → Res ℕ
joined_given r = map_res (λ ps. length (unit_of (packets ps))) r

-- the form of a unit, and its length
abbrev pub form_given : Form → UnitAt
form_given (bare u) = UnitAt.Bare (length u.bytes)
form_given (packets ps) = UnitAt.Joined (length (unit_of (packets ps)))

abbrev pub unit_given : Res Form → Res UnitAt
unit_given r = map_res form_given r

-- what is stored in scratch: the unit that packets give, and nothing otherwise
abbrev pub form_stored : Form → List ℕ
form_stored (bare u) = []
form_stored (packets ps) = unit_of (packets ps)

abbrev pub unit_stored : Res Form → List ℕ
unit_stored (ok m) = form_stored m
unit_stored (refuse n) = []

-- the bytes that an answer speaks of: a part of the file f from p on, or of scratch s
abbrev pub unit_part : List ℕ → List ℕ → ℕ → Res UnitAt → List ℕ
unit_part f s p (ok (UnitAt.Bare n)) = take n (drop p f)
unit_part f s p (ok (UnitAt.Joined n)) = take n s
unit_part f s p (refuse n) = []

-- what finding the unit of stream n leaves: on a refusal nothing is stored
pub record Extracted (f : List ℕ) (p n : ℕ) (s : List ℕ) (r : Res UnitAt) (s' : List ℕ) : Type 0 where
  pub answer : r ≡ unit_given (stream_unit n f p (length s))
  pub scratch : s' ≡ sets s 0 (unit_stored (stream_unit n f p (length s)))
