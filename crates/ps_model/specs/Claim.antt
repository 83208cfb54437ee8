-- What the layer claims, in the grammar's words; `proofs/Claim.antt` has it kept. Assumes nothing: these are definitions.
use Rattle.std.specs.Prelude.{ℕ, ◌≤◌, ◌<◌, ◌≡◌, List, [], ◌↔◌, length, take}
use Rattle.std.proofs.lemmas.List.Edits.{sets}
use Rattle.grammar.specs.Packets.{Packet, Form, IsForm, unit_of, scratch_for, stream_id, top_stream}
use Rattle.grammar.specs.Streams.{Walk, Alike}
use Rattle.ps_model.specs.Answers.{form_given, unit_part, Extracted}
use Rattle.outcome.specs.Outcome.{Res, ok, refuse}
use Rattle.ps_model.specs.declared.UnitAt.{UnitAt}

-- the unit that the answer r speaks of, in the file f or in scratch s', is the one of stream n that stands at p in the
-- form m
pub record Holds (f : List ℕ) (p n : ℕ) (s s' : List ℕ) (r : Res UnitAt) (m : Form) : Type 0 where
  pub in_range : n ≤ top_stream
  pub inside : p < length f
  pub form : IsForm (stream_id n) f p m
  pub room : scratch_for m ≤ length s
  pub answer : r ≡ ok (form_given m)
  pub unit : unit_part f s' p r ≡ unit_of m
  pub stored : s' ≡ sets s 0 (take (scratch_for m) (unit_of m))

-- a unit is one that is listed, for which scratch is long enough; a refusal leaves scratch as found, and says that none such is listed
abbrev pub Says : List ℕ → ℕ → ℕ → List ℕ → List ℕ → Res UnitAt → Type 0
Says f p n s s' (ok (UnitAt.Bare k)) = (m : Form) × Holds f p n s s' (ok (UnitAt.Bare k)) m
Says f p n s s' (ok (UnitAt.Joined k)) = (m : Form) × Holds f p n s s' (ok (UnitAt.Joined k)) m
Says f p n s s' (refuse k) =
    (s' ≡ s) × ((m : Form) → n ≤ top_stream → p < length f → IsForm (stream_id n) f p m → scratch_for m ≤ length s → ⊥)

-- ---- Other streams (FORMAT 2.11)

-- f and g have units of stream n at p in the same forms, and two calls leave the same: the answer, scratch, and the
-- unit that the answer speaks of
pub record SameUnit (f g : List ℕ) (p n : ℕ) (r t : Res UnitAt) (s s' : List ℕ) : Type 0 where
  pub forms : (m : Form) → IsForm (stream_id n) f p m ↔ IsForm (stream_id n) g p m
  pub answer : r ≡ t
  pub scratch : s ≡ s'
  pub unit : unit_part f s p r ≡ unit_part g s' p t

-- a file that differs from f in packets of other streams alone, among those walked from p, gives the same
abbrev pub Undisturbed : List ℕ → ℕ → ℕ → List ℕ → Res UnitAt → List ℕ → Type 0
Undisturbed f p n s r s' =
    (g : List ℕ) (ps : List Packet) → Walk (stream_id n) f p [] ps → Alike n f g ps
    → (t : Res UnitAt) (s'' : List ℕ) → Extracted g p n s t s'' → SameUnit f g p n r t s' s''
