-- What the answers say in the grammar's words (FORMAT 1). Assumes nothing: these are definitions.
use Rattle.std.specs.Prelude.{ℕ, ◌≤◌, ◌<◌, min, ◌≡◌, ◌↔◌, List, map, length, ℤ}
use Rattle.std.specs.Prelude.{Some as some}
use Rattle.std.proofs.lemmas.List.Edits.{sets}
use Rattle.grammar.specs.Index.{ListedText, IsText}
use Rattle.grammar.specs.IndexCues.{Cue, cues_of, cue_at, palette_of, has_palette, display_size, duration_of}
use Rattle.grammar.specs.Record.{given}
use Rattle.outcome.specs.Outcome.{Res, ok, IsOk}
use Rattle.idx_model.specs.Answers.{duration_in}
use Rattle.idx_model.specs.declared.IdxAnswer.{IdxAnswer}
use Rattle.idx_model.specs.declared.CueAnswer.{CueAnswer}

-- the answer and both buffers are what the listed text gives
pub record Gives (t : ListedText) (starts : List ℤ) (positions : List ℕ) (r : IdxAnswer) (starts' : List ℤ) (positions' : List ℕ) : Type 0 where
  pub width : r.width ≡ (display_size t).width
  pub height : r.height ≡ (display_size t).height
  pub coloured : r.has_palette ≡ has_palette t
  pub palette : r.palette ≡ palette_of t
  pub count : r.cues ≡ length (cues_of t)
  pub starts_are : starts' ≡ sets starts 0 (map (λ (c : Cue). c.start) (cues_of t))
  pub positions_are : positions' ≡ sets positions 0 (map (λ (c : Cue). c.position) (cues_of t))

-- accepted is a text exactly where the grammar lists it and both buffers have room for its cues; a refusal leaves them
-- as found
pub record IdxSays (text : List ℕ) (starts : List ℤ) (positions : List ℕ) (r : Res IdxAnswer) (starts' : List ℤ) (positions' : List ℕ) : Type 0 where
  pub exactly_when : IsOk r ↔ ((t : ListedText) × IsText text t × (length (cues_of t) ≤ min (length starts) (length positions)))
  pub same : (t : ListedText) → IsText text t → (a : IdxAnswer) → r ≡ ok a → Gives t starts positions a starts' positions'
  pub as_found : (IsOk r → ⊥) → (starts' ≡ starts) × (positions' ≡ positions)

-- the answer is what the listed text gives for cue n, which is c; whether it has a duration stands in the grammar's own word, beside the
-- equation's
pub record GivesCue (t : ListedText) (n : ℕ) (c : Cue) (r : CueAnswer) : Type 0 where
  pub start : r.start.0 ≡ c.start
  pub position : r.position ≡ c.position
  pub lasts : given r.duration ≡ given (duration_of (cues_of t) n)
  pub duration : r.duration ≡ duration_in (duration_of (cues_of t) n)
  pub coloured : r.has_palette ≡ has_palette t
  pub palette : r.palette ≡ palette_of t

-- a cue is given exactly where the grammar lists the text and it has that cue
pub record CueSays (text : List ℕ) (n : ℕ) (r : Res CueAnswer) : Type 0 where
  pub exactly_when : IsOk r ↔ ((t : ListedText) × IsText text t × (n < length (cues_of t)))
  pub same : (t : ListedText) → IsText text t → (c : Cue) → cue_at (cues_of t) n ≡ some c → (a : CueAnswer) → r ≡ ok a → GivesCue t n c a
