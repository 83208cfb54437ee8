-- What the layer claims, in the grammar's words; `proofs/Claim.antt` has it kept. Assumes nothing: these are definitions.
use Rattle.std.specs.Prelude.{ℕ, ◌*◌, ◌≤◌, ◌≡◌, ◌↔◌, List, length}
use Rattle.std.proofs.lemmas.List.Edits.{sets}
use Rattle.outcome.specs.Outcome.{Res, ok, refuse, IsOk}
use Rattle.grammar.specs.Bands.{band_words, record_words}
use Rattle.grammar.specs.Rows.{Code}
use Rattle.grammar.specs.Pixels.{index_map, codes_in, clipped_in}
use Rattle.grammar.specs.Record.{Told, told, given, delay_of, width, height}
use Rattle.grammar.specs.Picture.{ListedUnit, IsUnit}
use Rattle.control_model.specs.declared.Spu.{Spu}
use Rattle.spu_model.specs.declared.Record.{Record}

-- a map of n pixels holds what is listed
abbrev pub LongEnough : ListedUnit → ℕ → Type 0
LongEnough l n = width (told l.blocks) * height (told l.blocks) ≤ n

-- the record s is of what was told, and of the rows rs
pub record Recorded (t : Told) (rs : List (List Code)) (s : Spu) : Type 0 where
  pub x1 : s.x1 ≡ t.at.x1
  pub y1 : s.y1 ≡ t.at.y1
  pub x2 : s.x2 ≡ t.at.x2
  pub y2 : s.y2 ≡ t.at.y2
  pub selected : s.palette_sel ≡ t.selected
  pub alpha : s.alpha ≡ t.alpha
  pub started : s.started ≡ given t.starts
  pub start_delay : s.start_delay_raw.0 ≡ delay_of t.starts
  pub stopped : s.stopped ≡ given t.stops
  pub stop_delay : s.stop_delay_raw.0 ≡ delay_of t.stops
  pub forced : s.forced_display ≡ t.forced
  pub top : s.top_rle_off ≡ t.fields.top
  pub bottom : s.bot_rle_off ≡ t.fields.bottom
  pub changed : s.saw_chg_colcon ≡ t.changed
  pub band_words : s.band_words ≡ length (band_words t.bands)
  pub codes : s.codes ≡ codes_in rs
  pub clipped : s.clipped ≡ clipped_in (width t) rs

-- the record r and the map after it hold what is listed: all words of the record are those of the listed bands, and
-- then 0
pub record GivesUnit (l : ListedUnit) (px : List ℕ) (r : Record) (px' : List ℕ) : Type 0 where
  pub recorded : Recorded (told l.blocks) l.rows r.spu
  pub bands : r.bands ≡ record_words (told l.blocks).bands
  pub pixels : px' ≡ sets px 0 (index_map (width (told l.blocks)) l.rows)

-- a record is given exactly where a unit is listed and the map is long enough; a refusal leaves the map as found
pub record Says (u px px' : List ℕ) (r : Res Record) : Type 0 where
  pub exactly_when : IsOk r ↔ ((l : ListedUnit) × IsUnit u l × LongEnough l (length px))
  pub same : (l : ListedUnit) → IsUnit u l → (v : Record) → r ≡ ok v → GivesUnit l px v px'
  pub as_found : (IsOk r → ⊥) → px' ≡ px

-- of a record without the bands, with no map: it is of a unit that is listed; a refusal says that none is
abbrev pub Measures : List ℕ → Res Spu → Type 0
Measures u (ok s) = (l : ListedUnit) × IsUnit u l × Recorded (told l.blocks) l.rows s
Measures u (refuse n) = (l : ListedUnit) → IsUnit u l → ⊥
