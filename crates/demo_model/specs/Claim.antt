-- What the layer claims: a written unit reads back as the picture that was given. `proofs/Claim.antt` has it kept.
-- Assumes nothing: these are definitions.
use Rattle.std.specs.Prelude.{ℕ, ◌+◌, ◌-◌, ◌*◌, ◌/◌, ◌≤◌, ◌≡◌, false, List, [], length, take}
use Rattle.std.specs.Prelude.{Some as some, None as none}
use Rattle.std.proofs.lemmas.List.Edits.{sets}
use Rattle.outcome.specs.Outcome.{Res, ok, refuse}
use Rattle.grammar.specs.Bands.{record_words}
use Rattle.grammar.specs.Record.{Told, told, width, height}
use Rattle.grammar.specs.Picture.{ListedUnit, IsUnit}
use Rattle.grammar.specs.Pixels.{index_map, codes_in}
use Rattle.control_model.specs.Answers.{spu_of}
use Rattle.spu_model.specs.Answers.{Decoded}
use Rattle.spu_model.specs.declared.Record.{Record}
use Rattle.demo_model.specs.Codes.{last_marks}
use Rattle.demo_model.specs.Unit.{top_nibbles}
use Rattle.spu_model.specs.Unit.{counts_of}

-- what the commands of the control block tell, of a picture whose bottom field is at b
abbrev pub written_told : ℕ → ℕ → ℕ → Told
written_told w h b =
    record {
      at = record { x1 = 0; x2 = w - 1; y1 = 0; y2 = h - 1 };
      selected = 0x0132;
      alpha = 0x0FFF;
      starts = some 0;
      stops = none;
      forced = false;
      fields = record { top = 4; bottom = b };
      changed = false;
      bands = [];
    }

-- what is listed of a written unit u: its width, height and map are the picture's, each as the listed commands and rows give it
pub record Listed (w h : ℕ) (px u : List ℕ) (l : ListedUnit) : Type 0 where
  pub listed : IsUnit u l
  pub wide : width (told l.blocks) ≡ w
  pub high : height (told l.blocks) ≡ h
  pub picture : index_map (width (told l.blocks)) l.rows ≡ px

-- what reading it into a map leaves: the size, the place 0 0, as many codes as are listed, none of them clipped, every
-- pixel, and no band: all words of the record are those of the listed bands, and then 0
pub record ReadsBack (w h : ℕ) (px : List ℕ) (l : ListedUnit) (map : List ℕ) (r : Record) (map' : List ℕ) : Type 0 where
  pub x1 : r.spu.x1 ≡ 0
  pub y1 : r.spu.y1 ≡ 0
  pub wide : r.spu.x2 + 1 ≡ w
  pub high : r.spu.y2 + 1 ≡ h
  pub codes : r.spu.codes ≡ codes_in l.rows
  pub clipped : r.spu.clipped ≡ 0
  pub others : r.spu ≡ spu_of (written_told w h (4 + length (top_nibbles last_marks w h px) / 2)) (counts_of l)
  pub bands : r.bands ≡ record_words (told l.blocks).bands
  pub no_band : (told l.blocks).bands ≡ []
  pub pixels : map' ≡ sets map 0 px

-- the grammar lists the unit u as the picture, and reading it into any map that holds the picture is accepted and gives
-- it back
pub record RoundTrip (w h : ℕ) (px u : List ℕ) : Type 0 where
  pub list : ListedUnit
  pub lists : Listed w h px u list
  pub reads : (map : List ℕ) → w * h ≤ length map → (r : Res Record) (map' : List ℕ) → Decoded u map r map'
      → (v : Record) × (r ≡ ok v) × ReadsBack w h px list map v map'

-- of every picture that is accepted, with the unit in the front of the output
abbrev pub RoundTrips : ℕ → ℕ → List ℕ → Res ℕ → List ℕ → Type 0
RoundTrips w h px (ok n) out = RoundTrip w h px (take n out)
RoundTrips w h px (refuse k) out = Unit {0}
