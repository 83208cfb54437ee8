-- A reading of index text and file for a cue and a stream, what makes it one, and what it gives (FORMAT 6.4 to 6.7).
-- It is found by nobody here: it passes or fails. Assumes nothing: these are definitions.
use Rattle.std.specs.Prelude.{ℕ, ◌*◌, ◌≤◌, ◌<◌, ◌≡◌, Bool, List, map, length, ℤ, pos}
use Rattle.std.specs.Prelude.{Option, Some as some, None as none}
use Rattle.grammar.specs.Index.{ListedText, IsText}
use Rattle.grammar.specs.IndexCues.{Cue, cues_of, cue_at, palette_of, duration_of}
use Rattle.grammar.specs.Packets.{Form, IsForm, unit_of, scratch_for, stream_id, top_stream}
use Rattle.grammar.specs.Bands.{band_words}
use Rattle.grammar.specs.Record.{Told, told, given, delay_of, width, height}
use Rattle.grammar.specs.Times.{show_time, hide_time, TimeStays}
use Rattle.grammar.specs.Picture.{ListedUnit, IsUnit}
use Rattle.grammar.specs.Pixels.{row_pixels, index_map, codes_in, clipped_in}
use Rattle.grammar.specs.Canvas.{told_look, canvas_bytes}

-- what a caller asks for: the number of a cue, and that of a subpicture stream
pub record Wanted : Type 0 where
  pub cue : ℕ
  pub stream : ℕ

abbrev pub wanted : ℕ → ℕ → Wanted
wanted n s = record { cue = n; stream = s }

-- the id of the packets that keep anything (FORMAT 2.6)
abbrev pub wanted_id : Wanted → ℕ → Bool
wanted_id q = stream_id q.stream

-- what is listed of the text, which of its cues is read, how its unit stands in the file, and the unit's blocks and
-- rows
pub record Reading : Type 0 where
  pub text : ListedText
  pub cue : ℕ
  pub form : Form
  pub unit : ListedUnit

-- what its commands told
abbrev pub told_by : Reading → Told
told_by r = told r.unit.blocks

-- its cue's start, and the times at which the picture is shown and hidden
abbrev pub start_at : Option Cue → ℤ
start_at none = pos 0
start_at (some c) = c.start

abbrev pub reading_start : Reading → ℤ
reading_start r = start_at (cue_at (cues_of r.text) r.cue)

abbrev pub show_of : Reading → Option ℤ
show_of r = show_time (reading_start r) (told_by r).starts

abbrev pub hide_of : Reading → Option ℤ
hide_of r = hide_time (reading_start r) (told_by r).starts (told_by r).stops

-- r is a reading of these files for the cue and the stream that are asked for
pub record IsReading (text file : List ℕ) (q : Wanted) (r : Reading) : Type 0 where
  pub text_is : IsText text r.text
  pub cue_is : r.cue ≡ q.cue
  pub stream_is : q.stream ≤ top_stream
  pub at : Cue
  pub listed : cue_at (cues_of r.text) r.cue ≡ some at
  pub before_end : at.position < length file
  pub form_is : IsForm (wanted_id q) file at.position r.form
  pub unit_is : IsUnit (unit_of r.form) r.unit
  pub show_stays : TimeStays (show_of r)
  pub hide_stays : TimeStays (hide_of r)

-- ---- What a reading gives

-- times, whether a start and a stop command stand, origin, size, number of codes and number of clipped ones
pub record Shown : Type 0 where
  pub start : ℤ
  pub duration : Option ℕ
  pub start_delay : ℕ
  pub stop_delay : ℕ
  pub started : Bool
  pub stopped : Bool
  pub show : Option ℤ
  pub hide : Option ℤ
  pub x1 : ℕ
  pub y1 : ℕ
  pub width : ℕ
  pub height : ℕ
  pub codes : ℕ
  pub clipped : ℕ

unfoldable pub shown : Reading → Shown
shown r =
    record {
      start = reading_start r;
      duration = duration_of (cues_of r.text) r.cue;
      start_delay = delay_of (told_by r).starts;
      stop_delay = delay_of (told_by r).stops;
      started = given (told_by r).starts;
      stopped = given (told_by r).stops;
      show = show_of r;
      hide = hide_of r;
      x1 = (told_by r).at.x1;
      y1 = (told_by r).at.y1;
      width = width (told_by r);
      height = height (told_by r);
      codes = codes_in r.unit.rows;
      clipped = clipped_in (width (told_by r)) r.unit.rows;
    }

-- the index map, the words of all bands, which its unit's record has, and the canvas
unfoldable pub map_of : Reading → List ℕ
map_of r = index_map (width (told_by r)) r.unit.rows

unfoldable pub words_of : Reading → List ℕ
words_of r = band_words (told_by r).bands

-- a listed unit in the colours of a palette
unfoldable pub unit_canvas : List ℕ → ListedUnit → List ℕ
unit_canvas palette l =
    canvas_bytes palette (told_look (told l.blocks)) (told l.blocks).at.x1 (told l.blocks).at.y1
    (map (row_pixels (width (told l.blocks))) l.rows)

unfoldable pub canvas_of : Reading → List ℕ
canvas_of r = unit_canvas (palette_of r.text) r.unit

-- scratch, map and canvas of these lengths are long enough (FORMAT 6.6)
pub record LongEnough (r : Reading) (scratch pixels canvas : ℕ) : Type 0 where
  pub for_unit : scratch_for r.form ≤ scratch
  pub for_map : width (told_by r) * height (told_by r) ≤ pixels
  pub for_canvas : 4 * (width (told_by r) * height (told_by r)) ≤ canvas
