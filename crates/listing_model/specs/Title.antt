-- What is listed of a title: its cues, and for each what is shown or the number of the refusal (FORMAT 8). No buffer counts here: those
-- that the program lends are always long enough. Assumes nothing: these are definitions.
use Rattle.std.specs.Prelude.{ℕ, zero, suc, Bool, cond, ◌&&◌, List, [], ◌++◌, leb, ℤ, length}
use Rattle.std.specs.Prelude.{Option}
use Rattle.outcome.specs.Outcome.{Res, ok, refuse, need, and_then, map_res, listed, no_cue}
use Rattle.grammar.specs.IndexCues.{Cue, cues_of, cue_at, duration_of}
use Rattle.grammar.specs.Packets.{Form, unit_of, stream_id}
use Rattle.grammar.specs.Record.{told, given, delay_of, width, height}
use Rattle.grammar.specs.Times.{show_time, hide_time}
use Rattle.grammar.specs.Picture.{ListedUnit}
use Rattle.grammar.specs.Pixels.{codes_in, clipped_in}
use Rattle.grammar.specs.Reading.{Shown}
use Rattle.clock_model.specs.Clock.{unit_in_time}
use Rattle.idx_model.specs.Text.{idx_of}
use Rattle.ps_model.specs.Packets.{form_at}
use Rattle.spu_model.specs.Unit.{unit_at}
use Rattle.listing_model.specs.Lines.{shown_line, refused_line, cues_line, index_line, file_line}

-- ---- A cue

-- the stream whose units are listed (FORMAT 8.3)
abbrev pub list_stream : ℕ
list_stream = 0

-- what is shown of a unit l at these times
abbrev pub shown_at : ℤ → Option ℕ → ListedUnit → Shown
shown_at start duration l =
    record {
      start = start;
      duration = duration;
      start_delay = delay_of (told l.blocks).starts;
      stop_delay = delay_of (told l.blocks).stops;
      started = given (told l.blocks).starts;
      stopped = given (told l.blocks).stops;
      show = show_time start (told l.blocks).starts;
      hide = hide_time start (told l.blocks).starts (told l.blocks).stops;
      x1 = (told l.blocks).at.x1;
      y1 = (told l.blocks).at.y1;
      width = width (told l.blocks);
      height = height (told l.blocks);
      codes = codes_in l.rows;
      clipped = clipped_in (width (told l.blocks)) l.rows;
    }

-- the unit at a cue's position: 12, 13, then 15 to 21, 25 and 26
unfoldable pub unit_for : List ℕ → ℕ → Res ListedUnit
unit_for f p = and_then (form_at (stream_id list_stream) f p) (λ m. unit_at (unit_of m))

-- and then 33, for a cue with this start
unfoldable pub timed_for : ℤ → List ℕ → ℕ → Res ListedUnit
timed_for start f p = unit_in_time start (unit_for f p)

-- how the unit of cue n of the cues cs stands in the file: 11, 12 or 13
unfoldable pub form_for : List Cue → List ℕ → ℕ → Res Form
form_for cs f n = and_then (need no_cue (cue_at cs n)) (λ c. form_at (stream_id list_stream) f c.position)

-- what is shown of cue n of the cues cs
unfoldable pub shown_for : List Cue → List ℕ → ℕ → Res Shown
shown_for cs f n =
    and_then (need no_cue (cue_at cs n))
    (λ c. map_res (shown_at c.start (duration_of cs n)) (timed_for c.start f c.position))

abbrev pub line_of : ℕ → Res Shown → List ℕ
line_of n (ok s) = shown_line n s
line_of n (refuse k) = refused_line n k

-- the line of cue n
abbrev pub cue_line : List Cue → List ℕ → ℕ → List ℕ
cue_line cs f n = line_of n (shown_for cs f n)

-- ---- The title

-- both files are there, and neither is longer than 65,536 bytes
abbrev pub readable : Bool → List ℕ → List ℕ → Bool
readable there text file = there && (leb (length text) 65536 && leb (length file) 65536)

abbrev pub indexed : Res (List Cue) → List ℕ
indexed (ok cs) = cues_line (length cs)
indexed (refuse k) = index_line k

-- the cues of a text
abbrev pub cues_in : List ℕ → Res (List Cue)
cues_in text = map_res cues_of (idx_of text)

-- the first line of a title, and its cues, of which each has a line
abbrev pub head_line : Bool → List ℕ → List ℕ → List ℕ
head_line there text file = cond (readable there text file) (indexed (cues_in text)) file_line

abbrev pub listed_cues : Bool → List ℕ → List ℕ → List Cue
listed_cues there text file = cond (readable there text file) (listed (cues_in text)) []

-- the lines of k cues from cue n on
unfoldable pub cue_lines : List Cue → List ℕ → ℕ → ℕ → List ℕ
cue_lines cs f n zero = []
cue_lines cs f n (suc k) = cue_line cs f n ++ cue_lines cs f (suc n) k

-- all that is written of a title (FORMAT 8.2, 8.3)
unfoldable pub title_lines : Bool → List ℕ → List ℕ → List ℕ
title_lines there text file = head_line there text file ++ cue_lines (listed_cues there text file) file 0 (length (listed_cues there text file))
