-- What the functions leave in a lent line, and what a lent cue table holds (FORMAT 8). Assumes nothing: these are definitions.
use Rattle.std.specs.Prelude.{ℕ, zero, suc, ◌+◌, ◌-◌, ◌≤◌, ◌≡◌, Bool, ◌↔◌, List, [], ◌∷◌, map, ℤ, length}
use Rattle.std.specs.Prelude.{Option, Some as some}
use Rattle.std.proofs.lemmas.List.Edits.{sets}
use Rattle.outcome.specs.Outcome.{IsOk, map_res}
use Rattle.grammar.specs.Index.{ListedText, IsText}
use Rattle.grammar.specs.IndexCues.{Cue, cues_of, cue_at}
use Rattle.grammar.specs.Packets.{Packet, stream_id}
use Rattle.grammar.specs.Streams.{Walk, Alike}
use Rattle.grammar.specs.Reading.{wanted, Reading, IsReading, Shown, shown}
use Rattle.grammar.specs.Times.{show_time, hide_time}
use Rattle.clock_model.specs.Clock.{unit_in_time}
use Rattle.clock_model.specs.Answers.{delayed}
use Rattle.spu_model.specs.Unit.{unit_at}
use Rattle.control_model.specs.declared.Spu.{Spu}
use Rattle.ps_model.specs.Answers.{unit_stored}
use Rattle.listing_model.specs.Lines.{refused_line, shown_line}
use Rattle.listing_model.specs.Title.{list_stream, shown_at, timed_for, form_for, shown_for, line_of, cue_line, head_line, listed_cues}
use Rattle.listing_model.specs.declared.Head.{Head}

-- ---- In a line

-- at most k bytes, put into a line from place `at` on, and the place after them
pub record Put (k : ℕ) (l : List ℕ) (at : ℕ) (bytes : List ℕ) (r : ℕ) (l' : List ℕ) : Type 0 where
  pub next : r ≡ at + length bytes
  pub stored : l' ≡ sets l at bytes
  pub within : r ≤ at + k

-- a whole line, and its length, which a line of 256 bytes has room for
pub record Written (bytes : List ℕ) (l : List ℕ) (r : ℕ) (l' : List ℕ) : Type 0 where
  pub size : r ≡ length bytes
  pub stored : l' ≡ sets l 0 bytes
  pub inside : r ≤ 256

-- what is shown of the record s at these times
abbrev pub record_shown : ℤ → Option ℕ → Spu → Shown
record_shown start duration s =
    record {
      start = start;
      duration = duration;
      start_delay = s.start_delay_raw.0;
      stop_delay = s.stop_delay_raw.0;
      started = s.started;
      stopped = s.stopped;
      show = show_time start (delayed s.started s.start_delay_raw.0);
      hide =
          hide_time start (delayed s.started s.start_delay_raw.0)
          (delayed s.stopped s.stop_delay_raw.0);
      x1 = s.x1;
      y1 = s.y1;
      width = s.x2 + 1 - s.x1;
      height = s.y2 + 1 - s.y1;
      codes = s.codes;
      clipped = s.clipped;
    }

-- the line of cue n with these times and the unit u
abbrev pub unit_line : ℕ → ℤ → Option ℕ → List ℕ → List ℕ
unit_line n start duration u = line_of n (map_res (shown_at start duration) (unit_in_time start (unit_at u)))

-- and with this position in the file f
abbrev pub position_line : ℕ → ℤ → Option ℕ → List ℕ → ℕ → List ℕ
position_line n start duration f p = line_of n (map_res (shown_at start duration) (timed_for start f p))

-- ---- The cue table

-- the first k cues that two buffers hold
unfoldable pub table_of : List ℤ → List ℕ → ℕ → List Cue
table_of starts positions zero = []
table_of [] positions (suc k) = []
table_of (z ∷ starts) [] (suc k) = []
table_of (z ∷ starts) (p ∷ positions) (suc k) = record { start = z; position = p } ∷ table_of starts positions k

-- ---- What a cue's line says in the grammar's words
-- of a text with these cues: a line that is not refused exactly where there is a reading for stream 0, and then with the
-- values of every reading; where there is none, a line that says so
pub record Exactly (cs : List Cue) (f : List ℕ) (n : ℕ) (l l' : List ℕ) : Type 0 where
  pub exactly_when : (text : List ℕ) (index : ListedText) → IsText text index → cues_of index ≡ cs
      → IsOk (shown_for cs f n) ↔ ((x : Reading) × IsReading text f (wanted n list_stream) x)
  pub same : (text : List ℕ) (x : Reading) → cues_of x.text ≡ cs → IsReading text f (wanted n list_stream) x
      → l' ≡ sets l 0 (shown_line n (shown x))
  pub refused : (text : List ℕ) (index : ListedText) → IsText text index → cues_of index ≡ cs
      → ((x : Reading) → IsReading text f (wanted n list_stream) x → ⊥)
      → (k : ℕ) × (l' ≡ sets l 0 (refused_line n k))

-- ---- Other streams (FORMAT 2.11)

-- f and g have the same readings for cue n of every text with the cues cs, and two calls leave the same line of the
-- same length, and the same in scratch
pub record SameLine (cs : List Cue) (f g : List ℕ) (n r t : ℕ) (l l' s s' : List ℕ) : Type 0 where
  pub readings : (text : List ℕ) (index : ListedText) → IsText text index → cues_of index ≡ cs
      → (x : Reading) → IsReading text f (wanted n list_stream) x ↔ IsReading text g (wanted n list_stream) x
  pub size : r ≡ t
  pub line : l ≡ l'
  pub scratch : s ≡ s'

-- a file that differs from f in packets of other streams alone, among those walked from the cue's position, gives the
-- same
abbrev pub Undisturbed : List Cue → List ℕ → ℕ → List ℕ → List ℕ → ℕ → List ℕ → List ℕ → Type 0
Undisturbed cs f n l s r l' s' =
    (g : List ℕ) (c : Cue) (ps : List Packet) → cue_at cs n ≡ some c
    → Walk (stream_id list_stream) f c.position [] ps → Alike list_stream f g ps
    → (t : ℕ) (l'' s'' : List ℕ) → Written (cue_line cs g n) l t l'' → s'' ≡ sets s 0 (unit_stored (form_for cs g n))
    → SameLine cs f g n r t l' l'' s' s''

-- ---- The first line of a title: its length, the number of cues, the table that they are in, and what the buffers hold
pub record Headed (there : Bool) (text file : List ℕ) (starts : List ℤ) (positions l : List ℕ) (r : Head) (starts' : List ℤ) (positions' l' : List ℕ) : Type 0 where
  pub line : Written (head_line there text file) l r.size l'
  pub count : r.cues ≡ length (listed_cues there text file)
  pub table : table_of starts' positions' r.cues ≡ listed_cues there text file
  pub starts_are : starts' ≡ sets starts 0 (map (λ (c : Cue). c.start) (listed_cues there text file))
  pub positions_are : positions' ≡ sets positions 0 (map (λ (c : Cue). c.position) (listed_cues there text file))
  pub starts_long : length starts' ≡ length starts
  pub positions_long : length positions' ≡ length positions
