-- What the call claims of whole files, in the grammar's words (FORMAT 6.4 to 6.7). Assumes nothing: these are definitions.
use Rattle.std.specs.Prelude.{◌≡◌, ◌↔◌, List, [], ℕ, ◌*◌, length, take}
use Rattle.std.specs.Prelude.{Some as some}
use Rattle.std.proofs.lemmas.List.Edits.{sets}
use Rattle.grammar.specs.Index.{ListedText, IsText}
use Rattle.grammar.specs.IndexCues.{Cue, cues_of, cue_at}
use Rattle.grammar.specs.Packets.{Packet, unit_of, scratch_for}
use Rattle.grammar.specs.Record.{given}
use Rattle.grammar.specs.Streams.{Walk, Alike}
use Rattle.grammar.specs.Reading.{Wanted, wanted_id, Reading, IsReading, shown, map_of, canvas_of, LongEnough}
use Rattle.outcome.specs.Outcome.{Res, ok, IsOk}
use Rattle.clock_model.specs.Answers.{micros_in}
use Rattle.idx_model.specs.Answers.{duration_in}
use Rattle.vobsub_model.specs.Call.{Lent}
use Rattle.vobsub_model.specs.Answers.{CuePainted}
use Rattle.vobsub_model.specs.declared.Shown.{Shown}

-- the answer is a canvas
abbrev pub Gives : Res Shown → Type 0
Gives r = IsOk r

-- the lent buffers are long enough for a reading
abbrev pub Room : Reading → Lent → Type 0
Room x b = LongEnough x (length b.scratch) (length b.pixels) (length b.canvas)

-- answer and buffers are what the reading gives, a byte of the map and four of the canvas for each pixel; past that each buffer is as found.
-- Whether there is a duration, a show and a hide time stands in the grammar's own word, beside the equation's
pub record Equal (x : Reading) (b : Lent) (r : Res Shown) (b' : Lent) : Type 0 where
  pub says : Shown
  pub paints : r ≡ ok says
  pub start : says.start.0 ≡ (shown x).start
  pub lasts : given says.duration ≡ given (shown x).duration
  pub duration : says.duration ≡ duration_in (shown x).duration
  pub started : says.started ≡ (shown x).started
  pub stopped : says.stopped ≡ (shown x).stopped
  pub start_delay : says.start_delay.0 ≡ (shown x).start_delay
  pub stop_delay : says.stop_delay.0 ≡ (shown x).stop_delay
  pub shows : given says.show ≡ given (shown x).show
  pub show : says.show ≡ micros_in (shown x).show
  pub hides : given says.hide ≡ given (shown x).hide
  pub hide : says.hide ≡ micros_in (shown x).hide
  pub x1 : says.x1 ≡ (shown x).x1
  pub y1 : says.y1 ≡ (shown x).y1
  pub width : says.width ≡ (shown x).width
  pub height : says.height ≡ (shown x).height
  pub codes : says.codes ≡ (shown x).codes
  pub clipped : says.clipped ≡ (shown x).clipped
  pub in_scratch : b'.scratch ≡ sets b.scratch 0 (take (scratch_for x.form) (unit_of x.form))
  pub in_pixels : b'.pixels ≡ sets b.pixels 0 (map_of x)
  pub in_canvas : b'.canvas ≡ sets b.canvas 0 (canvas_of x)
  pub map_long : length (map_of x) ≡ (shown x).width * (shown x).height
  pub canvas_long : length (canvas_of x) ≡ 4 * ((shown x).width * (shown x).height)

-- a canvas exactly where there is a reading and room for it; no two readings; and all that is given is the reading's
pub record Exactly (text file : List ℕ) (q : Wanted) (b : Lent) (r : Res Shown) (b' : Lent) : Type 0 where
  pub exactly_when : Gives r ↔ ((x : Reading) × IsReading text file q x × Room x b)
  pub no_two : (x y : Reading) → IsReading text file q x → IsReading text file q y → x ≡ y
  pub same : (x : Reading) → IsReading text file q x → Gives r → Equal x b r b'
  pub as_found : (Gives r → ⊥) → (b'.pixels ≡ b.pixels) × (b'.canvas ≡ b.canvas)

-- ---- Other streams (FORMAT 2.11)

-- two files give a cue the same readings, and two calls leave the same: the answer with every number, and all three
-- buffers
pub record SameResults (text file other : List ℕ) (q : Wanted) (r t : Res Shown) (b c : Lent) : Type 0 where
  pub readings : (x : Reading) → IsReading text file q x ↔ IsReading text other q x
  pub answer : r ≡ t
  pub scratch : b.scratch ≡ c.scratch
  pub pixels : b.pixels ≡ c.pixels
  pub canvas : b.canvas ≡ c.canvas

-- a file that differs from this one in packets of other streams alone, among those walked from the cue's position,
-- gives the same
abbrev pub Undisturbed : List ℕ → List ℕ → Wanted → Lent → Res Shown → Lent → Type 0
Undisturbed text file q b r b' =
    (other : List ℕ) (index : ListedText) (c : Cue) (ps : List Packet)
    → IsText text index → cue_at (cues_of index) q.cue ≡ some c
    → Walk (wanted_id q) file c.position [] ps → Alike q.stream file other ps
    → (t : Res Shown) (b'' : Lent) → CuePainted text other q b t b'' → SameResults text file other q r t b' b''
