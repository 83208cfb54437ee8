-- What each answer of the code means, and what the lent buffers hold after a call (FORMAT 6.5, 6.6). Assumes nothing: these are definitions.
use Rattle.std.specs.Prelude.{ℕ, ◌+◌, ◌-◌, ◌≡◌, cond, List, [], eqb, leb, ℤ, length}
use Rattle.std.proofs.lemmas.List.Edits.{sets}
use Rattle.outcome.specs.Outcome.{Res, ok, refuse, bad_stream, no_cue, long_instant}
use Rattle.grammar.specs.Rows.{Code}
use Rattle.grammar.specs.Packets.{top_stream}
use Rattle.grammar.specs.Record.{Told, told}
use Rattle.grammar.specs.Times.{show_time, hide_time}
use Rattle.grammar.specs.Picture.{ListedUnit}
use Rattle.grammar.specs.Reading.{Wanted, Reading, shown, map_of, unit_canvas, canvas_of}
use Rattle.grammar.specs.Reading as GrammarReading
use Rattle.clock_model.specs.Answers.{ticks, micros, micros_in, times_of}
use Rattle.clock_model.specs.declared.Times.{Times}
use Rattle.control_model.specs.Answers.{spu_of}
use Rattle.control_model.specs.declared.Spu.{Spu}
use Rattle.idx_model.specs.Answers.{duration_in}
use Rattle.idx_model.specs.declared.CueAnswer.{CueAnswer}
use Rattle.ps_model.specs.Answers.{form_stored}
use Rattle.spu_model.specs.Unit.{counts_of}
use Rattle.spu_model.specs.Answers.{unit_map}
use Rattle.vobsub_model.specs.Call.{Lent, Found, found_for, timed_in, reading_in}
use Rattle.vobsub_model.specs.declared.Shown.{Shown}

-- ---- A unit

-- the canvas of what is listed; none on a refusal
abbrev pub canvas_stored : List ℕ → Res ListedUnit → List ℕ
canvas_stored palette (ok l) = unit_canvas palette l
canvas_stored palette (refuse n) = []

-- the times of a cue with this start whose unit's commands told t
abbrev pub times_told : ℤ → Told → Times
times_told start t = times_of (show_time start t.starts) (hide_time start t.starts t.stops)

-- a cue's start and duration, with a unit's record and its times
abbrev pub shown_of : CueAnswer → Spu → Times → Shown
shown_of c s t =
    record {
      start = c.start;
      duration = c.duration;
      started = s.started;
      stopped = s.stopped;
      start_delay = s.start_delay_raw;
      stop_delay = s.stop_delay_raw;
      show = t.show;
      hide = t.hide;
      x1 = s.x1;
      y1 = s.y1;
      width = s.x2 + 1 - s.x1;
      height = s.y2 + 1 - s.y1;
      codes = s.codes;
      clipped = s.clipped;
    }

-- what is shown of a unit as the cue c
abbrev pub paints_of : CueAnswer → Res ListedUnit → Res Shown
paints_of c (ok l) =
    ok
    (shown_of c (spu_of (told l.blocks) (counts_of l)) (times_told c.start.0 (told l.blocks)))
paints_of c (refuse n) = refuse n

-- the refusal of a unit whose times leave: that of its rows, 25 or 26, comes first
abbrev pub late_refusal : Res (List (List Code)) → ℕ
late_refusal (ok rs) = long_instant
late_refusal (refuse n) = n

-- what painting the unit u of the cue c leaves: on a refusal nothing is stored
pub record UnitPainted (u : List ℕ) (c : CueAnswer) (px cv : List ℕ) (r : Res Shown) (px' cv' : List ℕ) : Type 0 where
  pub answer : r ≡ paints_of c (timed_in c.start.0 u (length px) (length cv))
  pub pixels : px' ≡ sets px 0 (unit_map (timed_in c.start.0 u (length px) (length cv)))
  pub canvas : cv' ≡ sets cv 0 (canvas_stored c.palette (timed_in c.start.0 u (length px) (length cv)))

-- ---- The whole call

-- the refusal n of a text or a cue, where stream s is asked for: a stream above the greatest comes after the text and
-- before the cue
abbrev pub first_refusal : ℕ → ℕ → ℕ
first_refusal n s = cond (eqb n no_cue) (cond (leb s top_stream) n bad_stream) n

-- what a reading shows
unfoldable pub shown_given : GrammarReading.Shown → Shown
shown_given g =
    record {
      start = micros g.start;
      duration = duration_in g.duration;
      started = g.started;
      stopped = g.stopped;
      start_delay = ticks g.start_delay;
      stop_delay = ticks g.stop_delay;
      show = micros_in g.show;
      hide = micros_in g.hide;
      x1 = g.x1;
      y1 = g.y1;
      width = g.width;
      height = g.height;
      codes = g.codes;
      clipped = g.clipped;
    }

abbrev pub canvas_answer : Res Reading → Res Shown
canvas_answer (ok r) = ok (shown_given (shown r))
canvas_answer (refuse n) = refuse n

-- what each buffer gets: scratch as soon as the unit is found, the others from a whole reading
abbrev pub scratch_of : Res Found → List ℕ
scratch_of (ok f) = form_stored f.form
scratch_of (refuse n) = []

abbrev pub pixels_of : Res Reading → List ℕ
pixels_of (ok r) = map_of r
pixels_of (refuse n) = []

abbrev pub painted_of : Res Reading → List ℕ
painted_of (ok r) = canvas_of r
painted_of (refuse n) = []

-- the answer, and what the three buffers hold: on a refusal as found, but for the front of scratch after a unit was
-- joined there
pub record CuePainted (text file : List ℕ) (q : Wanted) (b : Lent) (r : Res Shown) (b' : Lent) : Type 0 where
  pub answer : r ≡ canvas_answer (reading_in text file q b)
  pub in_scratch : b'.scratch ≡ sets b.scratch 0 (scratch_of (found_for text file q (length b.scratch)))
  pub in_pixels : b'.pixels ≡ sets b.pixels 0 (pixels_of (reading_in text file q b))
  pub in_canvas : b'.canvas ≡ sets b.canvas 0 (painted_of (reading_in text file q b))
