-- The call: a reading of a cue and a stream within lent lengths, found, or the number of the first refusal (FORMAT 6.4,
-- section 9). What is asked first refuses first. Assumes nothing: these are definitions.
use Rattle.std.specs.Prelude.{ℕ, ◌*◌, List, leb, ℤ, length}
use Rattle.outcome.specs.Outcome.{Res, check, need, and_then, map_res, bad_stream, no_cue, short_pixels, short_canvas}
use Rattle.grammar.specs.Index.{ListedText}
use Rattle.grammar.specs.IndexCues.{cues_of, cue_at}
use Rattle.grammar.specs.Packets.{Form, unit_of, top_stream}
use Rattle.grammar.specs.Record.{told, width, height}
use Rattle.grammar.specs.Picture.{ListedUnit}
use Rattle.grammar.specs.Reading.{Wanted, wanted_id, Reading, told_by, reading_start}
use Rattle.clock_model.specs.Clock.{told_stay, in_time, unit_in_time}
use Rattle.idx_model.specs.Text.{idx_of}
use Rattle.ps_model.specs.Unit.{unit_at}
use Rattle.control_model.specs.Few.{few_at}
use Rattle.spu_model.specs.Unit.{rows_at, listed_unit}

-- what the lent buffers hold
pub record Lent : Type 0 where
  pub scratch : List ℕ
  pub pixels : List ℕ
  pub canvas : List ℕ

abbrev pub lent : List ℕ → List ℕ → List ℕ → Lent
lent s p c = record { scratch = s; pixels = p; canvas = c }

-- what is listed of the text, and how the unit of the cue stands in the file
pub record Found : Type 0 where
  pub text : ListedText
  pub form : Form

abbrev pub found : ListedText → Form → Found
found t m = record { text = t; form = m }

-- 1 to 9 and 41, then 32, then 11, then 12 to 14 with n bytes of scratch
unfoldable pub found_for : List ℕ → List ℕ → Wanted → ℕ → Res Found
found_for text file q n =
    and_then (idx_of text)
    (λ t. check (leb q.stream top_stream) bad_stream
    (and_then (need no_cue (cue_at (cues_of t) q.cue))
    (λ c. map_res (found t) (unit_at (wanted_id q) file c.position n))))

-- 15 to 21 and 34, then 22 and 24 with so many pixels and canvas bytes, then 25 and 26
unfoldable pub canvas_in : List ℕ → ℕ → ℕ → Res ListedUnit
canvas_in u n k =
    and_then (few_at u)
    (λ bs.
    check (leb (width (told bs) * height (told bs)) n) short_pixels
    (check (leb (4 * (width (told bs) * height (told bs))) k) short_canvas (map_res (listed_unit bs) (rows_at u (told bs)))))

-- and then 33, for a cue with this start
unfoldable pub timed_in : ℤ → List ℕ → ℕ → ℕ → Res ListedUnit
timed_in start u n k = unit_in_time start (canvas_in u n k)

abbrev pub reading : Wanted → Found → ListedUnit → Reading
reading q f l = record { text = f.text; cue = q.cue; form = f.form; unit = l }

-- all that is listed, whatever its times
unfoldable pub listed_in : List ℕ → List ℕ → Wanted → Lent → Res Reading
listed_in text file q b =
    and_then (found_for text file q (length b.scratch))
    (λ f. map_res (reading q f) (canvas_in (unit_of f.form) (length b.pixels) (length b.canvas)))

unfoldable pub reading_in : List ℕ → List ℕ → Wanted → Lent → Res Reading
reading_in text file q b = in_time (λ x. told_stay (reading_start x) (told_by x)) (listed_in text file q b)
