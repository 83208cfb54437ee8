-- What the exported functions return and leave, in the words of the layers: the number of a refusal, 0 only where there is none (`returned`), and
-- the last content of all that was lent. Assumes nothing: these are definitions.
use Rattle.std.specs.Prelude.{ℕ, ◌*◌, ◌≤◌, ◌<◌, min, ◌≡◌, List, [], ◌∷◌, map, ◌↔◌, cond, ℤ, length, take}
use Rattle.std.specs.Prelude.{Some as some}
use Rattle.std.proofs.lemmas.List.Edits.{sets}
use Rattle.outcome.specs.Outcome.{Res, ok, refuse, listed, listed_by, refusal_of, Returned, no_band_list, many_bands}
use Rattle.grammar.specs.Bands.{Band, band_words, most_bands, record_words}
use Rattle.grammar.specs.Rows.{Code}
use Rattle.grammar.specs.Pixels.{index_map, codes_in, clipped_in}
use Rattle.grammar.specs.Picture.{ListedUnit, IsUnit}
use Rattle.bands_model.specs.Answers.{count_of, stored, array_after}
use Rattle.bands_model.specs.Claim.{PayloadBands, TooMany}
use Rattle.grammar.specs.Index.{ListedText, IsText}
use Rattle.grammar.specs.IndexCues.{Cue, cues_of, cue_at, palette_of, has_palette, display_size, duration_of}
use Rattle.grammar.specs.Packets.{Packet, stream_id}
use Rattle.grammar.specs.Streams.{Walk, Alike}
use Rattle.ps_model.specs.OnePacket.{body_at}
use Rattle.ps_model.specs.Unit.{stream_unit}
use Rattle.ps_model.specs.Answers.{unit_given, unit_stored}
use Rattle.ps_model.specs.declared.UnitAt.{UnitAt}
use Rattle.rle_model.specs.Field.{decoded, paint_field}
use Rattle.rle_model.specs.Answers.{field_answer}
use Rattle.idx_model.specs.Text.{idx_of}
use Rattle.idx_model.specs.Answers.{idx_with, idx_answer, starts_of, positions_of, or_zero, pick_of, cue_answer}
use Rattle.demo_model.specs.Unit.{demo_at}
use Rattle.demo_model.specs.Answers.{demo_given}
use Rattle.demo_model.specs.Claim.{RoundTrip}
use Rattle.spu_model.specs.Unit.{unit_in}
use Rattle.spu_model.specs.Answers.{record_given, unit_map}
use Rattle.spu_model.specs.Claim.{LongEnough}
use Rattle.grammar.specs.Record.{Told, told, given, delay_of, width}
use Rattle.grammar.specs.Reading.{Wanted, wanted_id, Reading, IsReading, shown}
use Rattle.clock_model.specs.Answers.{time_or0}
use Rattle.vobsub_model.specs.Call.{Lent, found_for, reading_in}
use Rattle.vobsub_model.specs.Answers.{canvas_answer, scratch_of, pixels_of, painted_of}
use Rattle.vobsub_model.specs.Claim.{Room, Exactly}
use Rattle.vobsub_numbers.specs.Numbers.{spu_numbers, idx_numbers, cue_numbers, shown_numbers, shown_times}

-- what an answer has, or what was there
abbrev pub or_before : {A B : Type 0} → (A → B) → Res A → B → B
or_before f (ok a) before = f a
or_before f (refuse n) before = before

-- what is stored is what is listed of the payload: all words of the array, and how many are used (FORMAT 4.5)
pub record PayloadTold (bs : List Band) (r : ℕ) (bands : List ℕ) (count : ℕ) : Type 0 where
  pub accepted : r ≡ 0
  pub bands_are : bands ≡ record_words bs
  pub count_is : count ≡ length (band_words bs)

pub record BandsGiven (payload bands : List ℕ) (count r : ℕ) (bands' : List ℕ) (count' : ℕ) : Type 0 where
  pub refusal : r ≡ refusal_of (count_of 0 (stored payload))
  pub returned : Returned (stored payload) r
  pub counted : count' ≡ or_before (λ n. n) (count_of 0 (stored payload)) count
  pub stores : bands' ≡ array_after bands (stored payload)
  pub as_found : (r ≡ 0 → ⊥) → (bands' ≡ bands) × (count' ≡ count)
  pub payload_told : (bs : List Band) → PayloadBands payload bs → length bs ≤ most_bands
      → PayloadTold bs r bands' count'
  pub too_many : TooMany payload → r ≡ many_bands
  pub unlisted : ((bs : List Band) → PayloadBands payload bs → ⊥) → r ≡ no_band_list

abbrev pub unit_length : UnitAt → ℕ
unit_length (UnitAt.Bare n) = n
unit_length (UnitAt.Joined n) = n

-- 1 for a unit in scratch, 0 for one in the file
abbrev pub unit_joined : UnitAt → ℕ
unit_joined (UnitAt.Bare n) = 0
unit_joined (UnitAt.Joined n) = 1

pub record UnitExtracted (file : List ℕ) (position stream : ℕ) (scratch : List ℕ) (before joined r : ℕ) (scratch' : List ℕ) (after joined' : ℕ) : Type 0 where
  pub refusal : r ≡ refusal_of (unit_given (stream_unit stream file position (length scratch)))
  pub returned : Returned (stream_unit stream file position (length scratch)) r
  pub long : after ≡ or_before unit_length (unit_given (stream_unit stream file position (length scratch))) before
  pub where_is : joined' ≡ or_before unit_joined (unit_given (stream_unit stream file position (length scratch))) joined
  pub stores : scratch' ≡ sets scratch 0 (unit_stored (stream_unit stream file position (length scratch)))

-- two calls return and leave the same
pub record SameExtracted (r t : ℕ) (scratch scratch' : List ℕ) (after after' joined joined' : ℕ) : Type 0 where
  pub refusal : r ≡ t
  pub stores : scratch ≡ scratch'
  pub long : after ≡ after'
  pub where_is : joined ≡ joined'

-- a file that differs from this one in packets of other streams alone, among those walked from the position, gives the
-- same (FORMAT 2.11)
abbrev pub UnitUndisturbed : List ℕ → ℕ → ℕ → List ℕ → ℕ → ℕ → ℕ → List ℕ → ℕ → ℕ → Type 0
UnitUndisturbed file position stream scratch before joined r scratch' after joined' =
    (other : List ℕ) (ps : List Packet) → Walk (stream_id stream) file position [] ps → Alike stream file other ps
    → (t : ℕ) (scratch'' : List ℕ) (after'' joined'' : ℕ) → UnitExtracted other position stream scratch before joined t scratch'' after'' joined''
    → SameExtracted r t scratch' scratch'' after after'' joined' joined''

pub record BodyFound (pes : List ℕ) (before r after : ℕ) : Type 0 where
  pub refusal : r ≡ refusal_of (body_at pes 0 (length pes))
  pub returned : Returned (body_at pes 0 (length pes)) r
  pub place : after ≡ or_before (λ b. b) (body_at pes 0 (length pes)) before

pub record FieldDecoded (field : List ℕ) (w h start : ℕ) (pixels : List ℕ) (codes clipped r : ℕ) (pixels' : List ℕ)
    (codes' clipped' : ℕ) : Type 0 where
  pub refusal : r ≡ refusal_of (field_answer w (decoded field w h start pixels))
  pub returned : Returned (decoded field w h start pixels) r
  pub codes_are : codes' ≡ or_before (λ n. n.codes) (field_answer w (decoded field w h start pixels)) codes
  pub clipped_are : clipped' ≡ or_before (λ n. n.clipped) (field_answer w (decoded field w h start pixels)) clipped
  pub stores : pixels' ≡ paint_field w (start * w) (listed (decoded field w h start pixels)) pixels

-- the numbers of what was told and of its rows, in the order of include/vobsub.h
abbrev pub told_numbers : Told → List (List Code) → List ℕ
told_numbers t rs =
    t.at.x1 ∷ t.at.y1 ∷ t.at.x2 ∷ t.at.y2 ∷ t.selected ∷ t.alpha
    ∷ cond (given t.starts) 1 0 ∷ delay_of t.starts ∷ cond (given t.stops) 1 0 ∷ delay_of t.stops
    ∷ cond t.forced 1 0 ∷ t.fields.top ∷ t.fields.bottom ∷ cond t.changed 1 0
    ∷ length (band_words t.bands) ∷ codes_in rs ∷ clipped_in (width t) rs ∷ []

-- what is stored is what is listed of the unit: the map, all words of the array, and each number at its place in
-- include/vobsub.h (FORMAT 3.6)
pub record UnitTold (l : ListedUnit) (pixels pixels' bands numbers : List ℕ) : Type 0 where
  pub map_is : pixels' ≡ sets pixels 0 (index_map (width (told l.blocks)) l.rows)
  pub bands_are : bands ≡ record_words (told l.blocks).bands
  pub numbers_are : numbers ≡ told_numbers (told l.blocks) l.rows

pub record UnitDecoded (unit pixels bands before : List ℕ) (r : ℕ) (pixels' bands' after : List ℕ) : Type 0 where
  pub refusal : r ≡ refusal_of (record_given (unit_in unit (length pixels)))
  pub returned : Returned (unit_in unit (length pixels)) r
  pub told : after ≡ or_before (λ a. spu_numbers a.spu) (record_given (unit_in unit (length pixels))) before
  pub paints : pixels' ≡ sets pixels 0 (unit_map (unit_in unit (length pixels)))
  pub stores : bands' ≡ or_before (λ a. a.bands) (record_given (unit_in unit (length pixels))) bands
  pub as_found : (r ≡ 0 → ⊥) → (pixels' ≡ pixels) × (bands' ≡ bands) × (after ≡ before)
  pub exactly_when : (r ≡ 0) ↔ ((l : ListedUnit) × IsUnit unit l × LongEnough l (length pixels))
  pub unit_told : (l : ListedUnit) → IsUnit unit l → LongEnough l (length pixels)
      → UnitTold l pixels pixels' bands' after

pub record UnitWritten (w h : ℕ) (indices out : List ℕ) (before r : ℕ) (out' : List ℕ) (after : ℕ) : Type 0 where
  pub refusal : r ≡ refusal_of (demo_given (demo_at w h indices (length out)))
  pub returned : Returned (demo_at w h indices (length out)) r
  pub long : after ≡ or_before (λ n. n) (demo_given (demo_at w h indices (length out))) before
  pub stores : out' ≡ sets out 0 (listed (demo_at w h indices (length out)))
  pub round_trip : r ≡ 0 → RoundTrip w h indices (take after out')

-- what is stored is what is listed of the text: start and position of each cue, the palette, and each number at its
-- place in include/vobsub.h (FORMAT 1.9, 1.12)
pub record TextTold (t : ListedText) (starts : List ℤ) (positions : List ℕ) (starts' : List ℤ)
    (positions' palette numbers : List ℕ) : Type 0 where
  pub starts_are : starts' ≡ sets starts 0 (map (λ (c : Cue). c.start) (cues_of t))
  pub positions_are : positions' ≡ sets positions 0 (map (λ (c : Cue). c.position) (cues_of t))
  pub palette_is : palette ≡ palette_of t
  pub numbers_are : numbers
      ≡ (display_size t).width ∷ (display_size t).height ∷ cond (has_palette t) 1 0 ∷ length (cues_of t) ∷ []

pub record IndexGiven (text : List ℕ) (starts : List ℤ) (positions palette numbers : List ℕ) (r : ℕ) (starts' : List ℤ) (positions' palette' numbers' : List ℕ) : Type 0 where
  pub refusal : r ≡ refusal_of (idx_answer (idx_with starts positions text))
  pub returned : Returned (idx_with starts positions text) r
  pub told : numbers' ≡ or_before idx_numbers (idx_answer (idx_with starts positions text)) numbers
  pub colours : palette' ≡ or_before (λ a. a.palette) (idx_answer (idx_with starts positions text)) palette
  pub starts_are : starts' ≡ sets starts 0 (starts_of (listed_by (idx_with starts positions text) cues_of))
  pub positions_are : positions' ≡ sets positions 0 (positions_of (listed_by (idx_with starts positions text) cues_of))
  pub as_found : (r ≡ 0 → ⊥)
      → (starts' ≡ starts) × (positions' ≡ positions) × (palette' ≡ palette) × (numbers' ≡ numbers)
  pub exactly_when : (r ≡ 0)
      ↔ ((t : ListedText) × IsText text t × (length (cues_of t) ≤ min (length starts) (length positions)))
  pub text_told : (t : ListedText) → IsText text t → r ≡ 0
      → TextTold t starts positions starts' positions' palette' numbers'

-- what is stored is what the listed text gives for cue n, which is c: its start, the palette, and each number at its
-- place in include/vobsub.h (FORMAT 1.9, 1.10)
pub record CueTold (t : ListedText) (n : ℕ) (c : Cue) (start : ℤ) (palette numbers : List ℕ) : Type 0 where
  pub start_is : start ≡ c.start
  pub palette_is : palette ≡ palette_of t
  pub numbers_are : numbers
      ≡ c.position ∷ cond (given (duration_of (cues_of t) n)) 1 0 ∷ or_zero (duration_of (cues_of t) n)
      ∷ cond (has_palette t) 1 0 ∷ []

pub record CueGiven (text : List ℕ) (cue : ℕ) (start : ℤ) (palette numbers : List ℕ) (r : ℕ) (start' : ℤ) (palette' numbers' : List ℕ) : Type 0 where
  pub refusal : r ≡ refusal_of (cue_answer (pick_of (idx_of text) cue))
  pub returned : Returned (pick_of (idx_of text) cue) r
  pub starts_at : start' ≡ or_before (λ a. a.start.0) (cue_answer (pick_of (idx_of text) cue)) start
  pub told : numbers' ≡ or_before cue_numbers (cue_answer (pick_of (idx_of text) cue)) numbers
  pub colours : palette' ≡ or_before (λ a. a.palette) (cue_answer (pick_of (idx_of text) cue)) palette
  pub as_found : (r ≡ 0 → ⊥) → (start' ≡ start) × (palette' ≡ palette) × (numbers' ≡ numbers)
  pub exactly_when : (r ≡ 0) ↔ ((t : ListedText) × IsText text t × (cue < length (cues_of t)))
  pub cue_told : (t : ListedText) → IsText text t → (c : Cue) → cue_at (cues_of t) cue ≡ some c → r ≡ 0
      → CueTold t cue c start' palette' numbers'

-- the times and the numbers are the reading's, each at its place in include/vobsub.h (FORMAT 6.5)
pub record ReadingTold (x : Reading) (times : List ℤ) (numbers : List ℕ) : Type 0 where
  pub times_are : times ≡ (shown x).start ∷ time_or0 (shown x).show ∷ time_or0 (shown x).hide ∷ []
  pub numbers_are : numbers
      ≡ cond (given (shown x).duration) 1 0 ∷ or_zero (shown x).duration ∷ (shown x).start_delay ∷ (shown x).stop_delay
      ∷ (shown x).x1 ∷ (shown x).y1 ∷ (shown x).width ∷ (shown x).height ∷ (shown x).codes ∷ (shown x).clipped
      ∷ cond (shown x).started 1 0 ∷ cond (shown x).stopped 1 0 ∷ cond (given (shown x).hide) 1 0 ∷ []

-- the answer with its numbers, what the three buffers hold, and the call's claim on whole files, for what is told too
pub record CueDecoded (text file : List ℕ) (q : Wanted) (b : Lent) (times : List ℤ) (numbers : List ℕ) (r : ℕ) (b' : Lent) (times' : List ℤ) (numbers' : List ℕ) : Type 0 where
  pub refusal : r ≡ refusal_of (canvas_answer (reading_in text file q b))
  pub returned : Returned (reading_in text file q b) r
  pub timed : times' ≡ or_before shown_times (canvas_answer (reading_in text file q b)) times
  pub told : numbers' ≡ or_before shown_numbers (canvas_answer (reading_in text file q b)) numbers
  pub in_scratch : b'.scratch ≡ sets b.scratch 0 (scratch_of (found_for text file q (length b.scratch)))
  pub in_pixels : b'.pixels ≡ sets b.pixels 0 (pixels_of (reading_in text file q b))
  pub in_canvas : b'.canvas ≡ sets b.canvas 0 (painted_of (reading_in text file q b))
  pub exactly : Exactly text file q b (canvas_answer (reading_in text file q b)) b'
  pub reading_told : (x : Reading) → IsReading text file q x → Room x b → ReadingTold x times' numbers'

-- two files give a cue the same readings, and two calls return and leave the same
pub record SameDecoded (text file other : List ℕ) (q : Wanted) (r t : ℕ) (b c : Lent) (times times' : List ℤ) (numbers numbers' : List ℕ) : Type 0 where
  pub readings : (x : Reading) → IsReading text file q x ↔ IsReading text other q x
  pub refusal : r ≡ t
  pub timed : times ≡ times'
  pub told : numbers ≡ numbers'
  pub scratch : b.scratch ≡ c.scratch
  pub pixels : b.pixels ≡ c.pixels
  pub canvas : b.canvas ≡ c.canvas

-- a file that differs from this one in packets of other streams alone, among those walked from the cue's position,
-- gives the same (FORMAT 2.11)
abbrev pub CueUndisturbed : List ℕ → List ℕ → Wanted → Lent → List ℤ → List ℕ → ℕ → Lent → List ℤ → List ℕ → Type 0
CueUndisturbed text file q b times numbers r b' times' numbers' =
    (other : List ℕ) (index : ListedText) (c : Cue) (ps : List Packet)
    → IsText text index → cue_at (cues_of index) q.cue ≡ some c
    → Walk (wanted_id q) file c.position [] ps → Alike q.stream file other ps
    → (t : ℕ) (b'' : Lent) (times'' : List ℤ) (numbers'' : List ℕ) → CueDecoded text other q b times numbers t b'' times'' numbers''
    → SameDecoded text file other q r t b' b'' times' times'' numbers' numbers''
