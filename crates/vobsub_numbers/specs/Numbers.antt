-- Numbers of records and answers put into the order of include/vobsub.h. Assumes nothing: these are definitions.
use Rattle.std.specs.Prelude.{ℕ, List, [], ◌∷◌, cond, ℤ, pos, Option, Some as some, None as none}
use Rattle.clock_model.specs.Answers.{micros_count}
use Rattle.clock_model.specs.declared.Micros.{Micros}
use Rattle.control_model.specs.declared.Spu.{Spu}
use Rattle.idx_model.specs.declared.IdxAnswer.{IdxAnswer}
use Rattle.idx_model.specs.declared.CueAnswer.{CueAnswer}
use Rattle.vobsub_model.specs.declared.Shown.{Shown}

-- 1 for a time that is there
abbrev pub there : Option Micros → ℕ
there none = 0
there (some m) = 1

-- its microseconds, 0 where there is none
abbrev pub count_in : Option Micros → ℕ
count_in none = 0
count_in (some m) = micros_count m.0

abbrev pub time_in : Option Micros → ℤ
time_in none = pos 0
time_in (some m) = m.0

-- the numbers of a record in the order of include/vobsub.h
abbrev pub spu_numbers : Spu → List ℕ
spu_numbers s =
    s.x1 ∷ s.y1 ∷ s.x2 ∷ s.y2 ∷ s.palette_sel ∷ s.alpha ∷ cond s.started 1 0 ∷ s.start_delay_raw.0 ∷ cond s.stopped 1 0 ∷ s.stop_delay_raw.0 ∷ cond s.forced_display 1 0 ∷ s.top_rle_off ∷ s.bot_rle_off ∷ cond s.saw_chg_colcon 1 0 ∷ s.band_words ∷ s.codes ∷ s.clipped ∷ []

-- size, whether there is a palette and the number of cues in the order of include/vobsub.h
abbrev pub idx_numbers : IdxAnswer → List ℕ
idx_numbers a = a.width ∷ a.height ∷ cond a.has_palette 1 0 ∷ a.cues ∷ []

-- position, whether there is a duration, the duration, and whether there is a palette in the order of include/vobsub.h
abbrev pub cue_numbers : CueAnswer → List ℕ
cue_numbers a =
    a.position ∷ there a.duration ∷ count_in a.duration ∷ cond a.has_palette 1 0 ∷ []

-- whether there is a duration, the duration, the delays, the place, the size, the number of codes and that of clipped
-- ones, and whether a start and a stop command stand and there is a hide time, in the order of include/vobsub.h
abbrev pub shown_numbers : Shown → List ℕ
shown_numbers s =
    there s.duration ∷ count_in s.duration ∷ s.start_delay.0 ∷ s.stop_delay.0
    ∷ s.x1 ∷ s.y1 ∷ s.width ∷ s.height ∷ s.codes ∷ s.clipped
    ∷ cond s.started 1 0 ∷ cond s.stopped 1 0 ∷ there s.hide ∷ []

-- start, show time and hide time in the order of include/vobsub.h
abbrev pub shown_times : Shown → List ℤ
shown_times s = s.start.0 ∷ time_in s.show ∷ time_in s.hide ∷ []
