-- The places of include/vobsub.h: a cue of which every number and every time differs from its neighbours. Assumes
-- nothing.
use mathlib.Core.Path.{◌≡◌, refl}
use mathlib.Core.Bool.{true, false}
use mathlib.Core.List.{[], ◌∷◌}
use lib.IntN.{pos, negsuc}
use Rattle.std.specs.Prelude.{Some as some}
use Rattle.clock_model.specs.Answers.{ticks, micros}
use Rattle.vobsub_model.specs.declared.Shown.{Shown}
use Rattle.vobsub_numbers.specs.Numbers.{shown_numbers, shown_times}

abbrev one : Shown
one =
    record {
      start = micros (negsuc 6);
      duration = some (micros (pos 2));
      started = true;
      stopped = false;
      start_delay = ticks 3;
      stop_delay = ticks 4;
      show = some (micros (pos 8));
      hide = some (micros (pos 9));
      x1 = 5;
      y1 = 6;
      width = 7;
      height = 10;
      codes = 12;
      clipped = 11;
    }

pub times-placed : shown_times one ≡ negsuc 6 ∷ pos 8 ∷ pos 9 ∷ []
times-placed = refl

pub numbers-placed : shown_numbers one ≡ 1 ∷ 2 ∷ 3 ∷ 4 ∷ 5 ∷ 6 ∷ 7 ∷ 10 ∷ 12 ∷ 11 ∷ 1 ∷ 0 ∷ 1 ∷ []
numbers-placed = refl
