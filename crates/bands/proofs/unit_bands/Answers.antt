-- `bands::unit_bands` meets its contract: by the number of words, and then by that of the bands that they hold.
-- Assumes nothing.
use Rattle.control_model.proofs.Few.{few_over, few_many, few-kept}
use Rattle.bands.proofs.unit_bands.Goals as goal

pub returns-then-count-gt-MOST_WORDS : goal.returns-then-count-gt-MOST_WORDS
returns-then-count-gt-MOST_WORDS c =
    few_over _ c.type_inv.unit c.requires.0 _ c.requires.1 c.if-count-gt-MOST_WORDS.true

pub returns-then-count_bands-gt-MOST_BANDS : goal.returns-then-count_bands-gt-MOST_BANDS
returns-then-count_bands-gt-MOST_BANDS c =
    few_many _ c.type_inv.unit c.requires.0 _ c.requires.1 _ _ c.if-count-gt-MOST_WORDS.false c.band_array-words.ensures c.count_bands.ensures
    c.if-count_bands-gt-MOST_BANDS.true

pub returns : goal.returns
returns c =
    few-kept _ c.type_inv.unit c.requires.0 _ c.requires.1 _ _ c.if-count-gt-MOST_WORDS.false c.band_array-words.ensures c.count_bands.ensures c.if-count_bands-gt-MOST_BANDS.false
