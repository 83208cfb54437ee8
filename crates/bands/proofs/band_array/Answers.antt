-- `bands::band_array` meets its contract: where there are no words, 0 is left everywhere. Assumes nothing.
use Rattle.control_model.specs.Fill.{unit_words}
use Rattle.control_model.proofs.Few.{no_words}
use Rattle.bands.proofs.band_array.Goals as goal

pub returns-else-count-gt0 : goal.returns-else-count-gt0
returns-else-count-gt0 c = no_words _ (unit_words c.args.unit.now) _ c.requires.1 c.if-count-gt0.false
