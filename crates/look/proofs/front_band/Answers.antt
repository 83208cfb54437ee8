-- `look::front_band` meets its contract: three words in front, and the entries that are there. Assumes nothing.
use mathlib.Core.Path.{refl}
use Rattle.bands_model.proofs.Look.{front_is}
use Rattle.look.proofs.front_band.Goals as goal

pub returns-clause-some : goal.returns-clause-some
returns-clause-some c = front_is c.args.words.now _ _ _ c.in-len3-up.len_at_least refl c.lesser-n.ensures refl
