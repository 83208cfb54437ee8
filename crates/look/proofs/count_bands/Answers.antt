-- `look::count_bands` meets its contract: those counted and those in what is left are all. Assumes nothing.
use native.Mathlib.Omega.{arith}
use mathlib.Core.Path.{◌∙◌}
use Rattle.bands_model.proofs.Look.{front_less}
use Rattle.bands_model.proofs.Count.{front-counted, count_end}
use Rattle.look.proofs.count_bands.Goals as goal

pub loop-band-smaller : goal.loop-band-smaller
loop-band-smaller c = omega (arith, front_less c.in-Some.ensures.some)

pub loop-band-preserved : goal.loop-band-preserved
loop-band-preserved c = (omega (arith, c.loop-band.invariant.0, front_less c.in-Some.ensures.some), front-counted c.in-Some.ensures.some c.loop-band.bands ∙ c.loop-band.invariant.1)

pub returns : goal.returns
returns c = count_end 0 c.loop-band.bands c.loop-band.rest.now (omega (arith, c.front_band.ensures.none c.in_default.is)) ∙ c.loop-band.invariant.1
