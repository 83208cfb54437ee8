-- `look::chg_colcon_lookup` meets its contract: the bands left, after what was found, are all bands. Assumes nothing.
use native.Mathlib.Omega.{arith}
use mathlib.Core.Path.{refl, ◌∙◌}
use Rattle.bands_model.specs.Look.{look_words}
use Rattle.bands_model.proofs.Look.{front_less, front-look, bands-end}
use Rattle.look.proofs.chg_colcon_lookup.Goals as goal

pub loop-band-init : goal.loop-band-init
unfolding look_words
loop-band-init c = refl

pub loop-band-smaller : goal.loop-band-smaller
loop-band-smaller c = omega (arith, front_less c.in-Some.ensures.some)

pub loop-band-preserved : goal.loop-band-preserved
loop-band-preserved c = front-look c.in-Some.ensures.some _ _ _ _ c.look_band-look.ensures ∙ c.loop-band.invariant

pub returns : goal.returns
returns c = bands-end _ _ 0 _ c.loop-band.left.now (omega (arith, c.front_band.ensures.none c.in_default.is)) ∙ c.loop-band.invariant
