-- `look::spans_line` meets its contract: a band left spans the line where one of all bands does. Assumes nothing.
use native.Mathlib.Omega.{arith}
use mathlib.Core.Path.{refl, sym, ◌∙◌}
use Rattle.bands_model.specs.Look.{spans_line}
use Rattle.bands_model.proofs.Look.{front_less, front-spans, front-other, line_end}
use Rattle.look.proofs.spans_line.Goals as goal

pub loop-band-init : goal.loop-band-init
unfolding spans_line
loop-band-init c = refl

pub returns-then-is_between : goal.returns-then-is_between
returns-then-is_between c = front-spans c.in-Some.ensures.some c.args.y (sym c.is_between.ensures ∙ c.if-is_between.true) ∙ c.loop-band.invariant

pub loop-band-smaller : goal.loop-band-smaller
loop-band-smaller c = omega (arith, front_less c.in-Some.ensures.some)

pub loop-band-preserved : goal.loop-band-preserved
loop-band-preserved c = front-other c.in-Some.ensures.some c.args.y (sym c.is_between.ensures ∙ c.if-is_between.false) ∙ c.loop-band.invariant

pub returns : goal.returns
returns c = line_end c.args.y 0 c.loop-band.rest.now (omega (arith, c.front_band.ensures.none c.in_default.is)) ∙ c.loop-band.invariant
