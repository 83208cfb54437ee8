-- `listing::measured_in_time` meets its contract: the record of the unit, or a refusal of it or of its times. Assumes nothing.
use mathlib.Core.Path.{ap}
use Rattle.std.proofs.lemmas.Result.{err_from_is_err_and}
use Rattle.outcome.specs.Outcome.{answered}
use Rattle.listing_model.proofs.Units.{unit-late, unit-in-time}
use Rattle.listing.proofs.measured_in_time.Goals as goal

pub returns-in_err-times_of : goal.returns-in_err-times_of
returns-in_err-times_of c =
    let p = err_from_is_err_and c.from_residual-in_err-times_of.result c.from_residual-in_err-times_of.ensures.1 in
    rw (p.1, p.2)
    (unit-late c.args.start.0 c.args.unit.now _ c.measure_spu.ensures.0 _ (ap answered c.in_ok-spu.was)
    _ _ c.then_some-starts.ensures c.then_some-stops.ensures _ c.times_of.ensures _ (ap answered c.in_err-times_of.was))

pub returns : goal.returns
returns c =
    unit-in-time c.args.start.0 c.args.unit.now _ c.measure_spu.ensures.0 _ (ap answered c.in_ok-spu.was)
    _ _ c.then_some-starts.ensures c.then_some-stops.ensures _ c.times_of.ensures _ (ap answered c.in_ok-times_of.was)
