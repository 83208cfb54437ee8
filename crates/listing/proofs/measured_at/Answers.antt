-- `listing::measured_at` meets its contract: the record of the unit that is found. Assumes nothing.
use borrow.Author.Rules.{rules}
use mathlib.Core.Path.{◌≡◌, ap}
use lib.ListN.{length}
use Rattle.std.proofs.lemmas.Result.{err_from_is_err_and}
use Rattle.outcome.specs.Outcome.{answered}
use Rattle.ps_model.proofs.Unit.{named}
use Rattle.listing_model.proofs.Units.{found-record, none-record, scratch-kept}
use Rattle.listing.proofs.measured_at.Goals as goal

pub returns-in_err-unit : goal.returns-in_err-unit
returns-in_err-unit c =
    let p = err_from_is_err_and c.from_residual.result c.from_residual.ensures.1 in
    let l : length c.args.scratch.now ≡ 65536 = search rules in (
      rw (p.1, p.2)
          (none-record c.args.start.0 c.args.file.now c.shared_slice_known-1.given c.args.position _ _ _ _ l c.extract_spu.ensures.0 (ap answered c.in_err-unit.was)),
      scratch-kept c.args.file.now c.shared_slice_known-1.given c.args.position _ _ _ l c.extract_spu.ensures.0,
    )

pub returns : goal.returns
returns c =
    let l : length c.args.scratch.now ≡ 65536 = search rules in (
      found-record c.args.start.0 _ c.args.file.now c.shared_slice_known-1.given c.args.position _ _ _ l
          (named (ap answered c.in_ok-unit.was) c.extract_spu.ensures.0) (rw (← c.unit_part-bytes.ensures 0) c.measured_in_time.ensures),
      scratch-kept c.args.file.now c.shared_slice_known-1.given c.args.position _ _ _ l c.extract_spu.ensures.0,
    )
