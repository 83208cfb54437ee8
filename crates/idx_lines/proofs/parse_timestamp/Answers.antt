-- `idx_lines::parse_timestamp` meets its contract: by the parts that were found. Assumes nothing.
use borrow.Author.Rules.{rules}
use mathlib.Core.List.{[]}
use Rattle.idx_lines_model.proofs.Stamps.{long_place, stamp-bad_time, stamp-rest}
use Rattle.idx_lines.proofs.parse_timestamp.Goals as goal

pub returns-in_err-start : goal.returns-in_err-start
returns-in_err-start c = λ i at.
    let h = stamp-bad_time c.args.s.now _ c.find_parts-found.ensures i at _ c.in_ok-time.ensures.ok_part _ c.in_ok-position.ensures.ok_part _ c.parse_time.ensures _ c.in_err-start.was in
    rw (← h) (search rules)

pub returns : goal.returns
returns c = λ i at.
    stamp-rest c.args.s.now _ c.find_parts-found.ensures i at _ c.in_ok-time.ensures.ok_part _ c.in_ok-position.ensures.ok_part _ c.parse_time.ensures _ c.in_ok-start.was _ c.with_position.ensures

pub with_position-requires : goal.with_position-requires
with_position-requires c =
    long_place c.args.s.now _ c.find_parts-found.ensures (record { place = 0; bytes = [] }) 0 _ c.in_ok-time.ensures.ok_part _ c.in_ok-position.ensures.ok_part
