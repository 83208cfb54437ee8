-- `idx_lines::parse_time` meets its contract: four fields in turn, and the sum. Assumes nothing.
use borrow.Author.Rules.{rules}
use Rattle.idx_lines_model.proofs.Clock.{clock_1, clock_2, clock_3, clock_4, clock-all, clock-last}
use Rattle.idx_lines.proofs.parse_time.Goals as goal

pub returns-in_err-h : goal.returns-in_err-h
returns-in_err-h c = λ p.
    let h = clock_1 c.args.t.now _ c.field_at.ensures c.in_err-h.ensures.ok_part p in
    rw (← h) (search rules)

pub returns-in_err-m : goal.returns-in_err-m
returns-in_err-m c = λ p.
    let h = clock_2 c.args.t.now _ c.field_at.ensures _ _ c.in_ok-h.ensures.ok_part _ c.field_at-2.ensures c.in_err-m.ensures.ok_part p in
    rw (← h) (search rules)

pub returns-in_err-s : goal.returns-in_err-s
returns-in_err-s c = λ p.
    let h = clock_3 c.args.t.now _ c.field_at.ensures _ _ c.in_ok-h.ensures.ok_part _ c.field_at-2.ensures _ _ c.in_ok-m.ensures.ok_part _ c.field_at-3.ensures c.in_err-s.ensures.ok_part p in
    rw (← h) (search rules)

pub returns-in_err-ms : goal.returns-in_err-ms
returns-in_err-ms c = λ p.
    let h = clock_4 c.args.t.now _ c.field_at.ensures _ _ c.in_ok-h.ensures.ok_part _ c.field_at-2.ensures _ _ c.in_ok-m.ensures.ok_part _ c.field_at-3.ensures _ _ c.in_ok-s.ensures.ok_part _ c.field_at-4.ensures c.in_err-ms.ensures.ok_part p in
    rw (← h) (search rules)

pub returns : goal.returns
returns c = λ p.
    clock-last _ _ _ c.ok_or-5.ensures.value
    (clock-all c.args.t.now _ c.field_at.ensures _ _ c.in_ok-h.ensures.ok_part _ c.field_at-2.ensures _ _ c.in_ok-m.ensures.ok_part _ c.field_at-3.ensures _ _ c.in_ok-s.ensures.ok_part _ c.field_at-4.ensures _ _ c.in_ok-ms.ensures.ok_part _ c.time_of.ensures p)
