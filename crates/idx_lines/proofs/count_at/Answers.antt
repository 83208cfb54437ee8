-- `idx_lines::count_at` meets its contract: by what was read, and what follows it. Assumes nothing.
use native.Mathlib.Omega.{arith}
use Prim.Native.Nat.{◌+◌, ◌*◌}
use Rattle.idx_lines_model.proofs.Fields.{count_over, count_none, run_inside, count_end, count-colon, count_other}
use Rattle.idx_lines.proofs.count_at.Goals as goal
use Rattle.idx_lines.proofs.count_at.Goals.{else-end-s-via-then-end-s+else-s-end-ne58, else-end-s-via-else-end-s}

pub returns-in_err-found : goal.returns-in_err-found
returns-in_err-found c =
    rw (c.from_residual.ensures)
    (count_over c.args.s.now c.args.i (922337203685477580 * 10 + c.args.last) c.requires.0 _ c.digits.ensures c.in_err-found.was)

pub returns-then-found-eq0 : goal.returns-then-found-eq0
returns-then-found-eq0 c =
    count_none c.args.s.now c.args.i (922337203685477580 * 10 + c.args.last) c.requires.0 _ c.digits.ensures _ _ c.in_ok-found.was c.if-found-eq0.true

pub returns-then-s-end-ne58 : goal.returns-then-s-end-ne58
returns-then-s-end-ne58 c =
    count_other c.args.s.now c.args.i (922337203685477580 * 10 + c.args.last) c.requires.0 _ c.digits.ensures _ _ c.in_ok-found.was c.if-end-s.true c.if-s-end-ne58.true

pub returns : goal.returns
returns c =
    elim c.else-end-s.branch [
      | else-end-s-via-then-end-s+else-s-end-ne58 w ↦ count-colon c.args.s.now c.args.i (922337203685477580 * 10 + c.args.last) c.requires.0 _ c.digits.ensures _ _ c.in_ok-found.was c.if-found-eq0.false w.if-s-end-ne58.false
      | else-end-s-via-else-end-s w ↦ count_end c.args.s.now c.args.i (922337203685477580 * 10 + c.args.last) c.requires.0 _ c.digits.ensures _ _ c.in_ok-found.was c.if-found-eq0.false w.if-end-s.false
    ]

pub overflow_add-end : goal.overflow_add-end
overflow_add-end c =
    omega (arith, run_inside c.args.s.now c.args.i (922337203685477580 * 10 + c.args.last) c.requires.0 _ c.digits.ensures _ _ c.in_ok-found.was)
