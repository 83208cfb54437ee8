-- `idx_lines::parse_palette` meets its contract: each turn is one token more. Assumes nothing.
use borrow.Author.Rules.{rules}
use native.Mathlib.Omega.{arith}
use Rattle.idx_lines_model.proofs.Palettes.{gap_in, token_in, colouring_ends, colouring_wrong, colouring_more, colouring_full}
use Rattle.idx_lines.proofs.parse_palette.Goals as goal

pub returns-then-g-s : goal.returns-then-g-s
returns-then-g-s c =
    colouring_ends c.args.s.now c.args.palette.now c.loop-k.colours c.loop-k.k c.loop-k.i c.loop-k.invariant.1 c.loop-k-test.true c.leading.result c.leading.ensures c.if-g-s.true

pub returns-in_err-colour : goal.returns-in_err-colour
returns-in_err-colour c =
    let w = colouring_wrong c.args.s.now c.args.palette.now c.loop-k.colours c.loop-k.k c.loop-k.i c.loop-k.invariant.1 c.loop-k-test.true c.leading.result c.leading.ensures c.if-g-s.false c.leading-in-loop-k.result c.leading-in-loop-k.ensures _ c.parse_hex.ensures c.in_err-colour.ensures.ok_part _ c.loop-k.invariant.0 in
    record { says = λ i at. rw (← w.says i at) (search rules); palette = w.palette }

pub loop-k-preserved : goal.loop-k-preserved
loop-k-preserved c =
    (c.loop-k.invariant.0, colouring_more c.args.s.now c.args.palette.now c.loop-k.colours c.loop-k.k c.loop-k.i c.loop-k.invariant.1 c.loop-k-test.true c.leading.result c.leading.ensures c.if-g-s.false c.leading-in-loop-k.result c.leading-in-loop-k.ensures _ c.parse_hex.ensures _ c.in_ok-colour.ensures.ok_part _ c.store.ensures)

pub returns : goal.returns
returns c =
    colouring_full c.args.s.now c.args.palette.now c.loop-k.colours c.loop-k.k c.loop-k.i c.loop-k.invariant.1 c.loop-k-test.false

pub overflow_add-g : goal.overflow_add-g
overflow_add-g c =
    omega (arith, gap_in c.args.s.now c.args.palette.now c.loop-k.colours c.loop-k.k c.loop-k.i c.loop-k.invariant.1 c.loop-k-test.true c.leading.result c.leading.ensures)

pub overflow_add-e : goal.overflow_add-e
overflow_add-e c =
    omega (arith, token_in c.args.s.now c.args.palette.now c.loop-k.colours c.loop-k.k c.loop-k.i c.loop-k.invariant.1 c.loop-k-test.true c.leading.result c.leading.ensures c.if-g-s.false c.leading-in-loop-k.result c.leading-in-loop-k.ensures)

pub slice_bounds-parse_hex-end : goal.slice_bounds-parse_hex-end
slice_bounds-parse_hex-end c =
    token_in c.args.s.now c.args.palette.now c.loop-k.colours c.loop-k.k c.loop-k.i c.loop-k.invariant.1 c.loop-k-test.true c.leading.result c.leading.ensures c.if-g-s.false c.leading-in-loop-k.result c.leading-in-loop-k.ensures
