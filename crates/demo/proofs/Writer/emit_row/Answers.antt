-- `demo::Writer::emit_row` meets its contract: each turn is one run more. Assumes nothing.
use native.Mathlib.Omega.{arith}
use mathlib.Core.Path.{ap, ◌∙◌}
use mathlib.Core.List.{List}
use Prim.Native.Nat.{ℕ}
use Rattle.grammar.specs.Bytes.{byte}
use Rattle.demo_model.specs.Codes.{lead}
use Rattle.demo_model.proofs.Ink.{rowing-none, rowing_ends, rowing_goes, rest-is, rest-length, four-byte}
use Rattle.demo.proofs.Writer.emit_row.Goals as goal

pub returns-then-n-row-clause-inked : goal.returns-then-n-row-clause-inked
returns-then-n-row-clause-inked c =
    let e = c.run_length-n.ensures.0 ∙ ap (λ (s : List ℕ). lead (byte s 0) s) (rest-is c.args.row.now c.loop-col.col) in
    rowing_ends c.args.row.now _ _ _ _ c.loop-col.col c.loop-col.invariant.1 c.loop-col-test.true _ e c.if-n-row.true _ _ (rw (← c.from.ensures) c.emit_code.ensures.inked)

pub emit_rle-requires : goal.emit_rle-requires
emit_rle-requires c =
    let l = rest-length c.args.row.now c.loop-col.col c.loop-col.invariant.1.upto in
    (c.run_length-n.ensures.1, four-byte c.args.row.now c.loop-col.col c.requires.0, omega (arith, c.requires.1, c.loop-col.invariant.1.bound, c.loop-col-test.true, c.run_length-n.ensures.2))

pub loop-col-preserved : goal.loop-col-preserved
loop-col-preserved c =
    let l = rest-length c.args.row.now c.loop-col.col c.loop-col.invariant.1.upto in
    let e = c.run_length-n.ensures.0 ∙ ap (λ (s : List ℕ). lead (byte s 0) s) (rest-is c.args.row.now c.loop-col.col) in
    (c.emit_rle.ensures.same_output ∙ c.loop-col.invariant.0, rowing_goes c.args.row.now _ _ _ _ c.loop-col.col c.loop-col.invariant.1 c.loop-col-test.true _ e (omega (arith, c.run_length-n.ensures.2, c.if-n-row.false)) _ _ c.emit_rle.ensures.most c.emit_rle.ensures.inked)

pub returns-clause-inked : goal.returns-clause-inked
returns-clause-inked c = rowing-none _ _ _ _ _ _ c.loop-col.invariant.1 c.loop-col-test.false
