-- `demo::Writer::emit_rle` meets its contract: a code of 255 and the rest, or one code. Assumes nothing.
use mathlib.Core.Path.{sym, ap, ◌∙◌}
use mathlib.Core.List.{List, ◌++◌, append_assoc}
use Prim.Native.Nat.{ℕ, ◌+◌, ◌-◌}
use Rattle.demo_model.specs.Codes.{digits, nibbles_of, run_marks}
use Rattle.demo_model.proofs.Ink.{inked_as, cut_short, cut-long}
use Rattle.demo.proofs.Writer.+emit_rle.Goals as goal

pub returns-then-run-le255-clause-inked : goal.returns-then-run-le255-clause-inked
returns-then-run-le255-clause-inked t c ns o h =
    let e = cut_short c.args.run c.args.colour c.if-run-le255.true in
    inked_as _ _ _ _ _ (rw (c.size_of_run.ensures, c.from.ensures) (ap (λ (l : List ℕ). ns ++ l) (sym e))) (c.emit_code.ensures.inked ns o h)

pub returns-clause-inked : goal.returns-clause-inked
returns-clause-inked t c ns o h =
    let e = cut-long c.args.run c.args.colour c.if-run-le255.false in
    let x = append_assoc ns (digits 4 (1020 + c.args.colour)) (nibbles_of (run_marks (c.args.run - 255) c.args.colour)) in
    inked_as _ _ _ _ _ (rw (c.from-2.ensures) (x ∙ ap (λ (l : List ℕ). ns ++ l) (sym e))) (c.emit_rle.ensures.inked _ o (c.emit_code-2.ensures.inked ns o h))
