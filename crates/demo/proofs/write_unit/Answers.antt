-- `demo::write_unit` meets its contract: measured, and put where it fits. Assumes nothing.
use native.Mathlib.Omega.{arith}
use mathlib.Core.Path.{ap, ◌∙◌}
use mathlib.Core.List.{List}
use Prim.Native.Nat.{ℕ}
use lib.Seq.{sets}
use Rattle.demo_model.specs.Codes.{last_marks}
use Rattle.demo_model.specs.Unit.{unit_of}
use Rattle.demo_model.proofs.Whole.{unit-long, unit-short, unit-fits, measured-none}
use Rattle.demo.proofs.write_unit.Goals as goal

pub returns-then-length-gt65535 : goal.returns-then-length-gt65535
returns-then-length-gt65535 c =
    let p = c.args.picture in
    let e = c.write_fields-ends in
    let g = unit-long p.width p.height p.indices.now e.result e.ensures.ends c.args.out.now c.if-length-gt65535.true in
    record { answer = g.0; output = measured-none p.width p.height p.indices.now c.args.out.now _ _ e.ensures ∙ g.1 }

pub returns-then-out-length : goal.returns-then-out-length
returns-then-out-length c =
    let p = c.args.picture in
    let e = c.write_fields-ends in
    let g = unit-short p.width p.height p.indices.now e.result e.ensures.ends c.args.out.now c.if-length-gt65535.false (omega (arith, c.if-out-length.true)) in
    record { answer = g.0; output = measured-none p.width p.height p.indices.now c.args.out.now _ _ e.ensures ∙ g.1 }

pub returns : goal.returns
returns c =
    let p = c.args.picture in
    let e = c.write_fields-ends in
    let n = measured-none p.width p.height p.indices.now c.args.out.now _ _ e.ensures in
    let q = c.put_unit.ensures ∙ ap (λ (l : List ℕ). sets l 0 (unit_of last_marks p.width p.height p.indices.now)) n in
    let g = unit-fits p.width p.height p.indices.now e.result e.ensures.ends c.args.out.now c.if-length-gt65535.false (omega (arith, c.if-out-length.false)) _ q in
    record { answer = g.0; output = g.1 }
