-- `demo::Writer::emit_field` meets its contract: each turn is one row more. Assumes nothing.
use native.Mathlib.Omega.{arith}
use mathlib.Core.Path.{◌≡◌, ap, ◌∙◌}
use mathlib.Core.List.{List, ◌++◌}
use Prim.Native.Nat.{ℕ, ◌+◌}
use Rattle.demo_model.specs.Codes.{last_marks, nibbles_of, evened, row_marks}
use Rattle.demo_model.proofs.Ink.{inked_as}
use Rattle.demo_model.proofs.Picture.{Fielding, row_fits, fielding_ends, fielding_goes, row-part, row-part-length, row-part-four}
use Rattle.demo.proofs.Writer.emit_field.Goals.{After-align}
use Rattle.demo.proofs.Writer.emit_field.Goals as goal

pub emit_row-requires : goal.emit_row-requires
emit_row-requires c =
    let p = c.args.picture in
    let f = row_fits p.width p.height c.loop-row.row c.loop-row-test.true in
    let y = row-part-length p.width p.indices.now c.loop-row.row (omega (arith, f, p.sound.all)) in
    (row-part-four p.width p.indices.now c.loop-row.row p.sound.colours, omega (arith, y, c.loop-row-test.true, c.loop-row.invariant.1.bound, c.requires.1, p.sound.w_most, p.sound.h_most))

-- a turn is one row more
turned : (c : After-align)
    → (c.align.new.self.out.ghost_name ≡ c.args.self.now.out.ghost_name)
    × Fielding c.args.picture.indices.now c.args.picture.width c.args.picture.height c.args.start c.args.self.now.pen c.args.self.now.out.now c.align.new.self.pen c.align.new.self.out.now (c.loop-row.row + 2)
turned c =
    let p = c.args.picture in
    let f = row_fits p.width p.height c.loop-row.row c.loop-row-test.true in
    let y = row-part-length p.width p.indices.now c.loop-row.row (omega (arith, f, p.sound.all)) in
    let r = row-part p.width p.indices.now c.loop-row.row in (
      c.align.ensures.same_output ∙ c.emit_row.ensures.same_output ∙ c.loop-row.invariant.0,
      fielding_goes p.indices.now p.width p.height _ _ _ _ _ c.loop-row.row c.loop-row.invariant.1 c.loop-row-test.true _ _
          (omega (arith, y, p.sound.w_most, c.align.ensures.most, c.emit_row.ensures.most))
          (λ ns o i. inked_as _ _ _ _ _ (ap (λ (l : List ℕ). evened (ns ++ nibbles_of (row_marks last_marks l))) r) (c.align.ensures.inked _ o (c.emit_row.ensures.inked ns o i))),
    )

pub loop-row-preserved : goal.loop-row-preserved
loop-row-preserved c = turned (goal.at.loop-row-preserved c).After-align

pub returns-clause-inked : goal.returns-clause-inked
returns-clause-inked c = fielding_ends _ _ _ _ _ _ _ _ _ c.loop-row.invariant.1 c.loop-row-test.false

-- no row is left
pub returns-2-clause-inked : goal.returns-2-clause-inked
returns-2-clause-inked c =
    let j = turned (goal.at.returns-2-clause-inked c).After-align in
    fielding_ends _ _ _ _ _ _ _ _ _ j.1 (omega (arith, j.1.upto))
