-- `demo::build_demo_spu` meets its contract: what is asked first refuses first. Assumes nothing.
use mathlib.Core.Path.{sym, ◌∙◌}
use Rattle.demo_model.proofs.Claim.{claimed}
use Rattle.demo_model.proofs.Picture.{colours-all}
use Rattle.demo_model.proofs.Whole.{demo-width, demo-height, demo_count, demo-colours, demo_sound, demo-written}
use Rattle.demo.proofs.build_demo_spu.Goals as goal

pub returns-then-not-is_side : goal.returns-then-not-is_side
returns-then-not-is_side c =
    claimed (demo-width c.args.width c.args.height c.args.indices.now c.args.out.now (sym c.is_side.ensures ∙ c.if-not-is_side.true))

pub returns-then-not-is_side-2 : goal.returns-then-not-is_side-2
returns-then-not-is_side-2 c =
    claimed (demo-height c.args.width c.args.height c.args.indices.now c.args.out.now (sym c.is_side.ensures ∙ c.if-not-is_side.false) (sym c.is_side-2.ensures ∙ c.if-not-is_side-2.true))

pub returns-then-indices-width : goal.returns-then-indices-width
returns-then-indices-width c =
    claimed (demo_count c.args.width c.args.height c.args.indices.now c.args.out.now (sym c.is_side.ensures ∙ c.if-not-is_side.false) (sym c.is_side-2.ensures ∙ c.if-not-is_side-2.false) c.if-indices-width.true)

pub returns-then-not-all_colours : goal.returns-then-not-all_colours
returns-then-not-all_colours c =
    claimed (demo-colours c.args.width c.args.height c.args.indices.now c.args.out.now (sym c.is_side.ensures ∙ c.if-not-is_side.false) (sym c.is_side-2.ensures ∙ c.if-not-is_side-2.false) c.if-indices-width.false (sym (c.all_colours.ensures ∙ colours-all _) ∙ c.if-not-all_colours.true))

pub invariant_of-picture : goal.invariant_of-picture
invariant_of-picture c =
    record { sound = demo_sound c.args.width c.args.height c.args.indices.now c.args.out.now (sym c.is_side.ensures ∙ c.if-not-is_side.false) (sym c.is_side-2.ensures ∙ c.if-not-is_side-2.false) c.if-indices-width.false (sym (c.all_colours.ensures ∙ colours-all _) ∙ c.if-not-all_colours.false) }

pub returns : goal.returns
returns c =
    claimed (demo-written c.args.width c.args.height c.args.indices.now c.args.out.now (sym c.is_side.ensures ∙ c.if-not-is_side.false) (sym c.is_side-2.ensures ∙ c.if-not-is_side-2.false) c.if-indices-width.false (sym (c.all_colours.ensures ∙ colours-all _) ∙ c.if-not-all_colours.false) _ _ (c.write_unit.ensures.answer, c.write_unit.ensures.output))
