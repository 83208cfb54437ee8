-- `control::read_command` meets its contract: by what its byte stands for. Assumes nothing.
use native.Mathlib.Omega.{arith}
use Prim.Native.Nat.{◌+◌, ◌<◌}
use mathlib.Core.Path.{◌∙◌, ap, sym}
use Rattle.std.proofs.lemmas.Result.{err_from_is_err_and}
use Rattle.grammar.specs.Bytes.{byte}
use Rattle.control.specs.CommandBytes.{byte_of}
use Rattle.control_model.specs.Answers.{order_answer}
use Rattle.control.proofs.CommandBytes.{plain-byte}
use Rattle.control_model.proofs.Told.{told-as}
use Rattle.control_model.proofs.Loops.{order_change, order_unknown, order-cut, order-told}
use Rattle.control.proofs.read_command.Goals.{In_default}
use Rattle.control.proofs.read_command.Goals as goal

-- a byte below 7
low : (c : In_default) → byte c.args.blocks.unit.now c.args.at < 7
low c = let l = plain-byte c.in_ok-kind.kind c.in_default.not-Colours in let k = c.in_ok-kind.ensures.0 in omega arith

pub returns-in_err-kind : goal.returns-in_err-kind
returns-in_err-kind c =
    let p = err_from_is_err_and c.from_residual.result c.from_residual.ensures.1 in
    let h = c.in_err-kind.ensures.1 in
    λ t e. rw (p.1, p.2, h.0) (order_unknown _ _ _ _ _ t h.1)

pub returns-in-Colours : goal.returns-in-Colours
returns-in-Colours c =
    λ t e. c.read_change.ensures t c.args.delay e ∙ ap (order_answer c.args.delay _ t) (order_change _ _ _ _ c.args.delay t (sym c.in_ok-kind.ensures.0 ∙ ap byte_of c.in-Colours.is))

pub returns-then-blocks-p : goal.returns-then-blocks-p
returns-then-blocks-p c = let l = low (goal.at.returns-then-blocks-p c).In_default in λ t e. order-cut _ _ _ _ _ t l _ (c.taken-size.ensures _ _) (omega arith)

pub returns-else-blocks-p : goal.returns-else-blocks-p
returns-else-blocks-p c =
    let l = low (goal.at.returns-else-blocks-p c).In_default in
    λ t e. order-told _ _ _ _ _ t l _ _ (c.taken-size.ensures _ _) (omega arith) (told-as c.args.blocks.unit.now (c.args.at + 1) _ _ c.args.delay t _ (sym c.in_ok-kind.ensures.0) (c.with_order.ensures t e))
