-- `packets::older_body` meets its contract: a byte before each test. Assumes nothing.
use native.Mathlib.Omega.{arith}
use mathlib.Core.Path.{ap, ◌∙◌}
use Rattle.grammar.specs.Packets.{buffer_size, stamp_size}
use Rattle.ps_model.proofs.Body.{older-none, older-cut, older_at, ap-plus}
use Rattle.ps_model.proofs.Read.{missing}
use Rattle.packets.proofs.older_body.Goals as goal

pub returns-in_err-first : goal.returns-in_err-first
returns-in_err-first c =
    let m = c.in_err-first.ensures in
    let g = rw m.ok_part at c.get.ensures.lookup in
    rw (missing c.get.result _ c.from_residual.result m.ok_part m.value c.from_residual.ensures) (older-none _ _ g.3)

pub returns-in_err-stamp : goal.returns-in_err-stamp
returns-in_err-stamp c =
    let b = rw c.in_ok-first.ensures.ok_part at c.get.ensures.lookup in
    let m = c.in_err-stamp.ensures in
    let g = rw m.ok_part at c.get-2.ensures.lookup in
    rw (missing c.get-2.result _ c.from_residual-in_err-stamp.result m.ok_part m.value c.from_residual-in_err-stamp.ensures) (older-cut _ _ b.3.0 _ (ap-plus _ (c.buffer_size.ensures.0 ∙ ap buffer_size (b.4 (omega arith) 0))) g.3)

pub returns : goal.returns
returns c =
    let b = rw c.in_ok-first.ensures.ok_part at c.get.ensures.lookup in
    let s = rw c.in_ok-stamp.ensures.ok_part at c.get-2.ensures.lookup in
    c.after.ensures
    ∙ older_at _ _ b.3.0 _ (ap-plus _ (c.buffer_size.ensures.0 ∙ ap buffer_size (b.4 (omega arith) 0))) s.3.0 _ (ap-plus _ (c.stamp_size.ensures.0 ∙ ap stamp_size (s.4 (omega arith) 0)))
