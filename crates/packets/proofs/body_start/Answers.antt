-- `packets::body_start` meets its contract: by the form of the header. Assumes nothing.
use native.Mathlib.Omega.{arith}
use Prim.Native.Nat.{ℕ, ◌/◌}
use mathlib.Core.Path.{sym, ap, ◌∙◌}
use Rattle.ps_model.proofs.PacketGrammar.{leading_le}
use Rattle.ps_model.proofs.Body.{body-none, body-cut, body_at_lem, body_older}
use Rattle.ps_model.proofs.Read.{missing}
use Rattle.packets.proofs.body_start.Goals as goal

pub returns-in_err-first : goal.returns-in_err-first
returns-in_err-first c =
    let m = c.in_err-first.ensures in
    let g = rw m.ok_part at c.first.ensures.item in
    rw (missing c.first.result _ c.from_residual.result m.ok_part m.value c.from_residual.ensures) (body-none _ (omega (arith, g.3)))

pub returns-in_err-size : goal.returns-in_err-size
returns-in_err-size c =
    let b = rw c.in_ok-first.ensures.ok_part at c.first.ensures.item in
    let m = c.in_err-size.ensures in
    let g = rw m.ok_part at c.get.ensures.lookup in
    rw (missing c.get.result _ c.from_residual-in_err-size.result m.ok_part m.value c.from_residual-in_err-size.ensures) (body-cut _ b.3.0 (ap (λ (x : ℕ). x / 64) (sym (b.4 (omega arith) 0)) ∙ c.if-first-eq2.true) (omega (arith, g.3)))

pub returns-then-first-eq2 : goal.returns-then-first-eq2
returns-then-first-eq2 c =
    let b = rw c.in_ok-first.ensures.ok_part at c.first.ensures.item in
    let s = rw c.in_ok-size.ensures.ok_part at c.get.ensures.lookup in
    c.after.ensures ∙ rw (s.4 (omega arith) 0) (body_at_lem _ b.3.0 (ap (λ (x : ℕ). x / 64) (sym (b.4 (omega arith) 0)) ∙ c.if-first-eq2.true) (omega (arith, s.3.0)))

pub older_body-requires : goal.older_body-requires
older_body-requires c = omega (arith, c.stuffing.ensures, leading_le 16 c.args.pes.now 0)

pub returns : goal.returns
returns c =
    let b = rw c.in_ok-first.ensures.ok_part at c.first.ensures.item in
    c.older_body.ensures ∙ body_older _ b.3.0 (λ e. c.if-first-eq2.false (ap (λ (x : ℕ). x / 64) (b.4 (omega arith) 0) ∙ e)) _ c.stuffing.ensures
