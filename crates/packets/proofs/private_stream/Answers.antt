-- `packets::private_stream` meets its contract: by what the body of its own bytes is. Assumes nothing.
use native.Mathlib.Omega.{arith}
use Prim.Native.Nat.{◌+◌, ◌-◌}
use lib.ListN.{length, take, drop, length-drop}
use lib.Seq.{length-take-le}
use mathlib.Core.Path.{◌≡◌, sym, ap, ◌∙◌}
use Rattle.std.specs.Option.{option_copied}
use Rattle.outcome.specs.Outcome.{answered}
use Rattle.outcome.proofs.Refusals.{handed_on}
use Rattle.outcome.proofs.Laws.{part_slice}
use Rattle.grammar.specs.Packets.{length_end, is_id}
use borrow.Author.Tests.{eq-eqb, ne_eqb}
use Rattle.ps_model.proofs.Read.{reached, not_reached, missing, private-cut, private-none, private_empty, private_other, private_keeps}
use Rattle.packets.proofs.private_stream.Goals.{In_ok-end}
use Rattle.packets.proofs.private_stream.Goals as goal

-- ---- A packet past the file
pub returns-in_err-end : goal.returns-in_err-end
returns-in_err-end c =
    let n = not_reached _ _ _ (sym c.after.ensures ∙ ap answered c.in_err-end.was) in
    let q = c.requires.1 in
    rw (handed_on c.from_residual.result _ c.from_residual.ensures, n.1) (private-cut (is_id c.args.id) c.args.file.now c.args.at (omega (arith, n.0)))

-- ---- By its body
-- the packet ends in the file
whole : (c : In_ok-end) → (c.in_ok-end.end ≡ c.args.at + 6 + c.args.size) × (c.in_ok-end.end ≡ length_end c.args.file.now c.args.at)
whole c =
    let r = reached _ _ _ (sym c.after.ensures ∙ ap answered c.in_ok-end.was) in
    let q = c.requires.1 in
    (r.1, omega (arith, r.1))

pub returns-in_err-body : goal.returns-in_err-body
returns-in_err-body c =
    let r = reached _ _ _ (sym c.after.ensures ∙ ap answered c.in_ok-end.was) in
    let w = whole (goal.at.returns-in_err-body c).In_ok-end in
    let m = c.in_err-body.ensures in
    rw (missing c.parse_pes_body.result _ c.from_residual-in_err-body.result m.ok_part m.value c.from_residual-in_err-body.ensures)
    (private-none (is_id c.args.id) c.args.file.now c.args.at c.in_ok-end.end w.1 (omega (arith, r.0, r.1)) _ (part_slice (c.args.at + 6) c.in_ok-end.end c.args.file.now) _ c.parse_pes_body.ensures (ap option_copied m.ok_part))

pub returns-in-len1-up : goal.returns-in-len1-up
returns-in-len1-up c =
    let r = reached _ _ _ (sym c.after.ensures ∙ ap answered c.in_ok-end.was) in
    let w = whole (goal.at.returns-in-len1-up c).In_ok-end in
    let b = c.in_ok-body.body.now in
    let k : length (take (length b - 1) (drop 1 b)) ≡ length b - 1 = length-take-le (length b - 1) (drop 1 b) (rw (length-drop 1 b) (omega arith)) in
    rw k (private_keeps (is_id c.args.id) c.args.file.now c.args.at c.in_ok-end.end w.1 (omega (arith, r.0, r.1)) _ (part_slice (c.args.at + 6) c.in_ok-end.end c.args.file.now) _ c.parse_pes_body.ensures _ (ap option_copied c.in_ok-body.ensures.ok_part)
    (omega (arith, c.in-len1-up.len_at_least)) (eq-eqb _ _ (omega (arith, c.if-first-id.true))))

pub returns-in_default : goal.returns-in_default
returns-in_default c =
    let r = reached _ _ _ (sym c.after.ensures ∙ ap answered c.in_ok-end.was) in
    let w = whole (goal.at.returns-in_default c).In_ok-end in
    private_empty (is_id c.args.id) c.args.file.now c.args.at c.in_ok-end.end w.1 (omega (arith, r.0, r.1)) _ (part_slice (c.args.at + 6) c.in_ok-end.end c.args.file.now) _ c.parse_pes_body.ensures _ (ap option_copied c.in_ok-body.ensures.ok_part)
    (omega (arith, c.in_default.len_below))

pub returns-in_default-2 : goal.returns-in_default-2
returns-in_default-2 c =
    let r = reached _ _ _ (sym c.after.ensures ∙ ap answered c.in_ok-end.was) in
    let w = whole (goal.at.returns-in_default-2 c).In_ok-end in
    private_other (is_id c.args.id) c.args.file.now c.args.at c.in_ok-end.end w.1 (omega (arith, r.0, r.1)) _ (part_slice (c.args.at + 6) c.in_ok-end.end c.args.file.now) _ c.parse_pes_body.ensures _ (ap option_copied c.in_ok-body.ensures.ok_part)
    (omega (arith, c.in-len1-up.len_at_least)) (ne_eqb _ _ (λ e. omega (arith, e, c.if-first-id.false)))
