-- `packets::read_packet` meets its contract: by its prefix and its code. Assumes nothing.
use native.Mathlib.Omega.{arith}
use Prim.Native.Nat.{ℕ, ◌+◌, ◌*◌, ◌≤◌}
use mathlib.Core.Path.{◌≡◌, sym, ◌∙◌}
use mathlib.Core.Logic.{⊎_elim}
use lib.ListN.{length}
use Rattle.std.specs.List.{slice_range}
use Rattle.grammar.specs.Bytes.{byte, word}
use Rattle.grammar.specs.Packets.{is_id}
use Rattle.ps_model.proofs.PacketGrammar.{word_at}
use Rattle.ps_model.proofs.Read.{Prefixed, missing, byte_from, prefixed_from, unprefixed_from, packet-short, packet-unprefixed, packet-pack, packet-private, packet-ending, packet-other}
use Rattle.packets.proofs.read_packet.Goals.{In_ok-packet, In-len6-up, Else-ne}
use Rattle.packets.proofs.read_packet.Goals as goal

-- what is left from the place on
module _ (c : In_ok-packet) where
  left : c.in_ok-packet.packet.now ≡ slice_range c.args.file.now c.args.at (length c.args.file.now)
  left = (rw c.in_ok-packet.ensures.ok_part at c.get.ensures.lookup).0.2

  long : length c.in_ok-packet.packet.now + c.args.at ≡ length c.args.file.now
  long = (rw c.in_ok-packet.ensures.ok_part at c.get.ensures.lookup).0.3

-- ---- Too short, or without the prefix
pub returns-in_err-packet : goal.returns-in_err-packet
returns-in_err-packet c =
    let m = c.in_err-packet.ensures in
    let h = (rw m.ok_part at c.get.ensures.lookup).0 in
    rw (missing c.get.result _ c.from_residual.result m.ok_part m.value c.from_residual.ensures)
    (packet-short (is_id c.args.id) c.args.file.now c.args.at (⊎_elim (λ l. omega (arith, l)) (λ l. omega (arith, l)) h))

pub returns-in_default : goal.returns-in_default
returns-in_default c =
    packet-short (is_id c.args.id) c.args.file.now c.args.at (omega (arith, long (goal.at.returns-in_default c).In_ok-packet, c.in_default.len_below))

pub returns-then-ne : goal.returns-then-ne
returns-then-ne c =
    let a = c.args in
    packet-unprefixed (is_id a.id) a.file.now a.at (unprefixed_from a.file.now a.at _ (left (goal.at.returns-then-ne c).In_ok-packet) (sym c.ne.ensures ∙ c.if-ne.true))

-- ---- By its code
-- they start with the prefix, and six bytes at least are left
module _ (c : Else-ne) where
  prefixed : Prefixed c.args.file.now c.args.at
  prefixed = prefixed_from c.args.file.now c.args.at _ (left (goal.at.Else-ne c).In_ok-packet) (sym c.ne.ensures ∙ c.if-ne.false)

  code : byte c.args.file.now (c.args.at + 3) ≡ byte c.in_ok-packet.packet.now 3
  code = sym (byte_from c.args.file.now c.args.at _ (left (goal.at.Else-ne c).In_ok-packet) 3)

  six : c.args.at + 6 ≤ length c.args.file.now
  six = omega (arith, long (goal.at.Else-ne c).In_ok-packet, c.in-len6-up.len_at_least)

  size : (n : ℕ) → n ≡ byte c.in_ok-packet.packet.now 4 * 256 + byte c.in_ok-packet.packet.now 5 → n ≡ word c.args.file.now (c.args.at + 4)
  size n e =
      let b = byte_from c.args.file.now c.args.at _ (left (goal.at.Else-ne c).In_ok-packet) in
      e ∙ rw (b 4, b 5) (word_at c.args.file.now (c.args.at + 4) (c.args.at + 5) (omega arith))

pub returns-in-186 : goal.returns-in-186
returns-in-186 c =
    let a = c.args in
    let s = (goal.at.returns-in-186 c).Else-ne in
    c.pack.ensures ∙ packet-pack (is_id a.id) a.file.now a.at (prefixed s) (code s ∙ c.in-186.is)

pub private_stream-requires : goal.private_stream-requires
private_stream-requires c =
    let s = (goal.at.private_stream-requires c).Else-ne in (six s, size s _ c.word_of-size.ensures)

pub returns-in-189 : goal.returns-in-189
returns-in-189 c =
    let a = c.args in
    let s = (goal.at.returns-in-189 c).Else-ne in
    let e = code s in
    let i = c.in-189.is in
    c.private_stream.ensures ∙ packet-private (is_id a.id) a.file.now a.at (prefixed s) (λ z. omega (arith, e, i, z)) (e ∙ i)

pub returns-in-185 : goal.returns-in-185
returns-in-185 c =
    let a = c.args in
    let s = (goal.at.returns-in-185 c).Else-ne in
    let e = code s in
    let i = c.in-185.is in
    packet-ending (is_id a.id) a.file.now a.at (prefixed s) (λ z. omega (arith, e, i, z)) (λ z. omega (arith, e, i, z)) (e ∙ i)

pub returns-in_default-code : goal.returns-in_default-code
returns-in_default-code c =
    let a = c.args in
    let s = (goal.at.returns-in_default-code c).Else-ne in
    let e = code s in
    let d = c.in_default-code in
    c.passing.ensures
    ∙ packet-other (is_id a.id) a.file.now a.at (prefixed s) (λ z. omega (arith, e, d, z)) (λ z. omega (arith, e, d, z)) (λ z. omega (arith, e, d, z)) _
    (omega (arith, size s _ c.word_of-size.ensures))
