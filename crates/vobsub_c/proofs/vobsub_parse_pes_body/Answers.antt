-- `vobsub_c::vobsub_parse_pes_body` meets its contract: the body is what is left of the PES, so its place follows from its length.
-- Assumes nothing.
use Prim.Native.Nat.{ℕ, ◌-◌, ◌≤◌}
use mathlib.Core.Path.{◌≡◌, refl, sym, ap, ◌∙◌}
use mathlib.Core.List.{List}
use Rattle.std.specs.Prelude.{Some as some, None as none}
use Rattle.std.specs.Option.{option_copied}
use lib.ListN.{length, drop, length-drop}
use native.Mathlib.Omega.{arith}
use Rattle.outcome.specs.Outcome.{Res, ok, refuse, no_unit, refusal_of}
use Rattle.ps_model.specs.OnePacket.{body_at}
use Rattle.ps_model.specs.PacketAnswers.{body_part}
use Rattle.ps_model.proofs.PacketGrammar.{body_iff}
use Rattle.ps_model.proofs.Shift.{body_refuses}
use Rattle.vobsub_c.specs.Answers.{or_before, BodyFound}
use Rattle.vobsub_c.proofs.Returned.{body_returned}
use Rattle.vobsub_c.proofs.vobsub_parse_pes_body.Goals as goal

module _ (s : List ℕ) where
  -- no body
  missing : (n : ℕ) → none ≡ body_part s (body_at s 0 (length s)) → BodyFound s n no_unit n
  missing n r = go (body_at s 0 (length s)) refl r
    where
      go : (u : Res ℕ) → body_at s 0 (length s) ≡ u → none ≡ body_part s u → BodyFound s n no_unit n
      go (ok b) v w = let y : ◌≡◌ {A = ℕ} 0 1 = cc in absurd (omega arith)
      go (refuse k) v w = let y : no_unit ≡ refusal_of (body_at s 0 (length s)) = sym (ap refusal_of v ∙ body_refuses s 0 (length s) k v) in record { refusal = y; returned = body_returned s no_unit y; place = sym (ap (λ (o : Res ℕ). or_before (λ b. b) o n) v) }

  -- a body, which is not longer than the PES, and its place
  record There (n m : ℕ) : Type 0 where
    shorter : m ≤ length s
    found : BodyFound s n 0 (length s - m)

  there : (n : ℕ) (b : List ℕ) → some b ≡ body_part s (body_at s 0 (length s)) → There n (length b)
  there n b r = go (body_at s 0 (length s)) refl r
    where
      go : (u : Res ℕ) → body_at s 0 (length s) ≡ u → some b ≡ body_part s u → There n (length b)
      go (refuse k) v w = let y : ◌≡◌ {A = ℕ} 0 1 = cc in absurd (omega arith)
      go (ok c) v w =
          let i = ((body_iff s 0 (length s) c).0 v).within in
          let f : b ≡ drop c s = cc in
          let l : length b ≡ length s - c = ap length f ∙ length-drop c s in
          let p : length s - length b ≡ c = omega arith in
          record { shorter = omega arith; found = record { refusal = sym (ap refusal_of v); returned = body_returned s 0 (sym (ap refusal_of v)); place = p ∙ sym (ap (λ (o : Res ℕ). or_before (λ b. b) o n) v) } }

pub returns-in-Some : goal.returns-in-Some
returns-in-Some c = (there _ _ _ (sym (ap option_copied c.in-Some.is) ∙ c.parse_pes_body.ensures)).found

pub returns-in-None : goal.returns-in-None
returns-in-None c = rw c.number.ensures (missing _ _ (sym (ap option_copied c.in-None.is) ∙ c.parse_pes_body.ensures))
