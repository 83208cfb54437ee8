-- The layer keeps its claim: what an answer says in the grammar's words. Assumes nothing.
use Prim.Native.Nat.{ℕ, ◌+◌, ◌-◌, ◌≤◌}
use native.Mathlib.Omega.{arith}
use mathlib.Core.Path.{◌≡◌, refl, sym, ap, ◌∙◌, subst}
use mathlib.Core.Bool.{Bool}
use mathlib.Core.List.{List}
use lib.ListN.{length, take, drop}
use lib.Seq.{sets, sets-eq, length-slice, take_all, take_at}
use lib.Dec.{leb}
use borrow.Author.Tests.{leb-true, le-leb}
use Rattle.outcome.specs.Outcome.{Res, ok, refuse, listed_by, bad_stream, short_scratch}
use Rattle.outcome.proofs.Laws.{ok-not-refuse, ok-injective, check-ok, and_then-ok, part_slice}
use Rattle.grammar.specs.Bytes.{word}
use Rattle.grammar.specs.Packets.{Form, bare, packets, IsForm, unit_of, scratch_for, stream_id, top_stream}
use Rattle.ps_model.specs.Packets.{form_at}
use Rattle.ps_model.specs.Unit.{unit_at, stream_unit}
use Rattle.ps_model.specs.Answers.{form_given, form_stored, unit_given, unit_stored, unit_part, Extracted}
use Rattle.ps_model.specs.Claim.{Holds, Says, Undisturbed}
use Rattle.ps_model.specs.declared.UnitAt.{UnitAt}
use Rattle.ps_model.proofs.Grammar.{form_iff}
use Rattle.grammar.proofs.Streams.{forms_same}
use Rattle.ps_model.proofs.Streams.{stream_same}

-- what is stored is the unit, as far as its form asks for scratch
pub form_stored_lem : (m : Form) → form_stored m ≡ take (scratch_for m) (unit_of m)
form_stored_lem (bare u) = refl
form_stored_lem (packets ps) = sym (take_all (length (unit_of (packets ps))) (unit_of (packets ps)) (omega arith))

module _ (id : ℕ → Bool) (f : List ℕ) (p : ℕ) where
  -- a unit is found with n bytes of scratch exactly where it is found and they are enough
  pub unit-sound : (n : ℕ) (m : Form) → unit_at id f p n ≡ ok m → (form_at id f p ≡ ok m) × (scratch_for m ≤ n)
  unfolding unit_at
  unit-sound n m e =
      let a = and_then-ok (form_at id f p) _ e in
      let b = check-ok (leb (scratch_for a.0) n) short_scratch (ok a.0) a.2 in
      let q = ok-injective b.1 in
      (a.1 ∙ ap ok q, subst (λ (x : Form). scratch_for x ≤ n) q (leb-true _ _ b.0))

  pub unit-complete : (n : ℕ) (m : Form) → form_at id f p ≡ ok m → scratch_for m ≤ n → unit_at id f p n ≡ ok m
  unfolding unit_at
  unit-complete n m e h = rw (e, le-leb (scratch_for m) n h)

  -- the part that an answer speaks of is the unit
  pub unit-there : (s : List ℕ) (m : Form) → IsForm id f p m → scratch_for m ≤ length s
      → unit_part f (sets s 0 (form_stored m)) p (ok (form_given m)) ≡ unit_of m
  unfolding unit_of
  unit-there s (bare u) h k =
      let b = h.1.bytes_are in
      let n : length u.bytes ≡ p + word f p - p = ap length b ∙ length-slice p (p + word f p) f h.0.fits in
      ap (λ (i : ℕ). take i (drop p f)) n ∙ part_slice p (p + word f p) f ∙ sym b
  unit-there s (packets ps) h k =
      let l : 0 + length (unit_of (packets ps)) ≤ length s = omega arith in
      ap (take (length (unit_of (packets ps)))) (sets-eq (unit_of (packets ps)) s 0 l)
      ∙ take_at (unit_of (packets ps)) (drop (0 + length (unit_of (packets ps))) s) (length (unit_of (packets ps))) refl

module _ (f : List ℕ) (p n : ℕ) where
  -- and that for a stream up to the greatest
  pub stream_sound : (k : ℕ) (m : Form) → stream_unit n f p k ≡ ok m
      → (n ≤ top_stream) × (form_at (stream_id n) f p ≡ ok m) × (scratch_for m ≤ k)
  unfolding stream_unit
  stream_sound k m e =
      let a = check-ok (leb n top_stream) bad_stream (unit_at (stream_id n) f p k) e in
      let b = unit-sound (stream_id n) f p k m a.1 in
      (leb-true _ _ a.0, b.0, b.1)

  stream-complete : (k : ℕ) (m : Form) → n ≤ top_stream → form_at (stream_id n) f p ≡ ok m → scratch_for m ≤ k
      → stream_unit n f p k ≡ ok m
  unfolding stream_unit
  stream-complete k m l e h = rw (le-leb n top_stream l) (unit-complete (stream_id n) f p k m e h)

  pub claim : (s : List ℕ) (r : Res UnitAt) (s' : List ℕ) → Extracted f p n s r s' → Says f p n s s' r
  claim s r s' d = go (stream_unit n f p (length s)) refl d.answer d.scratch
    where
      holds : (m : Form) → stream_unit n f p (length s) ≡ ok m → s' ≡ sets s 0 (form_stored m)
          → Holds f p n s s' (ok (form_given m)) m
      holds m q g =
          let x = stream_sound (length s) m q in
          let y = (form_iff (stream_id n) f p m).0 x.1 in
          record {
            in_range = x.0;
            inside = y.0;
            form = y.1;
            room = x.2;
            answer = refl;
            unit = ap (λ (t : List ℕ). unit_part f t p (ok (form_given m))) g ∙ unit-there (stream_id n) f p s m y.1 x.2;
            stored = g ∙ ap (sets s 0) (form_stored_lem m);
          }

      said : (m : Form) → Holds f p n s s' (ok (form_given m)) m → Says f p n s s' (ok (form_given m))
      said (bare u) h = (bare u, h)
      said (packets ps) h = (packets ps, h)

      go : (x : Res Form) → stream_unit n f p (length s) ≡ x → r ≡ unit_given x → s' ≡ sets s 0 (unit_stored x)
          → Says f p n s s' r
      go (ok m) q e g = subst (Says f p n s s') (sym e) (said m (holds m q g))
      go (refuse k) q e g =
          subst (Says f p n s s') (sym e) (g, λ m o l i h. ok-not-refuse (sym q ∙ stream-complete (length s) m o ((form_iff (stream_id n) f p m).1 (l, i)) h))

-- the unit that an answer speaks of
unit_is : (f : List ℕ) (p n : ℕ) (s : List ℕ) (r : Res UnitAt) (s' : List ℕ) → Extracted f p n s r s'
    → unit_part f s' p r ≡ listed_by (stream_unit n f p (length s)) unit_of
unit_is f p n s r s' d = go (stream_unit n f p (length s)) refl d.answer d.scratch
  where
    go : (x : Res Form) → stream_unit n f p (length s) ≡ x → r ≡ unit_given x → s' ≡ sets s 0 (unit_stored x)
        → unit_part f s' p r ≡ listed_by x unit_of
    go (ok m) q e g =
        let x = stream_sound f p n (length s) m q in
        ap (λ (t : List ℕ). unit_part f t p r) g
        ∙ ap (unit_part f (sets s 0 (form_stored m)) p) e
        ∙ unit-there (stream_id n) f p s m ((form_iff (stream_id n) f p m).0 x.1).1 x.2
    go (refuse k) q e g = ap (unit_part f s' p) e

-- what other streams carry does not count
pub undisturbed : (f : List ℕ) (p n : ℕ) (s : List ℕ) (r : Res UnitAt) (s' : List ℕ) → Extracted f p n s r s'
    → Undisturbed f p n s r s'
undisturbed f p n s r s' d g ps w a t s'' e =
    let q = stream_same n f g p ps w a (length s) in
    record {
      forms = forms_same n f g p ps w a;
      answer = d.answer ∙ ap unit_given q ∙ sym e.answer;
      scratch = d.scratch ∙ ap (λ (x : Res Form). sets s 0 (unit_stored x)) q ∙ sym e.scratch;
      unit = unit_is f p n s r s' d ∙ ap (λ (x : Res Form). listed_by x unit_of) q ∙ sym (unit_is g p n s t s'' e);
    }

-- the equation with both claims, as the contract has them
pub claimed : {f : List ℕ} {p n : ℕ} {s : List ℕ} {r : Res UnitAt} {s' : List ℕ} → Extracted f p n s r s'
    → Extracted f p n s r s' × Says f p n s s' r × Undisturbed f p n s r s'
claimed {f} {p} {n} {s} {r} {s'} d = (d, claim f p n s r s' d, undisturbed f p n s r s' d)
