-- `vobsub_c::vobsub_parse_and_decode_spu` meets its contract: the record of the layer, or its refusal. Assumes nothing.
use Prim.Native.Nat.{ℕ}
use mathlib.Core.Path.{◌≡◌, refl, sym, ap, ◌∙◌, subst}
use mathlib.Core.List.{List}
use lib.ListN.{length}
use Rattle.outcome.specs.Outcome.{Res, ok, refuse, IsOk, refusal_of, answered}
use Rattle.grammar.specs.Picture.{ListedUnit}
use Rattle.spu_model.specs.Unit.{unit_in}
use Rattle.spu_model.specs.Answers.{record_given, Decoded}
use Rattle.spu_model.specs.Claim.{Says}
use Rattle.spu_model.specs.declared.Record.{Record}
use Rattle.vobsub_numbers.specs.Numbers.{spu_numbers}
use Rattle.vobsub_c.specs.Answers.{or_before, UnitDecoded}
use Rattle.vobsub_c.proofs.Returned.{record_returned}
use Rattle.vobsub_c.proofs.Told.{numbers-told}
use Rattle.vobsub_c.proofs.vobsub_parse_and_decode_spu.Goals as goal

given_ok : (x : Res ListedUnit) → IsOk x → IsOk (record_given x)
given_ok (ok l) h = tt
given_ok (refuse n) h = h

module _ (u px px' ws ns : List ℕ) (r : Res Record) (q : Decoded u px r px') (s : Says u px px' r) where
  -- what is left where nothing is refused
  accepted : (a : Record) → r ≡ ok a → (ns' : List ℕ) → ns' ≡ spu_numbers a.spu → UnitDecoded u px ws ns 0 px' a.bands ns'
  accepted a e ns' n =
      let y : ok a ≡ record_given (unit_in u (length px)) = sym e ∙ q.answer in
      record {
        refusal = ap refusal_of y;
        returned = record_returned _ _ 0 (ap refusal_of y);
        told = n ∙ ap (λ (o : Res Record). or_before (λ b. spu_numbers b.spu) o ns) y;
        paints = q.pixels;
        stores = ap (λ (o : Res Record). or_before (λ b. b.bands) o ws) y;
        as_found = λ h. absurd (h refl);
        exactly_when = (λ h. s.exactly_when.0 (subst IsOk (sym e) tt), λ h. refl);
        unit_told = λ l i o.
            let g = s.same l i a e in
            record { map_is = g.pixels; bands_are = g.bands; numbers_are = n ∙ numbers-told _ _ _ g.recorded };
      }

  -- and on a refusal
  declined : (k : ℕ) → r ≡ refuse k → UnitDecoded u px ws ns k px' ws ns
  declined k e =
      let y : refuse k ≡ record_given (unit_in u (length px)) = sym e ∙ q.answer in
      let v = record_returned u (length px) k (ap refusal_of y) in
      record {
        refusal = ap refusal_of y;
        returned = v;
        told = ap (λ (o : Res Record). or_before (λ b. spu_numbers b.spu) o ns) y;
        paints = q.pixels;
        stores = ap (λ (o : Res Record). or_before (λ b. b.bands) o ws) y;
        as_found = λ h. (s.as_found (λ g. subst IsOk e g), refl, refl);
        exactly_when = (
          λ h. absurd (subst IsOk (sym y) (given_ok (unit_in u (length px)) (v.accepted h))),
          λ h. absurd (subst IsOk e (s.exactly_when.1 h)),
        );
        unit_told = λ l i o. absurd (subst IsOk e (s.exactly_when.1 (l, i, o)));
      }

pub returns-in-Ok : goal.returns-in-Ok
returns-in-Ok c =
    let r = c.parse_and_decode_spu in
    accepted _ _ _ _ _ _ r.ensures.0 r.ensures.1 _ (ap answered c.in-Ok.is) _ c.numbers_of.ensures
