-- `vobsub_c::vobsub_parse_idx` meets its contract: the answer of the layer, or its refusal. Assumes nothing.
use Prim.Native.Nat.{ℕ}
use mathlib.Core.Path.{◌≡◌, refl, sym, ap, ◌∙◌, subst}
use mathlib.Core.Bool.{cond}
use mathlib.Core.List.{List, [], ◌∷◌}
use lib.IntN.{ℤ}
use Rattle.outcome.specs.Outcome.{Res, ok, refuse, IsOk, refusal_of, answered}
use Rattle.grammar.specs.Index.{ListedText}
use Rattle.idx_model.specs.Answers.{idx_with, idx_answer, IdxRead}
use Rattle.idx_model.specs.Claim.{IdxSays}
use Rattle.idx_model.specs.declared.IdxAnswer.{IdxAnswer}
use Rattle.vobsub_c.specs.Answers.{or_before, IndexGiven}
use Rattle.vobsub_numbers.specs.Numbers.{idx_numbers}
use Rattle.vobsub_c.proofs.Returned.{index-returned}
use Rattle.vobsub_c.proofs.vobsub_parse_idx.Goals as goal

given_ok : (x : Res ListedText) → IsOk x → IsOk (idx_answer x)
unfolding idx_answer
given_ok (ok l) h = tt
given_ok (refuse n) h = h

module _ (t : List ℕ) (s s' : List ℤ) (p p' px ns : List ℕ) (r : Res IdxAnswer) (q : IdxRead t s p r s' p')
    (w : IdxSays t s p r s' p') where
  -- what is left where nothing is refused
  accepted : (a : IdxAnswer) → r ≡ ok a → (ns' : List ℕ) → ns' ≡ idx_numbers a → IndexGiven t s p px ns 0 s' p' a.palette ns'
  accepted a z ns' n =
      let y : ok a ≡ idx_answer (idx_with s p t) = sym z ∙ q.answer in
      record {
        refusal = ap refusal_of y;
        returned = index-returned s p t 0 (ap refusal_of y);
        told = n ∙ ap (λ (o : Res IdxAnswer). or_before idx_numbers o ns) y;
        colours = ap (λ (o : Res IdxAnswer). or_before (λ b. b.palette) o px) y;
        starts_are = q.stored.starts_are;
        positions_are = q.stored.positions_are;
        as_found = λ f. absurd (f refl);
        exactly_when = (λ e. w.exactly_when.0 (subst IsOk (sym z) tt), λ h. refl);
        text_told = λ x h e.
            let g = w.same x h a z in
            record {
              starts_are = g.starts_are;
              positions_are = g.positions_are;
              palette_is = g.palette;
              numbers_are = n ∙ (λ i. g.width i ∷ g.height i ∷ cond (g.coloured i) 1 0 ∷ g.count i ∷ []);
            };
      }

  -- and on a refusal
  declined : (k : ℕ) → r ≡ refuse k → IndexGiven t s p px ns k s' p' px ns
  declined k z =
      let y : refuse k ≡ idx_answer (idx_with s p t) = sym z ∙ q.answer in
      let v = index-returned s p t k (ap refusal_of y) in
      let none : k ≡ 0 → ⊥ = λ h. subst IsOk (sym y) (given_ok (idx_with s p t) (v.accepted h)) in
      record {
        refusal = ap refusal_of y;
        returned = v;
        told = ap (λ (o : Res IdxAnswer). or_before idx_numbers o ns) y;
        colours = ap (λ (o : Res IdxAnswer). or_before (λ b. b.palette) o px) y;
        starts_are = q.stored.starts_are;
        positions_are = q.stored.positions_are;
        as_found = λ f. let o = w.as_found (λ g. subst IsOk z g) in (o.0, o.1, refl, refl);
        exactly_when = (λ e. absurd (none e), λ h. absurd (subst IsOk z (w.exactly_when.1 h)));
        text_told = λ x h e. absurd (none e);
      }

pub returns-in-Ok : goal.returns-in-Ok
returns-in-Ok c =
    accepted _ _ _ _ _ _ _ _ c.parse_idx.ensures.0 c.parse_idx.ensures.1 _ (ap answered c.in-Ok.is) _
    c.idx_numbers_of.ensures
