-- `vobsub_c::vobsub_pick_cue` meets its contract: the answer of the layer, or its refusal. Assumes nothing.
use Prim.Native.Nat.{ℕ}
use borrow.Author.Rules.{rules}
use mathlib.Core.Path.{◌≡◌, refl, sym, ap, ◌∙◌, subst}
use mathlib.Core.Bool.{cond}
use mathlib.Core.List.{List, [], ◌∷◌}
use lib.IntN.{ℤ}
use mir.Facts.{to_z-of_z}
use mir.Syntax.{w64}
use Rattle.outcome.specs.Outcome.{Res, ok, refuse, IsOk, refusal_of, answered}
use Rattle.grammar.specs.IndexCues.{duration_of, cues_of}
use Rattle.idx_model.specs.Text.{idx_of}
use Rattle.idx_model.specs.Answers.{Picked, pick_of, cue_answer}
use Rattle.idx_model.specs.Claim.{CueSays}
use Rattle.idx_model.specs.declared.CueAnswer.{CueAnswer}
use Rattle.vobsub_c.specs.Answers.{or_before, CueGiven}
use Rattle.vobsub_numbers.specs.Numbers.{there, count_in, cue_numbers}
use Rattle.vobsub_c.proofs.Returned.{cue-returned}
use Rattle.vobsub_c.proofs.Told.{lasts, counted}
use Rattle.vobsub_c.proofs.vobsub_pick_cue.Goals as goal

given_ok : (x : Res Picked) → IsOk x → IsOk (cue_answer x)
unfolding cue_answer
given_ok (ok l) h = tt
given_ok (refuse n) h = h

module _ (t : List ℕ) (n : ℕ) (z : ℤ) (px ns : List ℕ) (r : Res CueAnswer) (q : r ≡ cue_answer (pick_of (idx_of t) n))
    (w : CueSays t n r) where
  -- what is left where nothing is refused; the start goes through 64 bits
  accepted : (a : CueAnswer) → r ≡ ok a → (z' : ℤ) → z' ≡ a.start.0 → (ns' : List ℕ) → ns' ≡ cue_numbers a → CueGiven t n z px ns 0 z' a.palette ns'
  accepted a e z' k ns' h =
      let y : ok a ≡ cue_answer (pick_of (idx_of t) n) = sym e ∙ q in
      record {
        refusal = ap refusal_of y;
        returned = cue-returned t n 0 (ap refusal_of y);
        starts_at = k ∙ ap (λ (o : Res CueAnswer). or_before (λ b. b.start.0) o z) y;
        told = h ∙ ap (λ (o : Res CueAnswer). or_before cue_numbers o ns) y;
        colours = ap (λ (o : Res CueAnswer). or_before (λ b. b.palette) o px) y;
        as_found = λ f. absurd (f refl);
        exactly_when = (λ d. w.exactly_when.0 (subst IsOk (sym e) tt), λ d. refl);
        cue_told = λ x d c f i.
            let g = w.same x d c f a e in
            record {
              start_is = k ∙ g.start;
              palette_is = g.palette;
              numbers_are =
                  h
                  ∙ (λ j. g.position j ∷ there (g.duration j) ∷ count_in (g.duration j) ∷ cond (g.coloured j) 1 0 ∷ [])
                  ∙ (λ j.
                  c.position ∷ lasts (duration_of (cues_of x) n) j ∷ counted (duration_of (cues_of x) n) j
                  ∷ cond (g.coloured 1) 1 0 ∷ []);
            };
      }

  -- and on a refusal
  declined : (k : ℕ) → r ≡ refuse k → CueGiven t n z px ns k z px ns
  declined k e =
      let y : refuse k ≡ cue_answer (pick_of (idx_of t) n) = sym e ∙ q in
      let v = cue-returned t n k (ap refusal_of y) in
      let nothing : k ≡ 0 → ⊥ = λ h. subst IsOk (sym y) (given_ok (pick_of (idx_of t) n) (v.accepted h)) in
      record {
        refusal = ap refusal_of y;
        returned = v;
        starts_at = ap (λ (o : Res CueAnswer). or_before (λ b. b.start.0) o z) y;
        told = ap (λ (o : Res CueAnswer). or_before cue_numbers o ns) y;
        colours = ap (λ (o : Res CueAnswer). or_before (λ b. b.palette) o px) y;
        as_found = λ f. (refl, refl, refl);
        exactly_when = (λ d. absurd (nothing d), λ h. absurd (subst IsOk e (w.exactly_when.1 h)));
        cue_told = λ x d c f i. absurd (nothing i);
      }

pub returns-in-Ok : goal.returns-in-Ok
returns-in-Ok c =
    accepted _ _ _ _ _ _ c.pick_cue.ensures.0 c.pick_cue.ensures.1 _ (ap answered c.in-Ok.is) _
    (to_z-of_z {w = w64} (record { sfits = search rules })) _ c.cue_numbers_of.ensures
