-- `vobsub::decode_cue` meets its contract: the cue, then its unit, then its canvas; and so the claim on whole files. Assumes nothing.
use Prim.Native.Nat.{ℕ}
use Rattle.std.proofs.Common.{rules}
use native.Mathlib.Omega.{arith}
use mathlib.Core.Path.{◌≡◌, refl, sym, ap, ◌∙◌, subst}
use Rattle.std.specs.Prelude.{Result, Ok, Err, MatchResult, IsErrAnd}
use Rattle.idx_model.specs.declared.CueAnswer.{CueAnswer}
use Rattle.outcome.specs.declared.Refusal.{Refusal}
use Rattle.outcome.specs.Outcome.{Res, answered}
use Rattle.outcome.proofs.Laws.{ok-not-refuse}
use Rattle.outcome.proofs.Refusals.{handed_on}
use Rattle.ps_model.proofs.Unit.{named}
use Rattle.grammar.specs.Reading.{wanted}
use Rattle.vobsub_model.specs.Call.{lent}
use Rattle.vobsub_model.specs.Answers.{CuePainted}
use Rattle.vobsub_model.specs.declared.Shown.{Shown}
use Rattle.vobsub_model.proofs.Call.{cue-refused, unit-none, unit-some, kept}
use Rattle.vobsub.proofs.decode_cue.Goals as goal

-- what a refusal comes from that was made of another, and a cue that was handed on
made : (P : Refusal → Refusal → Type 0) (r m : Result CueAnswer Refusal) → MatchResult r (λ x. m ≡ Ok x) (λ e. IsErrAnd m (P e)) → (d : Refusal) → m ≡ Err d
    → (e : Refusal) × (r ≡ Err e) × P e d
made P (Ok x) m h d q = let y : ◌≡◌ {A = ℕ} 0 1 = cc in absurd (omega arith)
made P (Err e) m h d q = (e, refl, subst (λ (t : Result CueAnswer Refusal). IsErrAnd t (P e)) q h)

handed : (P : Refusal → Refusal → Type 0) (r m : Result CueAnswer Refusal) → MatchResult r (λ x. m ≡ Ok x) (λ e. IsErrAnd m (P e)) → (x : CueAnswer) → m ≡ Ok x → r ≡ Ok x
handed P (Ok y) m h x q = sym h ∙ q
handed P (Err e) m h x q = absurd (subst (λ (t : Result CueAnswer Refusal). IsErrAnd t (P e)) q h)

pub returns-in_err-c : goal.returns-in_err-c
returns-in_err-c c =
    let a = c.args in
    let m = made _ c.pick_cue.result c.map_err.result c.map_err.ensures.cases _ c.in_err-c.was in
    kept _ _ _ _ _ _
    (subst (λ (r : Res Shown). CuePainted a.text.now a.file.now (wanted a.cue a.stream) (lent a.scratch.now a.pixels.now a.canvas.now) r (lent a.scratch.now a.pixels.now a.canvas.now))
    (sym (handed_on c.from_residual.result _ c.from_residual.ensures))
    (cue-refused a.text.now a.file.now a.cue a.stream a.scratch.now a.pixels.now a.canvas.now _
    c.pick_cue.ensures.0 _ (ap answered m.1) _ (let k = m.2 in search rules)))

pub returns : goal.returns
returns c =
    let a = c.args in
    kept _ _ _ _ _ _
    (unit-some a.text.now a.file.now a.cue a.stream a.scratch.now a.pixels.now a.canvas.now _
    c.pick_cue.ensures.0 _ (ap answered (handed _ c.pick_cue.result c.map_err.result c.map_err.ensures.cases _ c.in_ok-c.was)) _ _ (named (ap answered c.in_ok-unit.was) c.extract_spu.ensures.0)
    (λ m q. ok-not-refuse (sym q)) _ _ _ c.paint_found.ensures)

pub returns-in_err-unit : goal.returns-in_err-unit
returns-in_err-unit c =
    let a = c.args in
    kept _ _ _ _ _ _
    (subst (λ (r : Res Shown). CuePainted a.text.now a.file.now (wanted a.cue a.stream) (lent a.scratch.now a.pixels.now a.canvas.now) r (lent c.extract_spu.new.scratch a.pixels.now a.canvas.now))
    (sym (handed_on c.from_residual-in_err-unit.result _ c.from_residual-in_err-unit.ensures))
    (unit-none a.text.now a.file.now a.cue a.stream a.scratch.now a.pixels.now a.canvas.now _
    c.pick_cue.ensures.0 _ (ap answered (handed _ c.pick_cue.result c.map_err.result c.map_err.ensures.cases _ c.in_ok-c.was)) _ _ _ c.extract_spu.ensures.0 (ap answered c.in_err-unit.was)))
