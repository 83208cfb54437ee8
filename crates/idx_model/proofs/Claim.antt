-- What the contracts of `parse_idx` and `pick_cue` say in the grammar's words; each refusal is one of the table. Assumes nothing.
use Prim.Native.Nat.{ℕ, ◌≤◌, ◌<◌, min}
use mathlib.Core.Path.{◌≡◌, refl, sym, ap, ◌∙◌, subst}
use mathlib.Core.Logic.{⊎_elim}
use Rattle.std.specs.Prelude.{Option, Some as some, None as none}
use mathlib.Core.List.{List}
use lib.ListN.{length}
use lib.Seq.{sets}
use lib.IntN.{ℤ}
use Rattle.outcome.specs.Outcome.{Res, ok, refuse, IsOk, listed_by, no_cue}
use Rattle.outcome.proofs.Laws.{le_or_lt, ok-injective}
use Rattle.grammar.specs.Index.{ListedText}
use Rattle.grammar.specs.IndexCues.{Cue, cues_of, cue_at, palette_of, has_palette, display_size, duration_of}
use Rattle.grammar.specs.Record.{given}
use Rattle.idx_model.specs.Text.{idx_of}
use Rattle.idx_model.specs.Answers.{starts_of, positions_of, idx_with, idx_answer, IdxRead, pick_of, duration_in, cue_answer}
use Rattle.clock_model.specs.Answers.{micros}
use Rattle.idx_model.specs.Claim.{Gives, IdxSays, GivesCue, CueSays}
use Rattle.idx_model.specs.declared.IdxAnswer.{IdxAnswer}
use Rattle.idx_model.specs.declared.CueAnswer.{CueAnswer}
use Rattle.idx_model.proofs.Grammar.{text_is, text-one, text_unique}
use Rattle.idx_model.proofs.Picks.{cue-in, cue-out}

-- ---- a whole text
abbrev idx_answer_of : ListedText → IdxAnswer
idx_answer_of t =
    record {
      width = (display_size t).width;
      height = (display_size t).height;
      has_palette = has_palette t;
      palette = palette_of t;
      cues = length (cues_of t);
    }

module _ (text : List ℕ) (starts : List ℤ) (positions : List ℕ) (r : Res IdxAnswer) (starts' : List ℤ) (positions' : List ℕ) (h : IdxRead text starts positions r starts' positions') where
  room : ℕ
  room = min (length starts) (length positions)

  found : (x : Res ListedText) → idx_with starts positions text ≡ x → IsOk r
      → (t : ListedText) × (idx_with starts positions text ≡ ok t)
  unfolding idx_answer
  found (ok t) e z = (t, e)
  found (refuse n) e z = absurd (subst IsOk (h.answer ∙ ap idx_answer e) z)

  gives : (t : ListedText) → idx_with starts positions text ≡ ok t → (a : IdxAnswer) → r ≡ ok a → Gives t starts positions a starts' positions'
  unfolding idx_answer
  gives t e a g =
      let q : idx_answer_of t ≡ a = ok-injective (sym (h.answer ∙ ap idx_answer e) ∙ g) in
      subst (λ (x : IdxAnswer). Gives t starts positions x starts' positions') q
      (record {
        width = refl;
        height = refl;
        coloured = refl;
        palette = refl;
        count = refl;
        starts_are = h.stored.starts_are ∙ ap (λ (x : Res ListedText). sets starts 0 (starts_of (listed_by x cues_of))) e;
        positions_are = h.stored.positions_are ∙ ap (λ (x : Res ListedText). sets positions 0 (positions_of (listed_by x cues_of))) e;
      })

  accepted : (t : ListedText) → idx_with starts positions text ≡ ok t → IsOk r
  unfolding idx_answer
  accepted t e = subst IsOk (sym (h.answer ∙ ap idx_answer e)) tt

  left : (x : Res ListedText) → idx_with starts positions text ≡ x → (IsOk r → ⊥)
      → (starts' ≡ starts) × (positions' ≡ positions)
  left (ok t) e f = absurd (f (accepted t e))
  left (refuse n) e f = (
    h.stored.starts_are ∙ ap (λ (x : Res ListedText). sets starts 0 (starts_of (listed_by x cues_of))) e,
    h.stored.positions_are ∙ ap (λ (x : Res ListedText). sets positions 0 (positions_of (listed_by x cues_of))) e,
  )

  pub idx_claim : IdxSays text starts positions r starts' positions'
  idx_claim = record {
    exactly_when = (
      λ z. let w = found (idx_with starts positions text) refl z in let i = text_is (some (min (length starts) (length positions))) text w.0 w.1 in (w.0, i.0, i.1),
      λ w. accepted w.0 (text-one (some (min (length starts) (length positions))) text w.0 w.1 w.2),
    );
    same = λ t k a z.
        let w = found (idx_with starts positions text) refl (subst IsOk (sym z) tt) in
        let i = text_is (some (min (length starts) (length positions))) text w.0 w.1 in
        subst (λ (x : ListedText). Gives x starts positions a starts' positions') (text_unique text w.0 t i.0 k) (gives w.0 w.1 a z);
    as_found = left (idx_with starts positions text) refl;
  }

-- ---- one cue
pub lasting : (o : Option ℕ) → given (duration_in o) ≡ given o
lasting none = refl
lasting (some d) = refl

module _ (text : List ℕ) (n : ℕ) (r : Res CueAnswer) (h : r ≡ cue_answer (pick_of (idx_of text) n)) where
  found_cue : ListedText → Cue → CueAnswer
  found_cue t c =
      record {
        start = micros c.start;
        position = c.position;
        duration = duration_in (duration_of (cues_of t) n);
        has_palette = has_palette t;
        palette = palette_of t;
      }

  picks : (t : ListedText) → idx_of text ≡ ok t → (c : Cue) → cue_at (cues_of t) n ≡ some c → r ≡ ok (found_cue t c)
  unfolding pick_of cue_answer found_cue
  picks t e c f = h ∙ rw (e, f)

  pub picked : (t : ListedText) → idx_of text ≡ ok t → (c : Cue) → cue_at (cues_of t) n ≡ some c
      → IsOk r × ((a : CueAnswer) → r ≡ ok a → GivesCue t n c a)
  unfolding found_cue
  picked t e c f = (
    subst IsOk (sym (picks t e c f)) tt,
    λ a g.
        subst (GivesCue t n c) (ok-injective (sym (picks t e c f) ∙ g))
        (record {
          start = refl;
          position = refl;
          lasts = lasting (duration_of (cues_of t) n);
          duration = refl;
          coloured = refl;
          palette = refl;
        }),
  )

  pub has : (x : Res ListedText) → idx_of text ≡ x → IsOk r
      → (t : ListedText) × (idx_of text ≡ ok t) × (n < length (cues_of t))
  unfolding pick_of cue_answer
  has (refuse m) e z =
      let p : pick_of (idx_of text) n ≡ refuse m = rw e in
      absurd (subst IsOk (h ∙ ap cue_answer p) z)
  has (ok t) e z = (t, e, ⊎_elim (λ l. absurd (past l)) (λ l. l) (le_or_lt (length (cues_of t)) n))
    where
      past : length (cues_of t) ≤ n → ⊥
      past l =
          let p : pick_of (idx_of text) n ≡ refuse no_cue = rw (e, cue-out (cues_of t) n l) in
          subst IsOk (h ∙ ap cue_answer p) z

  pub cue-claim : CueSays text n r
  cue-claim = record {
    exactly_when = (
      λ z. let w = has (idx_of text) refl z in (w.0, (text_is none text w.0 w.1).0, w.2),
      λ w. let c = cue-in (cues_of w.0) n w.2 in (picked w.0 (text-one none text w.0 w.1 tt) c.0 c.1).0,
    );
    same = λ t k c f a g. (picked t (text-one none text t k tt) c f).1 a g;
  }

-- the equations with the claims, as the contracts have both
pub idx_claimed : {text : List ℕ} {starts : List ℤ} {positions : List ℕ} {r : Res IdxAnswer} {starts' : List ℤ} {positions' : List ℕ}
    → IdxRead text starts positions r starts' positions' → IdxRead text starts positions r starts' positions' × IdxSays text starts positions r starts' positions'
idx_claimed {text} {starts} {positions} {r} {starts'} {positions'} d = (d, idx_claim text starts positions r starts' positions' d)

pub cue-claimed : (text : List ℕ) (n : ℕ) {r : Res CueAnswer} → r ≡ cue_answer (pick_of (idx_of text) n) → (r ≡ cue_answer (pick_of (idx_of text) n)) × CueSays text n r
cue-claimed text n {r} d = (d, cue-claim text n r d)
