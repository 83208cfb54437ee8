-- The number that each answer returns is its definition's, and so one of the table, or 0 where nothing is refused. Assumes nothing.
use Prim.Native.Nat.{ℕ}
use mathlib.Core.Path.{◌≡◌, refl, ◌∙◌}
use mathlib.Core.List.{List}
use lib.IntN.{ℤ}
use lib.ListN.{length}
use Rattle.outcome.specs.Outcome.{Res, ok, refuse, refusal_of, InTable, Returned, no_unit}
use Rattle.outcome.proofs.Numbers.{in_table, only-numbered, returned}
use Rattle.grammar.specs.Index.{ListedText}
use Rattle.grammar.specs.Picture.{ListedUnit}
use Rattle.grammar.specs.Packets.{Form, bare, packets}
use Rattle.grammar.specs.Reading.{Wanted, Reading}
use Rattle.grammar.specs.Rows.{Code}
use Rattle.bands_model.specs.Answers.{count_of, stored}
use Rattle.bands_model.proofs.Refusals.{stored-numbered}
use Rattle.ps_model.specs.OnePacket.{body_at}
use Rattle.ps_model.proofs.Shift.{body_refuses}
use Rattle.ps_model.specs.Unit.{stream_unit}
use Rattle.ps_model.specs.Answers.{unit_given}
use Rattle.ps_model.proofs.Refusals.{stream_numbered}
use Rattle.rle_model.specs.Field.{decoded}
use Rattle.rle_model.specs.Answers.{field_answer}
use Rattle.rle_model.proofs.Refusals.{decoded-numbered}
use Rattle.spu_model.specs.Unit.{unit_in}
use Rattle.spu_model.specs.Answers.{record_given}
use Rattle.spu_model.proofs.Refusals.{unit-numbered}
use Rattle.demo_model.specs.Unit.{demo_at}
use Rattle.demo_model.specs.Answers.{demo_given}
use Rattle.demo_model.proofs.Refusals.{demo_numbered}
use Rattle.idx_model.specs.Text.{idx_of}
use Rattle.idx_model.specs.Answers.{idx_with, idx_answer, Picked, pick_of, cue_answer}
use Rattle.idx_model.proofs.Refusals.{text_numbered, pick-numbered}
use Rattle.vobsub_model.specs.Call.{Lent, reading_in}
use Rattle.vobsub_model.specs.Answers.{canvas_answer}
use Rattle.vobsub_model.proofs.Refusals.{reading-numbered}

pub bands-returned : (s : List ℕ) (r : ℕ) → r ≡ refusal_of (count_of 0 (stored s)) → Returned (stored s) r
bands-returned s r e = returned (stored s) r (stored-numbered s) (e ∙ go (stored s))
  where
    go : (x : Res (List ℕ)) → refusal_of (count_of 0 x) ≡ refusal_of x
    go (ok v) = refl
    go (refuse n) = refl

pub body_returned : (s : List ℕ) (r : ℕ) → r ≡ refusal_of (body_at s 0 (length s)) → Returned (body_at s 0 (length s)) r
body_returned s r e = returned (body_at s 0 (length s)) r (only-numbered InTable no_unit (in_table no_unit refl) (body_at s 0 (length s)) (body_refuses s 0 (length s))) e

pub unit-returned : (f : List ℕ) (p s n r : ℕ) → r ≡ refusal_of (unit_given (stream_unit s f p n))
    → Returned (stream_unit s f p n) r
unit-returned f p s n r e = returned (stream_unit s f p n) r (stream_numbered s f p n) (e ∙ go (stream_unit s f p n))
  where
    go : (x : Res Form) → refusal_of (unit_given x) ≡ refusal_of x
    go (ok (bare u)) = refl
    go (ok (packets l)) = refl
    go (refuse k) = refl

pub field-returned : (s : List ℕ) (w h start : ℕ) (px : List ℕ) (r : ℕ)
    → r ≡ refusal_of (field_answer w (decoded s w h start px)) → Returned (decoded s w h start px) r
field-returned s w h start px r e = returned (decoded s w h start px) r (decoded-numbered s w h start px) (e ∙ go (decoded s w h start px))
  where
    go : (x : Res (List (List Code))) → refusal_of (field_answer w x) ≡ refusal_of x
    go (ok rs) = refl
    go (refuse n) = refl

pub record_returned : (u : List ℕ) (n r : ℕ) → r ≡ refusal_of (record_given (unit_in u n)) → Returned (unit_in u n) r
record_returned u n r e = returned (unit_in u n) r (unit-numbered u n) (e ∙ go (unit_in u n))
  where
    go : (x : Res ListedUnit) → refusal_of (record_given x) ≡ refusal_of x
    go (ok l) = refl
    go (refuse k) = refl

pub demo_returned : (w h : ℕ) (px : List ℕ) (n r : ℕ) → r ≡ refusal_of (demo_given (demo_at w h px n))
    → Returned (demo_at w h px n) r
demo_returned w h px n r e = returned (demo_at w h px n) r (demo_numbered w h px n) (e ∙ go (demo_at w h px n))
  where
    go : (x : Res (List ℕ)) → refusal_of (demo_given x) ≡ refusal_of x
    go (ok u) = refl
    go (refuse k) = refl

pub index-returned : (starts : List ℤ) (positions text : List ℕ) (r : ℕ)
    → r ≡ refusal_of (idx_answer (idx_with starts positions text)) → Returned (idx_with starts positions text) r
unfolding idx_answer
index-returned starts positions text r e = returned (idx_with starts positions text) r (text_numbered _ text) (e ∙ go (idx_with starts positions text))
  where
    go : (x : Res ListedText) → refusal_of (idx_answer x) ≡ refusal_of x
    go (ok index) = refl
    go (refuse n) = refl

pub cue-returned : (text : List ℕ) (n r : ℕ) → r ≡ refusal_of (cue_answer (pick_of (idx_of text) n))
    → Returned (pick_of (idx_of text) n) r
unfolding cue_answer
cue-returned text n r e = returned (pick_of (idx_of text) n) r (pick-numbered text n) (e ∙ go (pick_of (idx_of text) n))
  where
    go : (x : Res Picked) → refusal_of (cue_answer x) ≡ refusal_of x
    go (ok p) = refl
    go (refuse k) = refl

pub canvas_returned : (text file : List ℕ) (q : Wanted) (b : Lent) (r : ℕ)
    → r ≡ refusal_of (canvas_answer (reading_in text file q b)) → Returned (reading_in text file q b) r
canvas_returned text file q b r e = returned (reading_in text file q b) r (reading-numbered text file q b) (e ∙ go (reading_in text file q b))
  where
    go : (x : Res Reading) → refusal_of (canvas_answer x) ≡ refusal_of x
    go (ok y) = refl
    go (refuse k) = refl
