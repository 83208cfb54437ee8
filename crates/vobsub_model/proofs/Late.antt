-- 33 comes after every other refusal, and where the grammar lists all of a reading, with room, it is returned exactly
-- where a time leaves. Assumes nothing.
use Prim.Native.Nat.{ℕ, ◌≤◌, ◌<◌}
use native.Mathlib.Omega.{arith}
use mathlib.Core.Path.{◌≡◌, refl, sym, ap, ◌∙◌}
use mathlib.Core.Logic.{◌↔◌}
use mathlib.Core.Bool.{Bool, true, false}
use Rattle.std.specs.Prelude.{Some as some}
use mathlib.Core.List.{List}
use lib.ListN.{length}
use Rattle.outcome.specs.Outcome.{Res, ok, refuse, check, long_instant}
use Rattle.grammar.specs.Index.{IsText}
use Rattle.grammar.specs.IndexCues.{Cue, cues_of, cue_at}
use Rattle.grammar.specs.Packets.{IsForm, unit_of, top_stream}
use Rattle.grammar.specs.Picture.{IsUnit}
use Rattle.grammar.specs.Times.{TimeStays}
use Rattle.grammar.specs.Reading.{Wanted, wanted_id, Reading, told_by, reading_start, show_of, hide_of}
use Rattle.clock_model.specs.Clock.{told_stay}
use Rattle.clock_model.proofs.Clock.{stay_iff}
use Rattle.vobsub_model.specs.Call.{Lent, listed_in, reading_in}
use Rattle.vobsub_model.specs.Answers.{canvas_answer, CuePainted}
use Rattle.vobsub_model.specs.Claim.{Room}
use Rattle.vobsub_model.specs.declared.Shown.{Shown}
use Rattle.vobsub_model.proofs.Claim.{listed-complete}

module _ (text file : List ℕ) (q : Wanted) (b : Lent) (r : Res Shown) (b' : Lent)
    (d : CuePainted text file q b r b') where
  -- what refuses before keeps its number
  pub earlier : (n : ℕ) → listed_in text file q b ≡ refuse n → r ≡ refuse n
  unfolding reading_in
  earlier n e = let g : reading_in text file q b ≡ refuse n = rw e in d.answer ∙ ap canvas_answer g

  -- and where nothing does, the times decide
  late : (x : Reading) → listed_in text file q b ≡ ok x
      → (r ≡ refuse long_instant) ↔ (TimeStays (show_of x) × TimeStays (hide_of x) → ⊥)
  unfolding reading_in
  late x e = (to, from)
    where
      answered : (t : Bool) → told_stay (reading_start x) (told_by x) ≡ t → r ≡ canvas_answer (check t long_instant (ok x))
      answered t h =
          let g : reading_in text file q b ≡ check t long_instant (ok x) = rw (e, h) in d.answer ∙ ap canvas_answer g

      to : r ≡ refuse long_instant → TimeStays (show_of x) × TimeStays (hide_of x) → ⊥
      to g s =
          let h = (stay_iff (reading_start x) (told_by x).starts (told_by x).stops).1 s in
          let k = sym g ∙ answered true h in
          let z : ◌≡◌ {A = ℕ} 0 1 = cc k in
          omega arith

      from : (TimeStays (show_of x) × TimeStays (hide_of x) → ⊥) → r ≡ refuse long_instant
      from n = go (told_stay (reading_start x) (told_by x)) refl
        where
          go : (t : Bool) → told_stay (reading_start x) (told_by x) ≡ t → r ≡ refuse long_instant
          go true h = absurd (n ((stay_iff (reading_start x) (told_by x).starts (told_by x).stops).0 h))
          go false h = answered false h

  pub late-listed : (x : Reading) (c : Cue) → IsText text x.text → x.cue ≡ q.cue → q.stream ≤ top_stream
      → cue_at (cues_of x.text) x.cue ≡ some c → c.position < length file
      → IsForm (wanted_id q) file c.position x.form → IsUnit (unit_of x.form) x.unit → Room x b
      → (r ≡ refuse long_instant) ↔ (TimeStays (show_of x) × TimeStays (hide_of x) → ⊥)
  late-listed x c t e s l p f u o = late x (listed-complete text file q b x c t e s l p f u o)
