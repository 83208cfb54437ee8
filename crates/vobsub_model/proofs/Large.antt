-- The call returns 41 exactly where the first faulty line of the text has a position above what is stored, whatever cue
-- and stream are asked for; and a text with such a line anywhere is refused, and all that is lent is as found.
-- Assumes nothing.
use Prim.Native.Nat.{ℕ, ◌*◌}
use native.Mathlib.Omega.{arith}
use mathlib.Core.Path.{◌≡◌, refl, sym, ap, ◌∙◌, subst}
use mathlib.Core.Logic.{◌↔◌}
use mathlib.Core.List.{List}
use lib.Dec.{leb}
use lib.ListN.{length}
use lib.Seq.{sets}
use Rattle.outcome.specs.Outcome.{Res, ok, refuse, RefusedWith, need, large_position, bad_stream, no_cue, short_pixels, short_canvas, no_top_field, field_ran_out, long_instant}
use Rattle.outcome.proofs.Numbers.{after-41, check-numbered, need-numbered, and_then-numbered, map_res-numbered}
use Rattle.grammar.specs.Index.{Said, LargeIn, FirstLarge, ListedText}
use Rattle.grammar.specs.IndexCues.{cues_of, cue_at}
use Rattle.grammar.specs.Packets.{unit_of, top_stream}
use Rattle.grammar.specs.Record.{told, width, height}
use Rattle.grammar.specs.Reading.{Wanted, wanted_id, Reading, told_by, reading_start}
use Rattle.grammar.proofs.Positions.{large_text}
use Rattle.clock_model.specs.Clock.{told_stay}
use Rattle.control_model.specs.Few.{few_at}
use Rattle.control_model.proofs.Refusals.{few_with}
use Rattle.idx_model.specs.Text.{idx_of}
use Rattle.idx_model.proofs.Grammar.{text_iff}
use Rattle.idx_model.proofs.Large.{text_large}
use Rattle.ps_model.specs.Unit.{unit_at}
use Rattle.ps_model.proofs.Refusals.{unit-with}
use Rattle.spu_model.specs.Unit.{rows_at, listed_unit}
use Rattle.spu_model.proofs.Refusals.{rows-with}
use Rattle.vobsub_model.specs.Call.{Lent, Found, found, found_for, canvas_in, reading, listed_in, reading_in}
use Rattle.vobsub_model.specs.Answers.{canvas_answer, scratch_of, pixels_of, painted_of, CuePainted}
use Rattle.vobsub_model.specs.Claim.{Gives}
use Rattle.vobsub_model.specs.declared.Shown.{Shown}

-- any number but 41, as after a text that is listed
abbrev Not41 : ℕ → Type 0
Not41 n = n ≡ large_position → ⊥

module _ (text file : List ℕ) (q : Wanted) (b : Lent) where
  found-others : (t : ListedText) → idx_of text ≡ ok t → (n : ℕ) → RefusedWith Not41 (found_for text file q n)
  unfolding found_for
  found-others t e n =
      rw e
      (check-numbered Not41 (leb q.stream top_stream) bad_stream _ (after-41 bad_stream refl)
      (and_then-numbered Not41 (need no_cue (cue_at (cues_of t) q.cue)) _
      (need-numbered Not41 no_cue (cue_at (cues_of t) q.cue) (after-41 no_cue refl))
      (λ c. map_res-numbered Not41 (found t) (unit_at (wanted_id q) file c.position n)
      (unit-with (wanted_id q) file c.position Not41 after-41 n))))

  canvas_others : (u : List ℕ) (n k : ℕ) → RefusedWith Not41 (canvas_in u n k)
  unfolding canvas_in
  canvas_others u n k =
      and_then-numbered Not41 (few_at u) _ (few_with Not41 after-41 u)
      (λ bs.
      check-numbered Not41 (leb (width (told bs) * height (told bs)) n) short_pixels _ (after-41 short_pixels refl)
      (check-numbered Not41 (leb (4 * (width (told bs) * height (told bs))) k) short_canvas _
      (after-41 short_canvas refl)
      (map_res-numbered Not41 (listed_unit bs) (rows_at u (told bs))
      (rows-with Not41 (after-41 no_top_field refl) (after-41 field_ran_out refl) u (told bs)))))

  reading-others : (t : ListedText) → idx_of text ≡ ok t → RefusedWith Not41 (reading_in text file q b)
  unfolding reading_in listed_in
  reading-others t e =
      and_then-numbered Not41 (listed_in text file q b) _
      (and_then-numbered Not41 (found_for text file q (length b.scratch)) _ (found-others t e (length b.scratch))
      (λ f. map_res-numbered Not41 (reading q f) (canvas_in (unit_of f.form) (length b.pixels) (length b.canvas))
      (canvas_others (unit_of f.form) (length b.pixels) (length b.canvas))))
      (λ x.
      check-numbered Not41 (told_stay (reading_start x) (told_by x)) long_instant (ok x) (after-41 long_instant refl) tt)

  pub call_large : (r : Res Shown) (b' : Lent) → CuePainted text file q b r b'
      → (r ≡ refuse large_position) ↔ ((ls : List Said) × FirstLarge text ls)
  unfolding reading_in listed_in found_for
  call_large r b' d = (
    λ e. to (idx_of text) refl e,
    λ h.
        let g : reading_in text file q b ≡ refuse large_position = rw ((text_large text).1 h) in
        d.answer ∙ ap canvas_answer g,
  )
    where
      another : (x : Res Reading) → RefusedWith Not41 x → refuse large_position ≡ canvas_answer x → ⊥
      another (ok x) o e = let z : ◌≡◌ {A = ℕ} 0 1 = cc e in omega arith
      another (refuse n) o e = let z : large_position ≡ n = cc e in o (sym z)

      same : (n m : ℕ) → ◌≡◌ {A = Res Shown} (refuse n) (refuse m) → n ≡ m
      same n m e = cc e

      to : (x : Res ListedText) → idx_of text ≡ x → r ≡ refuse large_position
          → (ls : List Said) × FirstLarge text ls
      to (ok t) f e = absurd (another (reading_in text file q b) (reading-others t f) (sym e ∙ d.answer))
      to (refuse n) f e =
          let g : reading_in text file q b ≡ refuse n = rw f in
          let z : large_position ≡ n = same large_position n (sym e ∙ d.answer ∙ ap canvas_answer g) in
          (text_large text).0 (f ∙ ap refuse (sym z))

  -- a text that has such a line anywhere is refused, and nothing is written, not even to scratch
  pub large_unpainted : LargeIn text → (r : Res Shown) (b' : Lent) → CuePainted text file q b r b'
      → (Gives r → ⊥) × (b'.scratch ≡ b.scratch) × (b'.pixels ≡ b.pixels) × (b'.canvas ≡ b.canvas)
  unfolding reading_in listed_in found_for
  large_unpainted h r b' d = go (idx_of text) refl
    where
      none : (n : ℕ) → r ≡ refuse n → Gives r → ⊥
      none n e g = subst Gives e g

      go : (x : Res ListedText) → idx_of text ≡ x
          → (Gives r → ⊥) × (b'.scratch ≡ b.scratch) × (b'.pixels ≡ b.pixels) × (b'.canvas ≡ b.canvas)
      go (ok t) f = absurd (large_text text h t ((text_iff text t).0 f))
      go (refuse n) f =
          let g : reading_in text file q b ≡ refuse n = rw f in
          let k : found_for text file q (length b.scratch) ≡ refuse n = rw f in (
            none n (d.answer ∙ ap canvas_answer g),
            d.in_scratch ∙ ap (λ (x : Res Found). sets b.scratch 0 (scratch_of x)) k,
            d.in_pixels ∙ ap (λ (x : Res Reading). sets b.pixels 0 (pixels_of x)) g,
            d.in_canvas ∙ ap (λ (x : Res Reading). sets b.canvas 0 (painted_of x)) g,
          )
