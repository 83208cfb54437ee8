-- Where the grammar lists the text, the cue, its unit's form and blocks, with room in scratch, and the picture has a
-- size, 34 is returned exactly where the unit has more than 32 bands. Assumes nothing.
use Prim.Native.Nat.{ℕ, ◌*◌, ◌≤◌, ◌<◌}
use native.Mathlib.Omega.{arith}
use mathlib.Core.Path.{◌≡◌, sym, ap, ◌∙◌}
use mathlib.Core.Logic.{◌↔◌, ⊎_elim}
use Rattle.std.specs.Prelude.{Some as some}
use mathlib.Core.List.{List}
use lib.Dec.{leb}
use lib.ListN.{length}
use borrow.Author.Tests.{le-leb}
use Rattle.outcome.specs.Outcome.{Res, ok, refuse, RefusedWith, many_bands, short_pixels, short_canvas, long_instant}
use Rattle.outcome.proofs.Laws.{le_or_lt}
use Rattle.outcome.proofs.Numbers.{check-numbered, and_then-numbered, map_res-numbered}
use Rattle.grammar.specs.Bands.{most_bands}
use Rattle.grammar.specs.Control.{Block, IsChain}
use Rattle.grammar.specs.Index.{ListedText, IsText}
use Rattle.grammar.specs.IndexCues.{Cue, cues_of, cue_at}
use Rattle.grammar.specs.Packets.{Form, IsForm, unit_of, scratch_for, top_stream}
use Rattle.grammar.specs.Record.{told, width, height}
use Rattle.grammar.specs.Reading.{Wanted, wanted_id, Reading, told_by, reading_start}
use Rattle.clock_model.specs.Clock.{told_stay}
use Rattle.control_model.proofs.Few.{few_iff, few_refused}
use Rattle.idx_model.proofs.Grammar.{text_iff}
use Rattle.ps_model.proofs.Grammar.{form_iff}
use Rattle.ps_model.proofs.Claim.{unit-complete}
use Rattle.spu_model.specs.Unit.{rows_at, listed_unit}
use Rattle.spu_model.proofs.Refusals.{rows-with}
use Rattle.spu_model.proofs.Many.{Other, control-is}
use Rattle.vobsub_model.specs.Call.{Lent, found, found_for, canvas_in, reading, listed_in, reading_in}
use Rattle.vobsub_model.specs.Answers.{canvas_answer, CuePainted}
use Rattle.vobsub_model.specs.declared.Shown.{Shown}

module _ (text file : List ℕ) (q : Wanted) (b : Lent) (r : Res Shown) (b' : Lent) (d : CuePainted text file q b r b')
    (t : ListedText) (c : Cue) (m : Form) (bs : List Block)
    (is_text : IsText text t) (stream : q.stream ≤ top_stream) (is_cue : cue_at (cues_of t) q.cue ≡ some c)
    (before : c.position < length file) (is_form : IsForm (wanted_id q) file c.position m) (room : scratch_for m ≤ length b.scratch)
    (chain : IsChain (unit_of m) bs) (wide : (told bs).at.x1 ≤ (told bs).at.x2) (high : (told bs).at.y1 ≤ (told bs).at.y2) where
  found-is : found_for text file q (length b.scratch) ≡ ok (found t m)
  unfolding found_for
  found-is =
      rw (
        (text_iff text t).1 is_text,
        le-leb q.stream top_stream stream,
        is_cue,
        unit-complete (wanted_id q) file c.position (length b.scratch) m ((form_iff (wanted_id q) file c.position m).1 (before, is_form)) room,
      )

  module _ (few : length (told bs).bands ≤ most_bands) where
    canvas_others : (n k : ℕ) → RefusedWith Other (canvas_in (unit_of m) n k)
    unfolding canvas_in
    canvas_others n k =
        rw ((few_iff (unit_of m) bs).1 (control-is (unit_of m) bs chain wide high, few))
        (check-numbered Other (leb (width (told bs) * height (told bs)) n) short_pixels _ (λ e. omega arith)
        (check-numbered Other (leb (4 * (width (told bs) * height (told bs))) k) short_canvas _ (λ e. omega arith)
        (map_res-numbered Other (listed_unit bs) (rows_at (unit_of m) (told bs)) (rows-with Other (λ e. omega arith) (λ e. omega arith) (unit_of m) (told bs)))))

    listed-others : RefusedWith Other (listed_in text file q b)
    unfolding listed_in
    listed-others =
        rw found-is
        (map_res-numbered Other (reading q (found t m)) (canvas_in (unit_of m) (length b.pixels) (length b.canvas)) (canvas_others (length b.pixels) (length b.canvas)))

    others : RefusedWith Other (reading_in text file q b)
    unfolding reading_in
    others =
        and_then-numbered Other (listed_in text file q b) _ listed-others
        (λ x. check-numbered Other (told_stay (reading_start x) (told_by x)) long_instant (ok x) (λ e. omega arith) tt)

  pub many-listed : (r ≡ refuse many_bands) ↔ (most_bands < length (told bs).bands)
  unfolding reading_in listed_in canvas_in
  many-listed = (
    λ e. ⊎_elim (λ h. absurd (go (reading_in text file q b) (others h) (sym e ∙ d.answer))) (λ h. h) (le_or_lt (length (told bs).bands) most_bands),
    λ h.
        let g : reading_in text file q b ≡ refuse many_bands = rw (found-is, few_refused (unit_of m) bs (control-is (unit_of m) bs chain wide high) h) in
        d.answer ∙ ap canvas_answer g,
  )
    where
      go : (x : Res Reading) → RefusedWith Other x → refuse many_bands ≡ canvas_answer x → ⊥
      go (ok x) o e = let z : ◌≡◌ {A = ℕ} 0 1 = cc e in omega arith
      go (refuse n) o e = let z : many_bands ≡ n = cc e in o (sym z)
