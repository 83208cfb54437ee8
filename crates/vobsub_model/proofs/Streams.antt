-- Other streams change nothing of a cue: files that differ in packets of other streams on the cue's walk alone give it
-- the same readings, the same answer and the same buffers. Assumes nothing.
use Prim.Native.Nat.{ℕ}
use mathlib.Core.Path.{◌≡◌, sym, ap, ◌∙◌}
use Rattle.std.specs.Prelude.{Some as some}
use mathlib.Core.List.{List, []}
use lib.ListN.{length}
use lib.Seq.{sets}
use lib.Dec.{leb}
use Rattle.outcome.specs.Outcome.{Res, check, and_then, map_res, bad_stream}
use Rattle.grammar.specs.Index.{ListedText, IsText}
use Rattle.grammar.specs.IndexCues.{Cue, cues_of, cue_at}
use Rattle.grammar.specs.Packets.{Packet, Form, unit_of, top_stream}
use Rattle.grammar.specs.Streams.{Walk, Alike}
use Rattle.grammar.specs.Reading.{Wanted, wanted_id, Reading, told_by, reading_start}
use Rattle.grammar.proofs.Streams.{readings_same}
use Rattle.idx_model.proofs.Grammar.{text_iff}
use Rattle.ps_model.specs.Unit.{unit_at, with_scratch}
use Rattle.ps_model.proofs.Streams.{form_same}
use Rattle.clock_model.specs.Clock.{told_stay, in_time}
use Rattle.vobsub_model.specs.Call.{Lent, Found, found, found_for, canvas_in, reading, listed_in, reading_in}
use Rattle.vobsub_model.specs.Answers.{canvas_answer, scratch_of, pixels_of, painted_of, CuePainted}
use Rattle.vobsub_model.specs.Claim.{Undisturbed}
use Rattle.vobsub_model.specs.declared.Shown.{Shown}

module _ (text file other : List ℕ) (q : Wanted) (index : ListedText) (c : Cue) (ps : List Packet)
    (text_is : IsText text index) (cue : cue_at (cues_of index) q.cue ≡ some c)
    (walk : Walk (wanted_id q) file c.position [] ps) (alike : Alike q.stream file other ps) where
  pub found-same : (n : ℕ) → found_for text file q n ≡ found_for text other q n
  unfolding found_for unit_at
  found-same n =
      rw ((text_iff text index).1 text_is, cue)
      (ap (λ (m : Res Form). check (leb q.stream top_stream) bad_stream (map_res (found index) (with_scratch n m)))
      (form_same q.stream file other c.position ps walk alike))

  pub reading-same : (b : Lent) → reading_in text file q b ≡ reading_in text other q b
  unfolding reading_in listed_in
  reading-same b =
      ap
      (λ (x : Res Found).
      in_time (λ y. told_stay (reading_start y) (told_by y))
      (and_then x (λ f. map_res (reading q f) (canvas_in (unit_of f.form) (length b.pixels) (length b.canvas)))))
      (found-same (length b.scratch))

pub undisturbed : (text file : List ℕ) (q : Wanted) (b : Lent) (r : Res Shown) (b' : Lent)
    → CuePainted text file q b r b' → Undisturbed text file q b r b'
undisturbed text file q b r b' x other index c ps l e w a t b'' y =
    let f = found-same text file other q index c ps l e w a (length b.scratch) in
    let g = reading-same text file other q index c ps l e w a b in
    record {
      readings = readings_same text q index c l e file other ps w a;
      answer = x.answer ∙ ap canvas_answer g ∙ sym y.answer;
      scratch = x.in_scratch ∙ ap (λ (z : Res Found). sets b.scratch 0 (scratch_of z)) f ∙ sym y.in_scratch;
      pixels = x.in_pixels ∙ ap (λ (z : Res Reading). sets b.pixels 0 (pixels_of z)) g ∙ sym y.in_pixels;
      canvas = x.in_canvas ∙ ap (λ (z : Res Reading). sets b.canvas 0 (painted_of z)) g ∙ sym y.in_canvas;
    }
