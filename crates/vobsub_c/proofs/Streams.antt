-- Other streams change nothing of what the exported functions return and leave. Assumes nothing.
use Prim.Native.Nat.{ℕ}
use mathlib.Core.Path.{sym, ap, ◌∙◌}
use mathlib.Core.List.{List}
use lib.IntN.{ℤ}
use lib.ListN.{length}
use lib.Seq.{sets}
use Rattle.outcome.specs.Outcome.{Res, refusal_of}
use Rattle.vobsub_numbers.specs.Numbers.{shown_numbers, shown_times}
use Rattle.grammar.specs.Packets.{Form}
use Rattle.grammar.specs.Reading.{Wanted, Reading}
use Rattle.grammar.proofs.Streams.{readings_same}
use Rattle.ps_model.specs.Answers.{unit_given, unit_stored}
use Rattle.ps_model.proofs.Streams.{stream_same}
use Rattle.vobsub_model.specs.Call.{Lent, Found}
use Rattle.vobsub_model.specs.Answers.{canvas_answer, scratch_of, pixels_of, painted_of}
use Rattle.vobsub_model.proofs.Streams.{found-same, reading-same}
use Rattle.vobsub_c.specs.Answers.{or_before, unit_length, unit_joined, UnitExtracted, UnitUndisturbed, CueDecoded, CueUndisturbed}

-- the equation with the claim, as the contract has both
pub unit_kept : (f : List ℕ) (p n : ℕ) (s : List ℕ) (l j r : ℕ) (s' : List ℕ) (l' j' : ℕ)
    → UnitExtracted f p n s l j r s' l' j'
    → UnitExtracted f p n s l j r s' l' j' × UnitUndisturbed f p n s l j r s' l' j'
unit_kept f p n s l j r s' l' j' x = (
  x,
  λ g ps w a t s'' l'' j'' y.
      let q = stream_same n f g p ps w a (length s) in
      record {
        refusal = x.refusal ∙ ap (λ (z : Res Form). refusal_of (unit_given z)) q ∙ sym y.refusal;
        stores = x.stores ∙ ap (λ (z : Res Form). sets s 0 (unit_stored z)) q ∙ sym y.stores;
        long = x.long ∙ ap (λ (z : Res Form). or_before unit_length (unit_given z) l) q ∙ sym y.long;
        where_is = x.where_is ∙ ap (λ (z : Res Form). or_before unit_joined (unit_given z) j) q ∙ sym y.where_is;
      },
)

pub cue-kept : (text f : List ℕ) (q : Wanted) (b : Lent) (zs : List ℤ) (ns : List ℕ) (r : ℕ) (b' : Lent) (zs' : List ℤ) (ns' : List ℕ)
    → CueDecoded text f q b zs ns r b' zs' ns'
    → CueDecoded text f q b zs ns r b' zs' ns' × CueUndisturbed text f q b zs ns r b' zs' ns'
cue-kept text f q b zs ns r b' zs' ns' x = (
  x,
  λ g ls c ps i e w a t b'' zs'' ns'' y.
      let d = found-same text f g q ls c ps i e w a (length b.scratch) in
      let o = reading-same text f g q ls c ps i e w a b in
      record {
        readings = readings_same text q ls c i e f g ps w a;
        refusal = x.refusal ∙ ap (λ (v : Res Reading). refusal_of (canvas_answer v)) o ∙ sym y.refusal;
        timed = x.timed ∙ ap (λ (v : Res Reading). or_before shown_times (canvas_answer v) zs) o ∙ sym y.timed;
        told = x.told ∙ ap (λ (v : Res Reading). or_before shown_numbers (canvas_answer v) ns) o ∙ sym y.told;
        scratch = x.in_scratch ∙ ap (λ (v : Res Found). sets b.scratch 0 (scratch_of v)) d ∙ sym y.in_scratch;
        pixels = x.in_pixels ∙ ap (λ (v : Res Reading). sets b.pixels 0 (pixels_of v)) o ∙ sym y.in_pixels;
        canvas = x.in_canvas ∙ ap (λ (v : Res Reading). sets b.canvas 0 (painted_of v)) o ∙ sym y.in_canvas;
      },
)
