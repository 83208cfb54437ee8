-- What the call gives with an index of no bytes (FORMAT 1.13), in the grammar's words. Assumes nothing.
use mathlib.Core.Path.{◌≡◌, sym, ap, ◌∙◌, subst}
use Rattle.std.specs.Prelude.{None as none}
use mathlib.Core.List.{List, []}
use Prim.Native.Nat.{ℕ}
use lib.IntN.{pos}
use lib.Seq.{sets}
use Rattle.outcome.specs.Outcome.{Res, ok}
use Rattle.grammar.specs.Index.{greys}
use Rattle.grammar.specs.Packets.{Form, IsForm, unit_of}
use Rattle.grammar.specs.Picture.{ListedUnit, IsUnit}
use Rattle.grammar.specs.Reading.{Wanted, wanted_id, unit_canvas}
use Rattle.grammar.proofs.NoBytes.{no_bytes-reading}
use Rattle.idx_model.specs.Answers.{duration_in}
use Rattle.vobsub_model.specs.Call.{Lent}
use Rattle.vobsub_model.specs.Answers.{CuePainted}
use Rattle.vobsub_model.specs.Claim.{Gives}
use Rattle.vobsub_model.specs.declared.Shown.{Shown}
use Rattle.vobsub_model.proofs.Claim.{claim}

-- a canvas is that of cue 0 and of a unit that the grammar lists at the file's front, in greys, from time 0 on
pub painted-grey : (file : List ℕ) (q : Wanted) (b : Lent) (r : Res Shown) (b' : Lent) → CuePainted [] file q b r b'
    → (s : Shown) → r ≡ ok s
    → (q.cue ≡ 0) × (s.start.0 ≡ pos 0) × (s.duration ≡ none)
    × ((m : Form) × (u : ListedUnit) × IsForm (wanted_id q) file 0 m × IsUnit (unit_of m) u
    × (b'.canvas ≡ sets b.canvas 0 (unit_canvas greys u)))
painted-grey file q b r b' d s p =
    let c = claim [] file q b r b' d in
    let g = subst Gives (sym p) tt in
    let w = c.exactly_when.0 g in
    let n = no_bytes-reading file q w.0 w.1 in
    let e = c.same w.0 w.1 g in
    let z : ok s ≡ ok e.says = sym p ∙ e.paints in
    let y : s ≡ e.says = cc z in (
      n.1,
      ap (λ (t : Shown). t.start.0) y ∙ e.start ∙ n.3,
      ap (λ (t : Shown). t.duration) y ∙ e.duration ∙ ap duration_in n.4,
      (w.0.form, w.0.unit, n.2, w.1.unit_is, e.in_canvas ∙ ap (sets b.canvas 0) n.5),
    )
