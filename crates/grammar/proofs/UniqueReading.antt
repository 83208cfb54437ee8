-- No two readings of the same files for one cue and stream. Assumes nothing.
use Prim.Native.Nat.{ℕ}
use mathlib.Core.Path.{◌≡◌, sym, ap₂, ◌∙◌}
use Rattle.std.specs.Prelude.{Some as some}
use mathlib.Core.List.{List}
use Rattle.grammar.specs.Index.{ListedText}
use Rattle.grammar.specs.IndexCues.{cues_of, cue_at}
use Rattle.grammar.specs.Packets.{unit_of}
use Rattle.grammar.specs.Reading.{Wanted, wanted_id, Reading, IsReading}
use Rattle.grammar.proofs.UniqueIndex.{text_unique}
use Rattle.grammar.proofs.UniqueControl.{unit-unique}
use Rattle.grammar.proofs.UniquePackets.{form_unique}

pub no_two : (text file : List ℕ) (q : Wanted) (r s : Reading) → IsReading text file q r → IsReading text file q s → r ≡ s
no_two text file q r s h k =
    let l : r.text ≡ s.text = text_unique text r.text s.text h.text_is k.text_is in
    let n : r.cue ≡ s.cue = h.cue_is ∙ sym k.cue_is in
    let c' : some h.at ≡ some k.at = sym h.listed ∙ ap₂ (λ (t : ListedText) (m : ℕ). cue_at (cues_of t) m) l n ∙ k.listed in
    let c : h.at ≡ k.at = cc c' in
    let f : r.form ≡ s.form = form_unique (wanted_id q) file h.at.position r.form s.form h.form_is (rw c k.form_is) in
    let u : r.unit ≡ s.unit = unit-unique (unit_of r.form) r.unit s.unit h.unit_is (rw f k.unit_is) in
    λ t. record { text = l t; cue = n t; form = f t; unit = u t }
