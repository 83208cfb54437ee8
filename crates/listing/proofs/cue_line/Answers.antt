-- `listing::cue_line` meets its contract: the cue's times and position from the table, or no such cue. Assumes nothing.
use borrow.Author.Rules.{rules}
use native.Mathlib.Omega.{arith}
use mathlib.Core.Path.{◌≡◌, refl, ap, ◌∙◌}
use Prim.Native.Nat.{min}
use lib.IntN.{pos}
use lib.ListN.{length, get_or}
use mir.Syntax.{w64}
use mir.Val.{to_z, of_z}
use mir.Facts.{to_z-of_z}
use Rattle.clock_model.specs.Answers.{micros_count}
use Rattle.listing_model.specs.Answers.{table_of, position_line}
use Rattle.listing_model.specs.Title.{cue_line}
use Rattle.listing_model.proofs.Table.{line-none, line-last, line-next, form-none, form-some}
use Rattle.listing_model.proofs.Claim.{listed-line}
use Rattle.listing.proofs.cue_line.Goals.{After-lesser-size, then-next-size, else-next-size}
use Rattle.listing.proofs.cue_line.Goals as goal

sized : (c : After-lesser-size) → c.lesser-size.result ≡ min c.args.cues (min (length c.args.starts.now) (length c.args.positions.now))
sized c = omega (arith, c.lesser.ensures, c.lesser-size.ensures)

pub returns-then-size-n : goal.returns-then-size-n
returns-then-size-n c =
    let a = c.args in
    let s = sized (goal.at.returns-then-size-n c).After-lesser-size in
    listed-line _ a.file.now a.n {k = 210} _ _ _ (omega arith)
    (line-none a.starts.now a.positions.now a.cues a.file.now a.n _ s c.if-size-n.true)
    (search rules)
    (form-none a.starts.now a.positions.now a.cues a.file.now a.n _ s c.if-size-n.true _)

pub returns : goal.returns
returns c =
    let a = c.args in
    let s = sized (goal.at.returns c).After-lesser-size in
    let z = to_z w64 (of_z w64 (get_or a.starts.now a.n (pos 0))) in
    let p = get_or a.positions.now a.n 0 in
    let q : z ≡ get_or a.starts.now a.n (pos 0) = to_z-of_z {w = w64} (record { sfits = search rules }) in
    let e : position_line a.n z c.if-next-size.duration a.file.now p ≡ cue_line (table_of a.starts.now a.positions.now a.cues) a.file.now a.n =
    elim c.if-next-size.branch [
      | then-next-size w ↦ rw w.duration-is (line-next a.starts.now a.positions.now a.cues a.file.now a.n _ s z _ p q refl c.if-size-n.false w.if-next-size.true (to_z-of_z {w = w64} (record { sfits = search rules })) _
          (w.count_of.ensures ∙ ap micros_count w.duration_of.ensures))
      | else-next-size w ↦ rw w.duration-is (line-last a.starts.now a.positions.now a.cues a.file.now a.n _ s z (pos 0) p q refl c.if-size-n.false w.if-next-size.false)
    ] in
    listed-line _ a.file.now a.n {k = 210} _ _ _ (omega arith) e
    (search rules)
    (form-some a.starts.now a.positions.now a.cues a.file.now a.n _ s c.if-size-n.false _ _ c.put_cue.ensures.put.1)
