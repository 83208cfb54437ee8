-- `listing::title_line` meets its contract: the file's line, the index's or the cues'. Assumes nothing.
use borrow.Author.Rules.{rules}
use mathlib.Core.Path.{◌≡◌, refl, ap}
use Rattle.outcome.specs.Outcome.{answered}
use Rattle.listing_model.specs.Lines.{file_line, index_line, cues_line}
use Rattle.listing_model.specs.Title.{readable}
use mathlib.Core.Bool.{false}
use Rattle.listing_model.proofs.Table.{head-none, head-refused, head-counted, not_there, long_text, long_file, can-read}
use Rattle.listing.proofs.title_line.Goals.{then-not-there-via-then-not-there, then-not-there-via-else-not-there+then-text-gt-MOST, then-not-there-via-else-not-there+else-text-gt-MOST+then-file-gt-MOST}
use Rattle.listing.proofs.title_line.Goals as goal

pub returns-then-not-there : goal.returns-then-not-there
unfolding file_line
returns-then-not-there c =
    let a = c.args in
    let r : readable a.there a.text.now a.file.now ≡ false = elim c.then-not-there.branch [
      | then-not-there-via-then-not-there w ↦ not_there a.there a.text.now a.file.now w.if-not-there.true
      | then-not-there-via-else-not-there+then-text-gt-MOST w ↦ long_text a.there a.text.now a.file.now w.if-not-there.false w.if-text-gt-MOST.true
      | then-not-there-via-else-not-there+else-text-gt-MOST+then-file-gt-MOST w ↦ long_file a.there a.text.now a.file.now w.if-not-there.false w.if-text-gt-MOST.false w.if-file-gt-MOST.true
    ] in
    head-none a.there a.text.now a.file.now a.line.now r _ _ _ _ (search rules, refl)

pub returns-in-Err : goal.returns-in-Err
unfolding index_line
returns-in-Err c =
    let a = c.args in
    head-refused a.there a.text.now a.file.now a.line.now (can-read a.there a.text.now a.file.now c.if-not-there.false c.if-text-gt-MOST.false c.if-file-gt-MOST.false)
    c.if-text-gt-MOST.false a.starts.now a.positions.now (search rules) (search rules) _ _ _ c.parse_idx.ensures.0 _ (ap answered c.in-Err.is) _ _ (search rules, refl)

pub returns-in-Ok : goal.returns-in-Ok
unfolding cues_line
returns-in-Ok c =
    let a = c.args in
    head-counted a.there a.text.now a.file.now a.line.now (can-read a.there a.text.now a.file.now c.if-not-there.false c.if-text-gt-MOST.false c.if-file-gt-MOST.false)
    c.if-text-gt-MOST.false a.starts.now a.positions.now (search rules) (search rules) _ _ _ c.parse_idx.ensures.0 _ (ap answered c.in-Ok.is) _ _ (search rules, refl)
