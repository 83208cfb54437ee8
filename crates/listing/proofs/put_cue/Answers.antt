-- `listing::put_cue` meets its contract: the line of the record, or that of a refusal. Assumes nothing.
use borrow.Author.Rules.{rules}
use mathlib.Core.Path.{sym, ap, ◌∙◌}
use mir.Syntax.{w64}
use mir.Facts.{to_z-of_z}
use Rattle.outcome.specs.Outcome.{answered}
use Rattle.listing_model.proofs.Units.{shows-position, position-sides}
use Rattle.listing.proofs.put_cue.Goals as goal

pub put_shown-requires : goal.put_shown-requires
put_shown-requires c =
    let p = position-sides c.args.start.0 c.args.file.now c.args.position _ (sym (ap answered c.in-Ok.is) ∙ c.measured_at.ensures.0) in
    (p.0, p.1, c.requires)

pub returns-in-Ok-clause-put : goal.returns-in-Ok-clause-put
returns-in-Ok-clause-put c = (
  shows-position c.args.n c.args.start.0 c.args.duration c.args.file.now c.args.position _ (to_z-of_z {w = w64} (record { sfits = search rules })) _
      (sym (ap answered c.in-Ok.is) ∙ c.measured_at.ensures.0) c.put_shown.ensures.put,
  c.measured_at.ensures.1,
)
