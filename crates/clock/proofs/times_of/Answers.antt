-- `clock::times_of` meets its contract: by the sum of the start, and by that of the stop. Assumes nothing.
use borrow.Author.Rules.{rules}
use mathlib.Core.Path.{sym}
use Rattle.clock_model.proofs.Clock.{show_leaves, hide_leaves, shown-hidden}
use Rattle.clock.proofs.times_of.Goals as goal

pub returns-in_err-show : goal.returns-in_err-show
returns-in_err-show c =
    let h = show_leaves c.args.start.0 c.args.starts c.args.stops _ (sym c.in_err-show.ensures) in
    rw (← h) (search rules)

pub returns-in_err-hide : goal.returns-in_err-hide
returns-in_err-hide c =
    let h = hide_leaves c.args.start.0 c.args.starts c.args.stops _ (sym c.in_ok-show.ensures) _ (rw c.and.ensures at (sym c.in_err-hide.ensures)) in
    rw (← h) (search rules)

pub returns : goal.returns
returns c = shown-hidden c.args.start.0 c.args.starts c.args.stops _ (sym c.in_ok-show.ensures) _ (rw c.and.ensures at (sym c.in_ok-hide.ensures))
