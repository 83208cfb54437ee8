-- `vobsub::Style::paint_line` meets its contract: a line that no band spans has the unit's own four colours. Assumes nothing.
use mathlib.Core.Path.{sym, ap, ◌∙◌}
use mathlib.Core.List.{List}
use Prim.Native.Nat.{ℕ}
use lib.Seq.{sets}
use Rattle.vobsub_model.specs.Paint.{look_is, word_look, table_line}
use Rattle.vobsub_model.proofs.Painting.{table_line_lem, line-own}
use Rattle.vobsub.proofs.Style.paint_line.Goals as goal

pub returns : goal.returns
returns c =
    let s = c.args.self.now in
    let own = look_is s.own.selectors s.own.alphas in
    c.paint_plain.ensures
    ∙ ap (λ (t : List ℕ). sets c.args.canvas.now c.args.at (table_line t c.args.row.now)) c.requires.2
    ∙ ap (sets c.args.canvas.now c.args.at) (table_line_lem s.palette own (word_look s.words.now own) c.args.place.x c.args.place.y c.args.row.now (line-own s.words.now own c.args.place.y (sym c.spans_line.ensures ∙ c.if-spans_line.false)))
