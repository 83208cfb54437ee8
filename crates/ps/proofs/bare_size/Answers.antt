-- `ps::bare_size` meets its contract: by each condition in turn. Assumes nothing.
use native.Mathlib.Omega.{arith}
use mathlib.Core.Path.{◌∙◌, refl}
use Prim.Native.Nat.{◌+◌}
use Rattle.ps_model.proofs.PacketGrammar.{word_at}
use Rattle.ps_model.proofs.Unit.{bare-few, bare-small, bare-long, bare-yes}
use Rattle.ps.proofs.bare_size.Goals as goal

pub returns-then-file-at-lt4 : goal.returns-then-file-at-lt4
returns-then-file-at-lt4 c = let h = c.requires in bare-few c.args.file.now c.args.at (omega (arith, c.if-file-at-lt4.true))

pub returns-then-size-lt4 : goal.returns-then-size-lt4
returns-then-size-lt4 c =
    let h = c.requires in let l = c.if-file-at-lt4.false in let e = c.word_of-size.ensures ∙ word_at c.args.file.now c.args.at (c.args.at + 1) refl in bare-small c.args.file.now c.args.at (omega arith) (omega (arith, c.if-size-lt4.true))

pub returns-then-file-at : goal.returns-then-file-at
returns-then-file-at c =
    let h = c.requires in let l = c.if-file-at-lt4.false in let e = c.word_of-size.ensures ∙ word_at c.args.file.now c.args.at (c.args.at + 1) refl in bare-long c.args.file.now c.args.at (omega arith) (omega (arith, c.if-size-lt4.false)) (omega (arith, c.if-file-at.true))

pub returns : goal.returns
returns c =
    let h = c.requires in let l = c.if-file-at-lt4.false in let e = c.word_of-size.ensures ∙ word_at c.args.file.now c.args.at (c.args.at + 1) refl in rw e (bare-yes c.args.file.now c.args.at (omega arith) (omega (arith, c.if-size-lt4.false)) (omega (arith, c.if-file-at.false)))
