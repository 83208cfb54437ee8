-- `idx_numbers::unsigned` meets its contract: by the first byte. Assumes nothing.
use native.Mathlib.Omega.{arith}
use mathlib.Core.Path.{refl, ◌∙◌}
use Prim.Native.Nat.{◌+◌, ◌*◌}
use Rattle.idx_numbers_model.proofs.Numbers.{unsigned-none, unsigned-plus, unsigned-plain}
use Rattle.idx_numbers.proofs.unsigned.Goals as goal

pub returns-then-s-eq0 : goal.returns-then-s-eq0
returns-then-s-eq0 g c = unsigned-none g.row.BASE (c.args.most * g.row.BASE + c.args.last) c.args.s.now (omega arith)

pub returns-then-s-eq43 : goal.returns-then-s-eq43
returns-then-s-eq43 g c =
    c.whole.ensures g.row.BASE (c.args.most * g.row.BASE + c.args.last) _ c.requires.some_base c.digits.ensures refl
    ∙ unsigned-plus g.row.BASE (c.args.most * g.row.BASE + c.args.last) c.args.s.now (omega arith) c.if-s-eq43.true

pub returns : goal.returns
returns g c =
    c.whole-2.ensures g.row.BASE (c.args.most * g.row.BASE + c.args.last) _ c.requires.some_base c.digits-2.ensures refl
    ∙ unsigned-plain g.row.BASE (c.args.most * g.row.BASE + c.args.last) c.args.s.now (omega arith) c.if-s-eq43.false
