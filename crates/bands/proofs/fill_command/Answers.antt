-- `bands::fill_command` meets its contract: by its byte. Assumes nothing.
use native.Mathlib.Omega.{arith}
use Prim.Native.Nat.{◌+◌}
use Rattle.control_model.proofs.Fill.{order-plain, plain_filled}
use mathlib.Core.Path.{ap}
use Rattle.grammar.specs.Control.{size_of}
use Rattle.control_model.proofs.Grammar.{order_sound}
use Rattle.bands.proofs.fill_command.Goals as goal

pub overflow_add-result : goal.overflow_add-result
overflow_add-result c =
    let s = order_sound _ _ c.args.blocks.inside _ _ c.requires.1.0 c.requires.1.1 in
    let w = s.within in
    let q = ap size_of (order-plain c.args.blocks.unit.now c.args.blocks.end (c.args.at + 1) _ c.requires.1.0 (omega arith) c.requires.1.1) in
    omega (arith, w, q, c.taken-size.ensures c.args.blocks.unit.now (c.args.at + 1))

pub returns : goal.returns
returns c = λ o e. plain_filled c.args.blocks.unit.now c.args.blocks.end (c.args.at + 1) _ _ _ o _ c.args.blocks.inside (omega arith) (c.taken-size.ensures _ _) e
