-- `clock::converted` meets its contract. Assumes nothing.
use native.Mathlib.Omega.{arith}
use Prim.Native.Nat.{◌<◌, ◌^◌}
use mathlib.Core.Path.{refl}
use Rattle.grammar.specs.Times.{in_micros}
use Rattle.clock_model.proofs.Sums.{cast_is}
use Rattle.clock.proofs.converted.Goals as goal

pub returns : goal.returns
returns c =
    let h : in_micros c.args.t.0 < 2 ^ 63 = omega arith in
    cast_is _ (in_micros c.args.t.0) refl h
