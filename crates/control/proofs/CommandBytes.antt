-- The bytes of commands. Assumes nothing.
use native.Mathlib.Omega.{arith}
use Prim.Native.Nat.{◌<◌}
use mathlib.Core.Path.{◌≡◌, refl}
use Rattle.control.specs.CommandBytes.{byte_of}
use Rattle.control.specs.declared.CommandKind.{CommandKind}

-- all but a colour change are below 7
pub plain-byte : (k : CommandKind) → (k ≡ CommandKind.Colours → ⊥) → byte_of k < 7
plain-byte CommandKind.ForcedStart n = omega arith
plain-byte CommandKind.Start n = omega arith
plain-byte CommandKind.Stop n = omega arith
plain-byte CommandKind.Selectors n = omega arith
plain-byte CommandKind.Alphas n = omega arith
plain-byte CommandKind.Area n = omega arith
plain-byte CommandKind.Offsets n = omega arith
plain-byte CommandKind.Colours n = absurd (n refl)
