-- A number of signed 64 bits, or that it leaves them (FORMAT 1.7, 6.7). Assumes nothing: these are definitions.
use Rattle.std.specs.Prelude.{Bool, true, false, ◌^◌, ltb, ℤ}
use Rattle.std.specs.Int.Signed.{mag}
use Rattle.std.specs.Prelude.{Option, Some as some, None as none}

abbrev pub pick {ℓ} : {A : Type ℓ} → Bool → A → A → A
pick true a b = a
pick false a b = b

-- a number stays in signed 64 bits
abbrev pub stays : ℤ → Bool
stays z = ltb (mag z) (2 ^ 63)

-- a number where it does
unfoldable pub checked : ℤ → Option ℤ
checked z = pick (stays z) (some z) none
