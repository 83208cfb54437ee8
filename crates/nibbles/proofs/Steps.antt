-- The law by which a goal of `nibble_at` closes with no answer, so that no answer cites a name that goes by the test of `pos`. Assumes nothing.
use Prim.Native.Nat.{ℕ, ◌/◌, ◌%◌, ◌<◌}
use mathlib.Core.Path.{◌≡◌, ap}
use mathlib.Core.List.{List}
use native.Mathlib.Omega.{arith}
use lib.ListN.{length, get_or}
use Rattle.outcome.specs.Outcome.{ok}
use Rattle.rle_model.specs.Nibbles.{nibble_at}
use Rattle.rle_model.proofs.Nibbles.{inside, nibble-high}

-- of a byte the high half stands at the even count
pub high : (s : List ℕ) (p : ℕ) → p / 2 < length s → get_or s (p / 2) 0 < 256 → p % 2 ≡ 0 → nibble_at s p ≡ ok (get_or s (p / 2) 0 / 16)
high s p h b e = rw (inside p (length s) h) (ap ok (omega (arith, nibble-high s p e, b)))
