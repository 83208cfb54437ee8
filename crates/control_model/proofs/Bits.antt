-- Numbers of three nibbles, by the bytes that hold them. Assumes nothing.
use Prim.Native.Nat.{ℕ, ◌+◌, ◌*◌, ◌/◌, ◌%◌, ◌<◌}
use native.Mathlib.Omega.{arith}
use mathlib.Core.Path.{◌≡◌}
use mathlib.Core.List.{List}
use borrow.Author.Tests.{eq-eqb, ne_eqb}
use Rattle.grammar.specs.Bytes.{byte, word, nibble, nibbles}

module _ (u : List ℕ) (q : ℕ) where
  nibble-high : (p : ℕ) → p ≡ 2 * q → byte u q < 256 → nibble u p ≡ byte u q / 16
  unfolding nibble
  nibble-high p e h =
      let d : p / 2 ≡ q = omega arith in
      let m : p % 2 ≡ 0 = omega arith in
      rw (d, eq-eqb (p % 2) 0 m) (omega arith)

  nibble-low : (p : ℕ) → p ≡ 2 * q + 1 → nibble u p ≡ byte u q % 16
  unfolding nibble
  nibble-low p e =
      let d : p / 2 ≡ q = omega arith in
      rw (d, ne_eqb (p % 2) 0 (λ m. omega arith))

pub twelve-from : (u : List ℕ) (q : ℕ) → byte u q < 256 → byte u (q + 1) < 256 → word u q / 16 ≡ nibbles u (2 * q) 3
unfolding nibbles word
twelve-from u q h k = omega (arith, nibble-high u q (2 * q + 0) (omega arith) h, nibble-low u q (2 * q + 1) (omega arith), nibble-high u (q + 1) (2 * q + 2) (omega arith) k)

pub twelve_to : (u : List ℕ) (q : ℕ) → byte u (q + 1) < 256 → word u q % 4096 ≡ nibbles u (2 * q + 1) 3
unfolding nibbles word
twelve_to u q k = omega (arith, nibble-low u q (2 * q + 1 + 0) (omega arith), nibble-high u (q + 1) (2 * q + 1 + 1) (omega arith) k, nibble-low u (q + 1) (2 * q + 1 + 2) (omega arith))
