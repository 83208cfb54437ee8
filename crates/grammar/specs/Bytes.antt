-- Bytes and nibbles at a place of a list, and the numbers that they make (FORMAT 5.1).
-- A place past the end reads as 0; each rule that reads one says that it is inside.
-- Assumes nothing: these are definitions.
use Rattle.std.specs.Prelude.{ℕ, zero, suc, ◌+◌, ◌*◌, ◌/◌, ◌%◌, cond, List, get_or, eqb}

-- the byte at place i
abbrev pub byte : List ℕ → ℕ → ℕ
byte s i = get_or s i 0

-- the word at place i, high byte first
unfoldable pub word : List ℕ → ℕ → ℕ
word s i = byte s i * 256 + byte s (i + 1)

-- the nibble at half-byte place p: of a byte the high half stands first
unfoldable pub nibble : List ℕ → ℕ → ℕ
nibble s p = cond (eqb (p % 2) 0) (byte s (p / 2) / 16) (byte s (p / 2)) % 16

-- the number that the k nibbles from half-byte place p make
unfoldable pub nibbles : List ℕ → ℕ → ℕ → ℕ
nibbles s p zero = 0
nibbles s p (suc k) = nibbles s p k * 16 + nibble s (p + k)
