-- What the reader of nibbles finds at a half-byte count of a field, and the counts that it goes to. Assumes nothing: these are definitions.
use Rattle.std.specs.Prelude.{ℕ, ◌+◌, ◌-◌, ◌*◌, ◌^◌, cond, List, eqb, ltb, length}
use Rattle.outcome.specs.Outcome.{Res, ok, check, field_ran_out}
use Rattle.grammar.specs.Bytes.{nibble}
use Rattle.grammar.specs.Rows.{align}

-- the nibble at half byte p (FORMAT 5.1), or refusal 26 where the field ran out
abbrev pub nibble_at : List ℕ → ℕ → Res ℕ
nibble_at s p = check (ltb p (2 * length s)) field_ran_out (ok (nibble s p))

-- the count after a read at p: where the field ran out it stays
abbrev pub past_nibble : List ℕ → ℕ → ℕ
past_nibble s p = cond (ltb p (2 * length s)) (p + 1) p

-- the first count from p on that starts a byte (FORMAT 5.6); the largest of 64 bits, after which there is none, stays (FORMAT 5.10)
abbrev pub on_byte : ℕ → ℕ
on_byte p = cond (eqb p (2 ^ 64 - 1)) p (align p)
