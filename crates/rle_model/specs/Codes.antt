-- The code at a place, the codes of a row and the rows of a field, as functions of the bytes; or refusal 26 where the field runs out.
-- A field is the bytes of u before place e. Assumes nothing: these are definitions.
use Rattle.std.specs.Prelude.{ℕ, zero, suc, ◌+◌, ◌-◌, ◌*◌, ◌^◌, Bool, cond, List, [], ◌∷◌, leb, eqb}
use Rattle.outcome.specs.Outcome.{Res, ok, check, and_then, cons_res, listed_by, field_ran_out}
use Rattle.outcome.specs.Lists.{list_from, read_from}
use Rattle.grammar.specs.Bytes.{nibbles}
use Rattle.grammar.specs.Rows.{Code, code, paints, after_codes, align}

-- the code of k nibbles at half byte p
abbrev pub made : List ℕ → ℕ → ℕ → Code
made u p k = code p k (nibbles u p k)

-- the code at p, where it has k nibbles or up to j more: the first length k at which the nibbles make 4^k or more, or the last (FORMAT 5.2)
unfoldable pub code_from : List ℕ → ℕ → ℕ → ℕ → ℕ → Res Code
code_from u e p zero k = check (leb (p + k) (2 * e)) field_ran_out (ok (made u p k))
code_from u e p (suc j) k =
    check (leb (p + k) (2 * e)) field_ran_out (cond (leb (4 ^ k) (nibbles u p k)) (ok (made u p k)) (code_from u e p j (suc k)))

-- the code at half byte p (FORMAT 5.2)
unfoldable pub code_at : List ℕ → ℕ → ℕ → Res Code
code_at u e p = code_from u e p 3 1

-- where reading a row stands: the pixels to go, and the half byte of the next code
pub record Standing : Type 0 where
  pub left : ℕ
  pub place : ℕ

abbrev pub standing : ℕ → ℕ → Standing
standing left p = record { left = left; place = p }

abbrev pub row_done : Standing → Bool
row_done q = eqb q.left 0

abbrev pub row_code : List ℕ → ℕ → Standing → Res Code
row_code u e q = code_at u e q.place

abbrev pub row_next : Standing → Code → Standing
row_next q c = standing (q.left - paints q.left c) (q.place + c.size)

-- the codes of a row from p on with `left` pixels to go (FORMAT 5.5)
unfoldable pub row_at : List ℕ → ℕ → ℕ → ℕ → Res (List Code)
row_at u e left p = list_from row_done (row_code u e) row_next (λ q. q.left) (standing left p)

-- those of them that are read before the field runs out
unfoldable pub row_read : List ℕ → ℕ → ℕ → ℕ → List Code
row_read u e left p = read_from row_done (row_code u e) row_next (λ q. q.left) (standing left p)

-- n rows of width w from p on, each on a byte (FORMAT 5.6, 5.7)
unfoldable pub field_at : List ℕ → ℕ → ℕ → ℕ → ℕ → Res (List (List Code))
field_at u e w zero p = ok []
field_at u e w (suc n) p = and_then (row_at u e w p) (λ r. cons_res r (field_at u e w n (align (after_codes p r))))

-- those of them that are read before the field runs out: whole rows, and the codes of the row in which it does
unfoldable pub field_read : List ℕ → ℕ → ℕ → ℕ → ℕ → List (List Code)
field_read u e w zero p = []
field_read u e w (suc n) p = row_read u e w p ∷ listed_by (row_at u e w p) (λ r. field_read u e w n (align (after_codes p r)))
