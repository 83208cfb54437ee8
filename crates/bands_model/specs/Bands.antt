-- The words of a list of bands, from the bytes after a colour change's size word; or refusal 19 where they are no such list.
-- Header and entries are defined by each other, as they follow each other. Assumes nothing: these are definitions.
use Rattle.std.specs.Prelude.{ℕ, ◌+◌, ◌-◌, ◌*◌, ◌/◌, ◌%◌, cond, List, [], ◌∷◌, eqb, leb, ltb, length, get_or}
use Rattle.std.specs.Prelude.{Option, Some as some, None as none}
use Rattle.outcome.specs.Outcome.{Res, ok, refuse, no_band_list}
use Rattle.bands_model.specs.declared.Header.{Header}
use Rattle.bands_model.specs.declared.Header.TheVariants as H
use Rattle.bands_model.specs.declared.EntryWords.{EntryWords}

-- three words in front of what follows
abbrev pub push3 : ℕ → ℕ → ℕ → Res (List ℕ) → Res (List ℕ)
push3 x y z (refuse n) = refuse n
push3 x y z (ok ws) = ok (x ∷ y ∷ z ∷ ws)

abbrev pub word_of : ℕ → ℕ → ℕ
word_of a b = a * 256 + b

-- what two words say (FORMAT 4.2, 4.3): the end mark `0F FF FF FF`; a zero nibble and a first line, then a count and a last line that is
-- not below the first; or neither
unfoldable pub header : ℕ → ℕ → Header
header a b =
    cond (eqb (a * 65536 + b) 0x0FFFFFFF) H.End (cond (ltb a 4096) (cond (leb a (b % 4096)) (H.Band a (b % 4096) (b / 4096)) H.Bad) H.Bad)

-- what the front of the bytes says: no bytes are an end too, and one to three are no header
unfoldable pub head_of : List ℕ → Header
head_of s =
    cond (eqb (length s) 0) H.End
    (cond (ltb (length s) 4) H.Bad (header (word_of (get_or s 0 0) (get_or s 1 0)) (word_of (get_or s 2 0) (get_or s 3 0))))

abbrev pub got : ℕ → ℕ → ℕ → Option EntryWords
got c s a = some (record { column = c; selectors = s; alphas = a })

-- an entry that starts at column lo or right of it (FORMAT 4.4)
unfoldable pub entry_of : List ℕ → ℕ → Option EntryWords
entry_of s lo =
    cond (ltb (length s) 6) none
    (cond (ltb (word_of (get_or s 0 0) (get_or s 1 0)) lo) none
    (got (word_of (get_or s 0 0) (get_or s 1 0)) (word_of (get_or s 2 0) (get_or s 3 0)) (word_of (get_or s 4 0) (get_or s 5 0))))

abbrev pub on_head : Header → (ℕ → Res (List ℕ)) → Res (List ℕ)
on_head H.End k = ok []
on_head H.Bad k = refuse no_band_list
on_head (H.Band f l n) k = push3 f l n (k n)

abbrev pub on_entry : Option EntryWords → (ℕ → Res (List ℕ)) → Res (List ℕ)
on_entry none k = refuse no_band_list
on_entry (some e) k = push3 e.column e.selectors e.alphas (k e.column)

unfoldable mutual
  -- bands from a header on (FORMAT 4.2, 4.5)
  pub bands_of : List ℕ → Res (List ℕ)
  bands_of [] = ok []
  bands_of (a ∷ []) = refuse no_band_list
  bands_of (a ∷ b ∷ []) = refuse no_band_list
  bands_of (a ∷ b ∷ c ∷ []) = refuse no_band_list
  bands_of (a ∷ b ∷ c ∷ d ∷ s) = on_head (header (word_of a b) (word_of c d)) (λ n. cond (eqb n 0) (bands_of s) (entries_of s n 0))

  -- n entries, of which the first starts at column lo or right of it, and then what follows the last (FORMAT 4.4)
  pub entries_of : List ℕ → ℕ → ℕ → Res (List ℕ)
  entries_of [] n lo = refuse no_band_list
  entries_of (a ∷ []) n lo = refuse no_band_list
  entries_of (a ∷ b ∷ []) n lo = refuse no_band_list
  entries_of (a ∷ b ∷ c ∷ []) n lo = refuse no_band_list
  entries_of (a ∷ b ∷ c ∷ d ∷ []) n lo = refuse no_band_list
  entries_of (a ∷ b ∷ c ∷ d ∷ e ∷ []) n lo = refuse no_band_list
  entries_of (a ∷ b ∷ c ∷ d ∷ e ∷ f ∷ s) n lo =
      on_entry (entry_of (a ∷ b ∷ c ∷ d ∷ e ∷ f ∷ s) lo) (λ col. cond (eqb n 1) (bands_of s) (entries_of s (n - 1) (col + 1)))
