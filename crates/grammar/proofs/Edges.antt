-- Bounds of the grammar, each met exactly and missed by one: what uniqueness and whole readings leave open. Assumes nothing.
use Prim.Native.Nat.{ℕ, zero, suc, ◌+◌, ◌-◌, ◌^◌, ◌≤◌}
use native.Mathlib.Omega.{arith}
use mathlib.Core.Path.{◌≡◌, refl, sym, ap, ◌∙◌, subst}
use mathlib.Core.Bool.{Bool, true, false, ◌&&◌}
use mathlib.Core.Logic.{inl, inr, ⊎_elim}
use Rattle.std.specs.Prelude.{None as none}
use mathlib.Core.List.{List, [], ◌∷◌}
use borrow.Author.Tests.{ltb-true}
use lib.ListN.{length, replicate, get_or-replicate}
use lib.IntN.{ℤ, pos, negsuc, neg_ℤ}
use Rattle.grammar.specs.Bytes.{word, nibble, nibbles}
use Rattle.grammar.specs.Bands.{Entry, IsEntry, Band, IsBand, Entries}
use Rattle.grammar.specs.Control.{start, IsCommand, Commands, Block, IsBlock}
use Rattle.grammar.specs.Rows.{code, IsCode}
use Rattle.grammar.specs.Packets.{Packet, Stuffing, Header1, Header2, IsBody, IsPack, IsPacket, Complete, Bare}
use Rattle.grammar.specs.Parts.{Part}
use Rattle.grammar.specs.IndexParts.{All, Trimmed}
use Rattle.grammar.specs.IndexNumbers.{Valued, is_digit, numeral, Digits, Unsigned, Signed, top_position}
use Rattle.grammar.specs.Index.{palette, top_side, top_token, Tokens, Fields, Stays, IsTimestamp, Says, ListedText, of_lines, no_bytes, IsText}
use Rattle.grammar.proofs.UniqueParts.{has-byte}

-- ---- Entries and bands

-- an entry of six bytes, at column 5; the next entry must start right of it
abbrev six : List ℕ
six = 0 ∷ 5 ∷ 1 ∷ 2 ∷ 3 ∷ 4 ∷ []

abbrev entry : Entry
entry = record { place = 0; column = 5; selectors = 0x0102; alphas = 0x0304 }

entry-fits : IsEntry six 6 5 entry
unfolding word
entry-fits = record { within = omega arith; column_is = refl; selectors_are = refl; alphas_are = refl; rising = omega arith }

entry-cut : (least : ℕ) → IsEntry six 5 least entry → ⊥
entry-cut least h = omega (arith, h.within)

entry-left : IsEntry six 6 6 entry → ⊥
entry-left h = omega (arith, h.rising)

-- a header of four bytes with no entry, whose last line is its first
abbrev band : Band
band = record { place = 0; first = 7; last = 7; count = 0; entries = [] }

header-fits : IsBand (0 ∷ 7 ∷ 0 ∷ 7 ∷ []) 4 band
unfolding word Entries
header-fits =
    record { within = omega arith; no_mark = λ m. omega (arith, m.mark); zero_nibble = omega arith; first_is = refl; count_is = refl; last_is = refl; order = omega arith; all = refl; list = tt }

header-cut : (u : List ℕ) → IsBand u 3 band → ⊥
header-cut u h = omega (arith, h.within)

-- ---- Commands and blocks

-- a block of four bytes and no command, which ends at L
block-fits : IsBlock (0 ∷ 1 ∷ 0 ∷ 2 ∷ []) 4 (record { place = 0; delay = 1; next = 2; commands = [] })
unfolding word Commands
block-fits = record { within = omega arith; delay_is = refl; next_is = refl; list = inl refl }

block-cut : (u : List ℕ) (b : Block) → b.place ≡ 0 → IsBlock u 3 b → ⊥
block-cut u b e h = omega (arith, h.within)

command-fits : IsCommand (1 ∷ []) 1 (record { place = 0; order = start })
command-fits = record { within = omega arith; coded = refl; says = tt }

command-cut : (u : List ℕ) (L : ℕ) → IsCommand u L (record { place = L; order = start }) → ⊥
command-cut u L h = omega (arith, h.within)

-- ---- Codes

code_fits : IsCode (0x3F ∷ []) 1 (code 0 2 0x3F)
unfolding nibble nibbles
code_fits = record { one = omega arith; four = omega arith; inside = omega arith; number = refl; most = omega arith; least = λ h. omega arith }

code-cut : (u : List ℕ) → IsCode u 1 (code 1 2 0x3F) → ⊥
code-cut u h = omega (arith, h.inside)

-- ---- Packets

-- of 17 stuffing bytes 16 are skipped
abbrev stuffed : List ℕ
stuffed = replicate 17 0xFF

stuffing_16 : Stuffing stuffed 0 16
stuffing_16 = record { most = omega arith; each = λ i h. get_or-replicate 17 (0 + i) 0xFF 0 (omega arith); no_more = λ h. absurd (omega arith) }

stuffing_17 : (f : List ℕ) → Stuffing f 0 17 → ⊥
stuffing_17 f h = omega (arith, h.most)

-- a PES of three bytes has an empty body
pes_fits : IsBody (0x80 ∷ 0 ∷ 0 ∷ []) 0 3 3
pes_fits = record { some_byte = omega arith; within = omega arith; header = inl (record { bits = refl; three = omega arith; body = refl }) }

pes-cut : (f : List ℕ) (b : ℕ) → Header2 f 0 2 b → ⊥
pes-cut f b h = omega (arith, h.three)

-- two kept bytes may be a whole unit, one is none
complete-fits : Complete (0 ∷ 2 ∷ [])
unfolding word
complete-fits = record { two = omega arith; enough = omega arith }

complete-one : Complete (0 ∷ []) → ⊥
complete-one h = omega (arith, h.two)

complete-cut : Complete (0 ∷ 3 ∷ []) → ⊥
unfolding word
complete-cut h = omega (arith, h.enough)

-- a bare unit of four bytes, up to the file's end
bare-fits : Bare (9 ∷ 0 ∷ 4 ∷ 0 ∷ 4 ∷ []) 1
unfolding word
bare-fits = record { four = omega arith; least = omega arith; fits = omega arith }

bare-cut : Bare (9 ∷ 0 ∷ 5 ∷ 0 ∷ 4 ∷ []) 1 → ⊥
unfolding word
bare-cut h = omega (arith, h.fits)

bare-3 : Bare (9 ∷ 0 ∷ 3 ∷ 0 ∷ 4 ∷ []) 1 → ⊥
unfolding word
bare-3 h = omega (arith, h.least)

-- an older header must have a byte where its buffer size is looked for, and one where its stamps are
older_fits : IsBody (0x40 ∷ 0 ∷ 0x0F ∷ []) 0 3 3
older_fits =
    record {
      some_byte = omega arith;
      within = omega arith;
      header =
          inr
          (record {
            bits = λ h. omega arith;
            count = 0;
            stuffing = record { most = omega arith; each = λ i h. absurd (omega arith); no_more = λ h m. omega arith };
            size_byte = omega arith;
            stamp = 2;
            stamp_is = refl;
            stamp_byte = omega arith;
            body = refl;
          });
    }

older-cut : (b : ℕ) → Header1 (0x40 ∷ 0 ∷ []) 0 2 b → ⊥
older-cut b h = go h.count refl
  where
    go : (n : ℕ) → h.count ≡ n → ⊥
    go zero e = let z : h.stamp ≡ 2 = h.stamp_is ∙ rw e in omega (arith, z, h.stamp_byte)
    go (suc n) e = let z : ◌≡◌ {A = ℕ} 0x40 0xFF = h.stuffing.each 0 (omega arith) in omega arith

-- a pack header of the older form has top nibble 2
abbrev headed : ℕ → List ℕ
headed b = 0 ∷ 0 ∷ 1 ∷ 0xBA ∷ b ∷ []

abbrev pack : ℕ → Packet
pack e = record { place = 0; code = 0xBA; end = e; kept = none }

older-pack : IsPack (headed 0x2F) (pack 12)
older-pack = (refl, refl, inr (refl, refl))

no-pack : (e : ℕ) → IsPack (headed 0x30) (pack e) → ⊥
no-pack e h = ⊎_elim (λ d. omega (arith, d.0)) (λ d. omega (arith, d.0)) h.2

-- a packet ends within the file
packet-cut : (id : ℕ → Bool) (f : List ℕ) (p : Packet) → p.end ≡ length f + 1 → IsPacket id f p → ⊥
packet-cut id f p e h = omega (arith, h.inside)

-- ---- The index text

-- every byte of s passes, computed
abbrev every : (ℕ → Bool) → List ℕ → Bool
every p [] = true
every p (b ∷ s) = p b && every p s

every-all : (p : ℕ → Bool) (s : List ℕ) → every p s ≡ true → All p s
every-all p [] h = tt
every-all p (b ∷ s) h = go (λ e. every-all p s e) (p b) refl h
  where
    go : (every p s ≡ true → All p s) → (t : Bool) → p b ≡ t → (t && every p s) ≡ true → All p (b ∷ s)
    go more true q e = (q, more e)
    go more false q e = let z : ◌≡◌ {A = ℕ} 0 1 = cc in absurd (omega arith)

-- digits: at the bound, above it, and none
abbrev side : List ℕ
side = 54 ∷ 53 ∷ 53 ∷ 51 ∷ 53 ∷ []

side-fits : Digits 10 top_side side 65535
unfolding numeral
side-fits = record { some_digit = omega arith; all_digits = every-all (is_digit 10) side refl; number = refl; within = omega arith }

side-over : (s : List ℕ) → Digits 10 top_side s 65536 → ⊥
side-over s h = omega (arith, h.within)

token_over : (s : List ℕ) → Digits 16 top_token s 4294967296 → ⊥
token_over s h = omega (arith, h.within)

position-over : (s : List ℕ) → Digits 16 top_position s 18446744073709551616 → ⊥
position-over s h = omega (arith, h.within)

no_digit : (base top v : ℕ) → Digits base top [] v → ⊥
no_digit base top v h = omega (arith, h.some_digit)

-- signed numbers: the greatest, the least, and none past these
abbrev near : ℕ → List ℕ
near d = 57 ∷ 50 ∷ 50 ∷ 51 ∷ 51 ∷ 55 ∷ 50 ∷ 48 ∷ 51 ∷ 54 ∷ 56 ∷ 53 ∷ 52 ∷ 55 ∷ 55 ∷ 53 ∷ 56 ∷ 48 ∷ d ∷ []

near-digits : (d v top : ℕ) → every (is_digit 10) (near d) ≡ true → v ≡ numeral 10 0 (near d) → v ≤ top → Digits 10 top (near d) v
near-digits d v top e n l = record { some_digit = omega arith; all_digits = every-all (is_digit 10) (near d) e; number = n; within = l }

greatest : Signed (near 55) (pos 9223372036854775807)
unfolding numeral
greatest = inl (9223372036854775807, inl (near-digits 55 9223372036854775807 (2 ^ 63 - 1) refl refl (omega arith)), refl)

least : Signed (45 ∷ near 56) (negsuc 9223372036854775807)
unfolding numeral
least = inr (near 56, 9223372036854775808, refl, near-digits 56 9223372036854775808 (2 ^ 63) refl refl (omega arith), refl)

pub unsigned-within : (base top : ℕ) (s : List ℕ) (v : ℕ) → Unsigned base top s v → v ≤ top
unsigned-within base top s v h = ⊎_elim (λ d. d.within) (λ d. d.2.within) h

minus-stays : (v : ℕ) → v ≤ 2 ^ 63 → Stays (neg_ℤ (pos v))
minus-stays zero h = omega arith
minus-stays (suc v) h = omega arith

signed-stays : (s : List ℕ) (z : ℤ) → Signed s z → Stays z
signed-stays s z h =
    ⊎_elim (λ d. subst Stays (sym d.2) (omega (arith, unsigned-within 10 (2 ^ 63 - 1) s d.0 d.1)))
    (λ d. subst Stays (sym d.4) (minus-stays d.1 d.3.within)) h

-- each step of a sum
stays-greatest : Stays (pos 9223372036854775807)
stays-greatest = omega arith

stays-over : Stays (pos 9223372036854775808) → ⊥
stays-over h = omega (arith, h)

stays-least : Stays (negsuc 9223372036854775807)
stays-least = omega arith

stays-under : Stays (negsuc 9223372036854775808) → ⊥
stays-under h = omega (arith, h)

-- no more than 16 tokens and four fields are listed
tokens-most : (n at : ℕ) (s : List ℕ) (ts : List (Valued ℕ)) → Tokens n at s ts → length ts ≤ n
tokens-most n at s [] h = omega arith
tokens-most zero at s (t ∷ ts) h = absurd h
tokens-most (suc n) at s (t ∷ ts) h = omega (arith, tokens-most n _ h.0 ts h.3)

palette-16 : (i line : Part) (ts : List (Valued ℕ)) → Says i (palette line ts) → length ts ≤ 16
palette-16 i line ts h = tokens-most 16 _ _ ts h.3

fields-most : (n : ℕ) (ps : List Part) (fs : List (Valued ℤ)) → Fields n ps fs → length fs ≤ n
fields-most n ps [] h = omega arith
fields-most zero ps (f ∷ fs) h = absurd h
fields-most (suc n) [] (f ∷ fs) h = absurd h
fields-most (suc n) (p ∷ ps) (f ∷ fs) h = omega (arith, fields-most n ps fs h.2)

time-4 : (r : Part) (ps : List Part) (fs : List (Valued ℤ)) (n : Valued ℕ) → IsTimestamp r ps fs n → length fs ≤ 4
time-4 r ps fs n h = fields-most 4 h.all_fields fs h.first_four

-- a byte of 127 stands in a text, and one of 128 in none
low_fits : IsText (127 ∷ []) (of_lines [])
low_fits = (
  has-byte 127 [],
  record {
    low = (refl, tt);
    all_lines = line ∷ [];
    parted = (refl, refl, (refl, tt));
    listed = (line, trim, inl (λ w. other w.1, λ w. other w.1, λ w. other w.1), tt);
  },
)
  where
    line : Part
    line = record { place = 0; bytes = 127 ∷ [] }

    trim : Trimmed line line
    trim =
        record {
          before = [];
          middle = 127 ∷ [];
          after = [];
          leading = record { whole = refl; front = tt; stops = refl };
          rest = refl;
          trailing = tt;
          ends = refl;
          place = refl;
        }

    other : {x y : ℕ} {r : List ℕ} → 127 ∷ [] ≡ x ∷ y ∷ r → ⊥
    other e = let z = ap length e in omega (arith, z)

low_over : (t : ListedText) → IsText (128 ∷ []) t → ⊥
low_over (of_lines ls) h = let z = ltb-true 128 128 h.1.low.0 in omega (arith, z)
low_over (no_bytes p) h = has-byte 128 [] h.0
