-- Positions that are stored (FORMAT 1.8): a listed cue has one of 32 bits, and a text with a line whose position is
-- larger is not listed, so has no reading. The bound is met exactly and missed by one, and 17 digits are the decimal
-- number that they were and fail by the bound alone. Assumes nothing.
use Prim.Native.Nat.{ℕ, zero, suc, ◌-◌, ◌^◌, ◌≤◌, ◌<◌}
use native.Mathlib.Omega.{arith}
use mathlib.Core.Path.{◌≡◌, refl, sym, ap, subst}
use mathlib.Core.Logic.{inl, inr, ⊎_elim}
use mathlib.Core.Bool.{true, false}
use Rattle.std.specs.Prelude.{Option, Some as some, None as none}
use mathlib.Core.List.{List, [], ◌∷◌, ◌++◌}
use lib.IntN.{ℤ, pos}
use Rattle.grammar.specs.Parts.{Part}
use Rattle.grammar.specs.IndexParts.{blank, unlike, comma, line_end, All, Ends, Trimmed}
use Rattle.grammar.specs.IndexNumbers.{Valued, is_digit, numeral, Digits, Unsigned, Stripped, Hex, top_position, Position}
use Rattle.grammar.specs.Index.{Said, size, palette, timestamp, timestamp_word, filepos_word, start_of, TimestampTo, top_stored, LargePosition, Says, SaysNothing, LinesListed, LargeIn, ListedText, of_lines, no_bytes, IsText}
use Rattle.grammar.specs.IndexCues.{Cue, cues_of_lines, cues_of, cue_at}
use Rattle.grammar.specs.Reading.{Wanted, Reading, IsReading}
use Rattle.grammar.proofs.UniqueParts.{head-same, parted_unique, trimmed-unique, after-unique}
use Rattle.grammar.proofs.UniqueIndex.{other_word, timestamp-unique}
use Rattle.grammar.proofs.Edges.{unsigned-within}
use Rattle.grammar.proofs.NoBytes.{blanks_say-nothing}
use Rattle.grammar.proofs.ReadingLine.{part, valued, every, all_of, trims}

-- what is read as a position is of 64 bits
pub position-within : (s : List ℕ) (v : ℕ) → Position s v → v ≤ top_position
position-within s v h =
    ⊎_elim (λ x. unsigned-within 16 top_position x.1 v x.3) (λ x. unsigned-within 10 top_position s v x.1) h

-- ---- A line with a larger position

module _ (i : Part) (h : LargePosition i) where
  -- it says nothing that is listed
  pub large_unsaid : (l : Said) → Says i l → ⊥
  large_unsaid (size l w v) k = other_word i h.rest k.1 116 115 _ _ (λ e. omega arith) h.after_word k.2
  large_unsaid (palette l ts) k = other_word i h.rest k.1 116 112 _ _ (λ e. omega arith) h.after_word k.2
  large_unsaid (timestamp l ps fs n) k =
      let r : h.rest ≡ k.1 = after-unique timestamp_word i h.rest k.1 h.after_word k.2 in
      let s =
      timestamp-unique top_position top_stored h.rest h.parts ps h.fields fs h.number n h.reads
      (rw r k.3) in
      let e : h.number.value ≡ n.value = ap (λ (x : Valued ℕ). x.value) s.number_same in
      omega (arith, h.above, k.3.stored, e)

  -- and is not passed over
  large-not-nothing : SaysNothing i → ⊥
  large-not-nothing (inl k) = k.2 (h.rest.bytes, h.after_word.whole)
  large-not-nothing (inr k) = other_word i h.rest k.0 116 115 _ _ (λ e. omega arith) h.after_word k.1

  -- so lines among which it is have no list
  large_unlisted : (front : List Part) (p : Part) (back : List Part) → Trimmed p i → (ls : List Said)
      → LinesListed (front ++ p ∷ back) ls → ⊥
  large_unlisted [] p back t [] k =
      large-not-nothing (subst SaysNothing (trimmed-unique p k.0 i k.1 t) k.2)
  large_unlisted [] p back t (l ∷ ls) k =
      let q = trimmed-unique p k.0 i k.1 t in
      ⊎_elim (λ m. large-not-nothing (subst SaysNothing q m.0))
      (λ m. large_unsaid l (subst (λ (x : Part). Says x l) q m.0)) k.2
  large_unlisted (f ∷ front) p back t [] k = large_unlisted front p back t [] k.3
  large_unlisted (f ∷ front) p back t (l ∷ ls) k =
      ⊎_elim (λ m. large_unlisted front p back t (l ∷ ls) m.1) (λ m. large_unlisted front p back t ls m.1) k.2

-- a text with such a line is not listed, and no cue of it has a reading
pub large_text : (text : List ℕ) → LargeIn text → (t : ListedText) → IsText text t → ⊥
large_text text h (of_lines ls) k =
    let ps : List Part = h.front ++ h.line ∷ h.back in
    let q = parted_unique line_end 0 text k.1.all_lines ps k.1.parted h.parted in
    large_unlisted h.trimmed h.large h.front h.line h.back h.trims ls
    (subst (λ (qs : List Part). LinesListed qs ls) q k.1.listed)
large_text text h (no_bytes g) k =
    large_unlisted h.trimmed h.large h.front h.line h.back h.trims []
    (blanks_say-nothing 0 text (h.front ++ h.line ∷ h.back) h.parted (subst (All blank) (sym k.0) tt))

pub large_unread : (text : List ℕ) → LargeIn text → (file : List ℕ) (q : Wanted) (x : Reading)
    → IsReading text file q x → ⊥
large_unread text h file q x k = large_text text h x.text k.text_is

-- ---- Every listed cue

no-some : (c : Cue) → ◌≡◌ {A = Option Cue} none (some c) → ⊥
no-some c e = let z : ◌≡◌ {A = ℕ} 0 1 = cc in omega arith

lines_stored : (ps : List Part) (ls : List Said) → LinesListed ps ls → (n : ℕ) (c : Cue)
    → cue_at (cues_of_lines ls) n ≡ some c → c.position ≤ top_stored
unfolding cues_of_lines cue_at
lines_stored [] [] h n c e = absurd (no-some c e)
lines_stored [] (l ∷ ls) h n c e = absurd h
lines_stored (p ∷ ps) [] h n c e = absurd (no-some c e)
lines_stored (p ∷ ps) (l ∷ ls) h n c e =
    ⊎_elim (λ m. lines_stored ps (l ∷ ls) m.1 n c e)
    (λ m. said l m.0 n e (λ k. lines_stored ps ls m.1 k c)) h.2
  where
    said : (x : Said) → Says h.0 x → (k : ℕ) → cue_at (cues_of_lines (x ∷ ls)) k ≡ some c
        → ((j : ℕ) → cue_at (cues_of_lines ls) j ≡ some c → c.position ≤ top_stored) → c.position ≤ top_stored
    said (size a w v) s k f g = g k f
    said (palette a ts) s k f g = g k f
    said (timestamp a qs fs v) s zero f g =
        let q : v.value ≡ c.position = cc in
        omega (arith, s.3.stored, q)
    said (timestamp a qs fs v) s (suc k) f g = g k f

-- the position of each cue of a listed text is a number of 32 bits
pub positions-stored : (text : List ℕ) (t : ListedText) → IsText text t → (n : ℕ) (c : Cue)
    → cue_at (cues_of t) n ≡ some c → c.position ≤ 4294967295
unfolding cue_at
positions-stored text (of_lines ls) h n c e =
    omega (arith, lines_stored h.1.all_lines ls h.1.listed n c e)
positions-stored text (no_bytes g) h zero c e = let q : 0 ≡ c.position = cc in omega (arith, q)
positions-stored text (no_bytes g) h (suc n) c e = absurd (no-some c e)

-- ---- The bound, met exactly and missed by one

-- the line `timestamp:0,filepos:` with the bytes b and s after it, its parts and its field
abbrev rest : ℕ → List ℕ → Part
rest b s = part 10 (48 ∷ 44 ∷ filepos_word ++ b ∷ s)

abbrev pub line : ℕ → List ℕ → Part
line b s = part 0 (timestamp_word ++ (rest b s).bytes)

abbrev filepos : ℕ → List ℕ → Part
filepos b s = part 12 (filepos_word ++ b ∷ s)

abbrev parts : ℕ → List ℕ → List Part
parts b s = part 10 (48 ∷ []) ∷ filepos b s ∷ []

abbrev fields : List (Valued ℤ)
fields = valued 10 (48 ∷ []) (pos 0) ∷ []

digits : (base top b : ℕ) (s : List ℕ) (v : ℕ) → every (is_digit base) (b ∷ s) ≡ true → v ≡ numeral base 0 (b ∷ s)
    → v ≤ top → Digits base top (b ∷ s) v
digits base top b s v all is fits =
    record { some_digit = omega arith; all_digits = all_of (is_digit base) (b ∷ s) all; number = is; within = fits }

-- it is a timestamp where they are a position
stamped : (top b : ℕ) (s : List ℕ) (v : ℕ) → All (unlike comma) (b ∷ s) → blank b ≡ false → Ends blank (b ∷ s)
    → Position (b ∷ s) v → v ≤ top → TimestampTo top (rest b s) (parts b s) fields (valued 20 (b ∷ s) v)
unfolding start_of numeral
stamped top b s v no_comma starts ends reads fits =
    record {
      between = parts b s;
      by_commas = (
        refl,
        filepos_word ++ b ∷ s,
        refl,
        (refl, tt),
        (refl, refl, (refl, (refl, (refl, (refl, (refl, (refl, (refl, (refl, no_comma))))))))),
      );
      trimmed = (trims (part 10 (48 ∷ [])) refl refl, (trims (filepos b s) refl ends, tt));
      time = part 10 (48 ∷ []);
      first_other = inl (λ w. omega (arith, head-same 48 102 _ _ w.1), refl);
      position = filepos b s;
      last_filepos = inl (inr (tt, (b ∷ s, refl), refl));
      all_fields = part 10 (48 ∷ []) ∷ [];
      by_colons = (refl, refl, (refl, tt));
      first_four = (
        refl,
        inl (0, inl (digits 10 (2 ^ 63 - 1) 48 [] 0 refl refl (omega arith)), refl),
        tt,
      );
      steps =
          record {
            hours = omega arith;
            to_minutes = omega arith;
            sixty = omega arith;
            to_seconds = omega arith;
            million = omega arith;
            millis = omega arith;
            start = omega arith;
          };
      text = part 20 (b ∷ s);
      after_word = record { whole = refl; place = refl };
      trim_text = trims (part 20 (b ∷ s)) starts ends;
      reads = reads;
      stored = fits;
    }

-- digits that do not start with a 0 have no `0x` in front
unstripped : (b : ℕ) (s : List ℕ) → (b ≡ 48 → ⊥) → (n : ℕ) (r : List ℕ) → Stripped n (b ∷ s) r → b ∷ s ≡ r
unstripped b s f zero r h = h.0
unstripped b s f (suc n) r h = absurd (f (head-same b 48 s (120 ∷ h.0) h.1))

hexadecimal : (b : ℕ) (s : List ℕ) (v : ℕ) → (b ≡ 48 → ⊥) → Digits 16 top_position (b ∷ s) v → Position (b ∷ s) v
hexadecimal b s v f d = inl (0, b ∷ s, (refl, λ w. f (head-same b 48 s (120 ∷ w.0) w.1)), inl d)

-- `FFFFFFFF` is the last position that is stored
abbrev ones : List ℕ
ones = 70 ∷ 70 ∷ 70 ∷ 70 ∷ 70 ∷ 70 ∷ 70 ∷ []

pub last_stored : Says (line 70 ones)
    (timestamp (line 70 ones) (parts 70 ones) fields (valued 20 (70 ∷ ones) 4294967295))
unfolding numeral
last_stored = (
  refl,
  rest 70 ones,
  record { whole = refl; place = refl },
  stamped top_stored 70 ones 4294967295 (all_of (unlike comma) (70 ∷ ones) refl) refl refl
      (hexadecimal 70 ones 4294967295 (λ e. omega arith)
      (digits 16 top_position 70 ones 4294967295 refl refl (omega arith)))
      (omega arith),
)

abbrev zeros : List ℕ
zeros = 48 ∷ 48 ∷ 48 ∷ 48 ∷ 48 ∷ 48 ∷ 48 ∷ 48 ∷ []

-- a line with this position is too large
too_large : (b : ℕ) (s : List ℕ) (v : ℕ) → All (unlike comma) (b ∷ s) → blank b ≡ false → Ends blank (b ∷ s)
    → Position (b ∷ s) v → v ≤ top_position → top_stored < v → LargePosition (line b s)
too_large b s v no_comma starts ends reads fits above =
    record {
      rest = rest b s;
      after_word = record { whole = refl; place = refl };
      parts = parts b s;
      fields = fields;
      number = valued 20 (b ∷ s) v;
      reads = stamped top_position b s v no_comma starts ends reads fits;
      above = above;
    }

-- `100000000` is the next one. It is hexadecimal, as all digits within 64 bits are, and no decimal number
pub first-large : LargePosition (line 49 zeros)
unfolding numeral
first-large =
    too_large 49 zeros 4294967296 (all_of (unlike comma) (49 ∷ zeros) refl) refl refl
    (hexadecimal 49 zeros 4294967296 (λ e. omega arith)
    (digits 16 top_position 49 zeros 4294967296 refl refl (omega arith)))
    (omega arith) (omega arith)

pub first-unsaid : (l : Said) → Says (line 49 zeros) l → ⊥
first-unsaid = large_unsaid (line 49 zeros) first-large

-- `10000000000000000` has 17 digits and is above 64 bits in hexadecimal. It is that number in decimal, and too large
abbrev pub seventeen : Part
seventeen = line 49 (zeros ++ zeros)

not-hexadecimal : (w : ℕ) → Hex top_position (49 ∷ zeros ++ zeros) w → ⊥
unfolding numeral
not-hexadecimal w h =
    let e = unstripped 49 (zeros ++ zeros) (λ e. omega arith) h.0 h.1 h.2 in
    let u : Unsigned 16 top_position (49 ∷ zeros ++ zeros) w = rw e h.3 in
    ⊎_elim (λ d. omega (arith, d.number, d.within))
    (λ d. let q = head-same 49 43 (zeros ++ zeros) d.0 d.1 in omega (arith, q)) u

pub seventeen-large : (h : LargePosition seventeen) × (h.number.value ≡ 10000000000000000)
unfolding numeral too_large
seventeen-large = (
  too_large 49 (zeros ++ zeros) 10000000000000000 (all_of (unlike comma) (49 ∷ zeros ++ zeros) refl) refl refl
      (inr (
        not-hexadecimal,
        inl (digits 10 top_position 49 (zeros ++ zeros) 10000000000000000 refl refl (omega arith)),
      ))
      (omega arith) (omega arith),
  refl,
)

pub seventeen-unsaid : (l : Said) → Says seventeen l → ⊥
seventeen-unsaid = large_unsaid seventeen seventeen-large.0
