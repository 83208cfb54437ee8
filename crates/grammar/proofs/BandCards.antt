-- The limit of bands, met exactly and missed by one: a unit of 32 bands passes, and for one of 33 nothing does; and
-- the words of a record with one band. Assumes nothing.
use Prim.Native.Nat.{ℕ, zero, suc, ◌+◌, ◌*◌, ◌<◌}
use native.Mathlib.Omega.{arith}
use mathlib.Core.Path.{◌≡◌, refl, sym, ap, ◌∙◌, subst}
use mathlib.Core.Logic.{inl, inr}
use mathlib.Core.List.{List, [], ◌∷◌, ◌++◌}
use lib.ListN.{length, get_or, replicate, length-append, length-replicate, get_or-replicate, get_or-append}
use lib.Seq.{get_or-append-add, get_or_at}
use Rattle.grammar.specs.Bytes.{byte, word, nibble, nibbles}
use Rattle.grammar.specs.Bands.{Band, Bands, Entries, band_end, entry_words, band_words, record_words}
use Rattle.grammar.specs.Control.{colours, Block, Commands, Chain, IsChain}
use Rattle.grammar.specs.Record.{told, commands_of, commands_in, first_delay, last_delay, last_numbers, stands, all_bands}
use Rattle.grammar.specs.Rows.{code, paints, RowCodes, after_codes, align, FieldRows}
use Rattle.grammar.specs.Picture.{evens, top_end, Stay0, IsPicture, ListedUnit, IsUnit}
use Rattle.grammar.specs.Reading.{told_by}
use Rattle.grammar.proofs.Readings.{packed}
use Rattle.grammar.proofs.UniqueControl.{chain_unique}

-- ---- A unit whose one command is a colour change of n bands on line 0, without entries; its field is its head

abbrev front : ℕ → List ℕ
front n = 0x00 ∷ (13 + 4 * n) ∷ 0x00 ∷ 0x05 ∷ 0x70 ∷ 0x00 ∷ 0x00 ∷ 0x00 ∷ 0x05 ∷ 0x07 ∷ 0x00 ∷ (2 + 4 * n) ∷ []

abbrev headers : ℕ → List ℕ
headers n = replicate (4 * n) 0x00

abbrev unit : ℕ → List ℕ
unit n = front n ++ (headers n ++ 0xFF ∷ [])

abbrev band : ℕ → Band
band p = record { place = p; first = 0; last = 0; count = 0; entries = [] }

unfoldable pub bands : ℕ → ℕ → List Band
bands zero p = []
bands (suc n) p = band p ∷ bands n (band_end (band p))

abbrev blocks : ℕ → List Block
blocks n = record { place = 5; delay = 0; next = 5; commands = record { place = 9; order = colours (2 + 4 * n) (bands n 12) } ∷ [] } ∷ []

long : (n : ℕ) → length (unit n) ≡ 13 + 4 * n
long n =
    let a = length-append (front n) (headers n ++ 0xFF ∷ []) in
    let b = length-append (headers n) (0xFF ∷ []) in
    let c = length-replicate {A = ℕ} (4 * n) 0 in
    omega arith

zero-byte : (n j p : ℕ) → j < 4 * n → p ≡ 12 + j → byte (unit n) p ≡ 0
zero-byte n j p h q =
    subst (λ (x : ℕ). byte (unit n) x ≡ 0) (sym q)
    (get_or-append-add (front n) (headers n ++ 0xFF ∷ []) j 0 ∙ get_or-append (headers n) (0xFF ∷ []) 0 j (rw (length-replicate {A = ℕ} (4 * n) 0) h) ∙ get_or-replicate (4 * n) j 0 0 h)

zero_word : (n j p : ℕ) → j + 1 < 4 * n → p ≡ 12 + j → word (unit n) p ≡ 0
unfolding word
zero_word n j p h q =
    let a = zero-byte n j p (omega arith) q in
    let b = zero-byte n (j + 1) (p + 1) h (omega arith) in
    omega arith

last_byte : (n : ℕ) → byte (unit n) (12 + 4 * n) ≡ 0xFF
last_byte n = get_or-append-add (front n) (headers n ++ 0xFF ∷ []) (4 * n) 0 ∙ get_or_at (headers n) 0xFF [] 0 (4 * n) (length-replicate {A = ℕ} (4 * n) 0)

-- k of the bands, after j bytes of them
listed : (n k j p : ℕ) → j + 4 * k ≡ 4 * n → p ≡ 12 + j → Bands (unit n) (12 + 4 * n) p (bands k p)
unfolding Bands Entries bands
listed n zero j p e q = inl (omega arith)
listed n (suc k) j p e q =
    let w = zero_word n j p (omega arith) q in
    let v = zero_word n (j + 2) (p + 2) (omega arith) (omega arith) in (
      refl,
      record {
        within = omega arith;
        no_mark = λ h. omega (arith, h.mark, w, v);
        zero_nibble = omega (arith, w);
        first_is = sym w;
        count_is = omega (arith, v);
        last_is = omega (arith, v);
        order = omega arith;
        all = refl;
        list = tt;
      },
      listed n k (j + 4) (band_end (band p)) (omega arith) (omega arith),
    )

chain : (n : ℕ) → IsChain (unit n) (blocks n)
unfolding word Commands Chain
chain n =
    let l = long n in
    let e : 12 + 4 * n ≡ 9 + 1 + (2 + 4 * n) = omega arith in
    record {
      head = omega arith;
      control = omega arith;
      order = omega arith;
      inside = omega arith;
      chain = (
        refl,
        record {
          within = omega arith;
          delay_is = refl;
          next_is = refl;
          list = (
            refl,
            record {
              within = omega arith;
              coded = refl;
              says = (omega arith, omega arith, subst (λ (k : ℕ). Bands (unit n) k 12 (bands n 12)) e (listed n n 0 12 (omega arith) refl));
            },
            inr (omega arith, subst (λ (k : ℕ). byte (unit n) k ≡ 0xFF) e (last_byte n)),
          );
        },
        inl (omega arith, refl),
      );
    }

bands-long : (n p : ℕ) → length (bands n p) ≡ n
unfolding bands
bands-long zero p = refl
bands-long (suc n) p = let h = bands-long n (band_end (band p)) in omega arith

count : (n : ℕ) → length (told (blocks n)).bands ≡ n
unfolding told commands_of commands_in all_bands
count n =
    let a = length-append (bands n 12) [] in
    let b = bands-long n 12 in
    omega arith

-- ---- 32 bands pass

abbrev unit_32 : ListedUnit
unit_32 = record { blocks = blocks 32; rows = (code 0 4 0x8D ∷ []) ∷ [] }

picture_32 : IsPicture (unit 32) (told unit_32.blocks) unit_32.rows
unfolding word nibble nibbles evens top_end Stay0 FieldRows RowCodes after_codes align paints told commands_of commands_in first_delay last_delay last_numbers stands all_bands
picture_32 =
    record {
      wide = omega arith;
      high = omega arith;
      all = refl;
      top = (
        (omega arith, refl, record { one = omega arith; four = omega arith; inside = omega arith; number = refl; most = omega arith; least = λ h. omega arith }, refl),
        tt,
      );
      bottom = inr (inl refl, tt);
    }

pub bands-32_pass : IsUnit (unit 32) unit_32
bands-32_pass = let n = count 32 in record { chain = chain 32; few = omega arith; picture = picture_32 }

-- ---- and 33 do not, whatever is listed

pub bands_33-none : (l : ListedUnit) → IsUnit (unit 33) l → ⊥
bands_33-none l h =
    let q : l.blocks ≡ blocks 33 = chain_unique (unit 33) l.blocks (blocks 33) h.chain (chain 33) in
    let n : length (told l.blocks).bands ≡ 33 = ap (λ (bs : List Block). length (told bs).bands) q ∙ count 33 in
    let k = h.few in
    omega arith

-- ---- All words of the record of a unit with one band, that of the title in packet form: its six, then 0

abbrev at : ℕ → ℕ
at i = get_or (record_words (told_by packed).bands) i 9

pub one_band-record : at 0 ∷ at 1 ∷ at 2 ∷ at 3 ∷ at 4 ∷ at 5 ∷ at 6 ∷ at 1535 ∷ at 1536 ∷ [] ≡ 2 ∷ 2 ∷ 1 ∷ 5 ∷ 0 ∷ 0x0080 ∷ 0 ∷ 0 ∷ 9 ∷ []
unfolding record_words band_words entry_words told commands_of commands_in first_delay last_delay last_numbers stands all_bands
one_band-record = refl
