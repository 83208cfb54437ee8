-- The line `timestamp: 00:00:01:000, filepos: 0` at a place of a text, with its parts and numbers: it says what is listed.
-- Assumes nothing.
use Prim.Native.Nat.{ℕ, ◌+◌, ◌≤◌}
use native.Mathlib.Omega.{arith}
use mathlib.Core.Path.{◌≡◌, refl, sym}
use mathlib.Core.Logic.{inl, inr}
use mathlib.Core.Bool.{Bool, true, false, ◌&&◌}
use mathlib.Core.List.{List, [], ◌∷◌, ◌++◌, append-nil}
use lib.IntN.{ℤ, pos}
use Rattle.grammar.specs.Parts.{Part}
use Rattle.grammar.specs.IndexParts.{blank, unlike, All, Stops, Ends, Trimmed}
use Rattle.grammar.specs.IndexNumbers.{Valued, is_digit, numeral, Signed}
use Rattle.grammar.specs.Index.{Said, timestamp, start_of, IsTimestamp, Says}
use Rattle.grammar.proofs.UniqueParts.{not-empty, head-same, tail_same}

-- ---- Tests that every byte passes

abbrev pub every : (ℕ → Bool) → List ℕ → Bool
every p [] = true
every p (b ∷ s) = p b && every p s

both : (a b : Bool) → a && b ≡ true → (a ≡ true) × (b ≡ true)
both true b h = (refl, h)
both false b h = absurd (let n : ◌≡◌ {A = ℕ} 0 1 = cc h in omega arith)

pub all_of : (p : ℕ → Bool) (s : List ℕ) → every p s ≡ true → All p s
all_of p [] h = tt
all_of p (b ∷ s) h = ((both (p b) (every p s) h).0, all_of p s (both (p b) (every p s) h).1)

abbrev pub part : ℕ → List ℕ → Part
part p b = record { place = p; bytes = b }

abbrev pub valued : {A : Type 0} → ℕ → List ℕ → A → Valued A
valued p b v = record { part = part p b; value = v }

-- ---- The line `timestamp: 00:00:01:000, filepos: 0` at a place of a text

abbrev pub time : List ℕ
time = 48 ∷ 48 ∷ 58 ∷ 48 ∷ 48 ∷ 58 ∷ 48 ∷ 49 ∷ 58 ∷ 48 ∷ 48 ∷ 48 ∷ []

abbrev pub filepos : List ℕ
filepos = 102 ∷ 105 ∷ 108 ∷ 101 ∷ 112 ∷ 111 ∷ 115 ∷ 58 ∷ 32 ∷ 48 ∷ []

abbrev pub rest : List ℕ
rest = 32 ∷ time ++ 44 ∷ 32 ∷ filepos

abbrev pub line : List ℕ
line = 116 ∷ 105 ∷ 109 ∷ 101 ∷ 115 ∷ 116 ∷ 97 ∷ 109 ∷ 112 ∷ 58 ∷ rest

abbrev pub fields : ℕ → List (Valued ℤ)
fields p = valued (p + 11) (48 ∷ 48 ∷ []) (pos 0) ∷ valued (p + 14) (48 ∷ 48 ∷ []) (pos 0) ∷ valued (p + 17) (48 ∷ 49 ∷ []) (pos 1) ∷ valued (p + 20) (48 ∷ 48 ∷ 48 ∷ []) (pos 0) ∷ []

abbrev pub said : ℕ → Said
said p = timestamp (part p line) (part (p + 11) time ∷ part (p + 25) filepos ∷ []) (fields p) (valued (p + 34) (48 ∷ []) 0)

-- a blank, and then a part with none at its ends
pub after-blank : (p q : ℕ) (s : List ℕ) → q ≡ p + 1 → Stops blank s → Ends blank s → Trimmed (part p (32 ∷ s)) (part q s)
after-blank p q s e h k =
    record { before = 32 ∷ []; middle = s; after = []; leading = record { whole = refl; front = (refl, tt); stops = h }; rest = sym (append-nil s); trailing = tt; ends = k; place = e }

two_digits : (a b v : ℕ) → every (is_digit 10) (a ∷ b ∷ []) ≡ true → v ≡ numeral 10 0 (a ∷ b ∷ []) → v ≤ 99 → Signed (a ∷ b ∷ []) (pos v)
two_digits a b v d n l = inl (v, inl (record { some_digit = omega arith; all_digits = all_of (is_digit 10) (a ∷ b ∷ []) d; number = n; within = omega arith }), refl)

stamped : (p : ℕ) → IsTimestamp (part (p + 10) rest) (part (p + 11) time ∷ part (p + 25) filepos ∷ []) (fields p) (valued (p + 34) (48 ∷ []) 0)
unfolding start_of numeral
stamped p =
    record {
      between = part (p + 10) (32 ∷ time) ∷ part (p + 24) (32 ∷ filepos) ∷ [];
      by_commas = (refl, 32 ∷ filepos, refl, all_of (unlike 44) (32 ∷ time) refl, (omega arith, refl, all_of (unlike 44) (32 ∷ filepos) refl));
      trimmed = (
        after-blank (p + 10) (p + 11) time (omega arith) refl refl,
        (after-blank (p + 24) (p + 25) filepos (omega arith) refl refl, tt),
      );
      time = part (p + 11) time;
      first_other = inl (λ w. omega (arith, head-same 48 102 _ _ w.1), refl);
      position = part (p + 25) filepos;
      last_filepos = inl (inr (tt, (32 ∷ 48 ∷ [], refl), refl));
      all_fields = part (p + 11) (48 ∷ 48 ∷ []) ∷ part (p + 14) (48 ∷ 48 ∷ []) ∷ part (p + 17) (48 ∷ 49 ∷ []) ∷ part (p + 20) (48 ∷ 48 ∷ 48 ∷ []) ∷ [];
      by_colons = (
        refl,
        48 ∷ 48 ∷ 58 ∷ 48 ∷ 49 ∷ 58 ∷ 48 ∷ 48 ∷ 48 ∷ [],
        refl,
        (refl, (refl, tt)),
        (omega arith, 48 ∷ 49 ∷ 58 ∷ 48 ∷ 48 ∷ 48 ∷ [], refl, (refl, (refl, tt)), (omega arith, 48 ∷ 48 ∷ 48 ∷ [], refl, (refl, (refl, tt)), (omega arith, refl, (refl, (refl, (refl, tt)))))),
      );
      first_four = (
        refl,
        two_digits 48 48 0 refl refl (omega arith),
        (
          refl,
          two_digits 48 48 0 refl refl (omega arith),
          (
            refl,
            two_digits 48 49 1 refl refl (omega arith),
            (refl, inl (0, inl (record { some_digit = omega arith; all_digits = (refl, (refl, (refl, tt))); number = refl; within = omega arith }), refl), tt),
          ),
        ),
      );
      steps = record { hours = omega arith; to_minutes = omega arith; sixty = omega arith; to_seconds = omega arith; million = omega arith; millis = omega arith; start = omega arith };
      text = part (p + 33) (32 ∷ 48 ∷ []);
      after_word = record { whole = refl; place = omega arith };
      trim_text = after-blank (p + 33) (p + 34) (48 ∷ []) (omega arith) refl refl;
      reads = inl (0, 48 ∷ [], (refl, λ w. not-empty 120 _ (tail_same 48 48 [] _ w.1)), inl (record { some_digit = omega arith; all_digits = (refl, tt); number = refl; within = omega arith }));
      stored = omega arith;
    }

pub says : (p : ℕ) → Says (part p line) (said p)
says p = (refl, part (p + 10) rest, record { whole = refl; place = refl }, stamped p)

-- a part with no blank at its ends is trimmed
pub trims : (i : Part) → Stops blank i.bytes → Ends blank i.bytes → Trimmed i i
trims i h k =
    record { before = []; middle = i.bytes; after = []; leading = record { whole = refl; front = tt; stops = h }; rest = sym (append-nil i.bytes); trailing = tt; ends = k; place = omega arith }
