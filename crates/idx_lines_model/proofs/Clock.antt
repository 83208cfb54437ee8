-- The arms of `parse_time`, over plain variables. Assumes nothing.
use Prim.Native.Nat.{ℕ, zero, suc, ◌-◌, ◌^◌, ◌≤◌}
use mathlib.Core.Path.{◌≡◌, refl, sym, ap, ◌∙◌, subst}
use mathlib.Core.Bool.{Bool, true, false, ◌&&◌}
use mathlib.Core.Logic.{inl, inr}
use Rattle.std.specs.Prelude.{Option, Some as some, None as none, Result, ok_or}
use Rattle.outcome.specs.declared.Refusal.{Refusal}
use Rattle.outcome.specs.declared.Refusal.TheVariants.{LongTime}
use mathlib.Core.List.{List, [], ◌∷◌}
use native.Mathlib.Omega.{arith}
use native.Mathlib.Nat.{add-zero}
use lib.ListN.{length}
use lib.IntN.{ℤ, pos, neg_ℤ, ◌*ℤ◌}
use mir.Syntax.{w64}
use mir.Val.{SFits, to_z, of_z}
use mir.Facts.{to_z-of_z}
use borrow.Author.Tests.{le-leb}
use Rattle.outcome.specs.Outcome.{Res, ok, refuse, answered, check, bad_time, long_time}
use Rattle.grammar.specs.Index.{field, minutes, seconds, start_of}
use Rattle.grammar.specs.IndexNumbers.{Valued, Signed, Unsigned}
use Rattle.grammar.specs.IndexParts.{colon}
use Rattle.grammar.specs.Parts.{Part}
use Rattle.idx_numbers_model.specs.Parts.{split}
use Rattle.idx_lines_model.specs.Answers.{fields_from, head_field, later, FieldAt, NextOf, field_in, field_is, time_at}
use Rattle.clock_model.specs.Sums.{stays}
use Rattle.idx_lines_model.specs.Lines.{fields, steps}
use Rattle.outcome.proofs.Laws.{ok-injective}
use Rattle.idx_numbers_model.proofs.Grammar.{never, signed_is}
use Rattle.idx_lines_model.proofs.Grammar.{given, checked, steps-is}
use Rattle.idx_lines_model.specs.declared.Field.{Field}
use Rattle.clock_model.specs.Sums as S
use Rattle.idx_numbers_model.specs.Times as T

-- ---- fields in turn, of any list of parts
fields-nil : (n : ℕ) → fields n [] ≡ some []
unfolding fields
fields-nil zero = refl
fields-nil (suc n) = refl

pub fields-bad : (n : ℕ) (ps : List Part) → head_field ps ≡ none → fields (suc n) ps ≡ none
unfolding fields
fields-bad n [] e = never (cc)
fields-bad n (p ∷ ps) e = rw e

pub fields-later : (n : ℕ) (ps : List Part) (z : ℤ) → head_field ps ≡ some z → fields n (later ps) ≡ none → fields (suc n) ps ≡ none
unfolding fields
fields-later n [] z e f = never (cc (fields-nil n))
fields-later n (p ∷ ps) z e f = rw (e, f)

record Good (n : ℕ) (ps : List Part) (z : ℤ) (fs : List (Valued ℤ)) : Type 0 where
  all : List (Valued ℤ)
  are : fields (suc n) ps ≡ some all
  first : field 0 all ≡ z
  next : (k : ℕ) → field (suc k) all ≡ field k fs

fields-good : (n : ℕ) (ps : List Part) (z : ℤ) (fs : List (Valued ℤ)) → head_field ps ≡ some z → fields n (later ps) ≡ some fs → Good n ps z fs
unfolding fields
fields-good n [] z fs e f =
    let q : [] ≡ fs = cc (fields-nil n) in
    record { all = []; are = refl; first = cc; next = λ k. rw (← q) refl }
fields-good n (p ∷ ps) z fs e f = record { all = record { part = p; value = z } ∷ fs; are = rw (e, f); first = refl; next = λ k. refl }

-- ---- the sum, as the crate `times` has it
abbrev num_says : Option ℤ → Res ℤ
num_says none = refuse long_time
num_says (some z) = ok z

seven : (a b c d e f g : Bool) (z : ℤ)
    → num_says (S.pick a (S.pick b (S.pick c (S.pick d (S.pick e (S.pick f (S.pick g (some z) none) none) none) none) none) none) none)
    ≡ check (a && (b && (c && (d && (e && (f && g)))))) long_time (ok z)
seven false b c d e f g z = refl
seven true false c d e f g z = refl
seven true true false d e f g z = refl
seven true true true false e f g z = refl
seven true true true true false f g z = refl
seven true true true true true false g z = refl
seven true true true true true true false z = refl
seven true true true true true true true z = refl

picks : (t : Bool) (z : ℤ) (k : ℤ → Option ℤ) → T.and_then (S.pick t (some z) none) k ≡ S.pick t (k z) none
picks true z k = refl
picks false z k = refl

pub sum_is : (fs : List (Valued ℤ)) → num_says (T.micros_of (field 0 fs) (field 1 fs) (field 2 fs) (field 3 fs)) ≡ check (steps fs) long_time (ok (start_of fs))
unfolding S.checked steps start_of
sum_is fs =
    simp picks
    (seven (stays (field 0 fs *ℤ pos 60)) (stays (minutes fs)) (stays (minutes fs *ℤ pos 60)) (stays (seconds fs)) (stays (seconds fs *ℤ pos 1000000))
    (stays (field 3 fs *ℤ pos 1000)) (stays (start_of fs)) (start_of fs))

-- ---- a list of parts and what its first four say
bad : (ps : List Part) → fields 4 ps ≡ none → refuse bad_time ≡ time_at ps
unfolding time_at
bad ps e = rw e

good : (ps : List Part) (fs : List (Valued ℤ)) (h m s ms : ℤ) → fields 4 ps ≡ some fs → field 0 fs ≡ h → field 1 fs ≡ m → field 2 fs ≡ s → field 3 fs ≡ ms
    → num_says (T.micros_of h m s ms) ≡ time_at ps
unfolding time_at
good ps fs h m s ms e a b c d = rw (e, ← a, ← b, ← c, ← d) (sum_is fs)

module _ (ps : List Part) where
  bad_1 : head_field ps ≡ none → refuse bad_time ≡ time_at ps
  bad_1 e = bad ps (fields-bad 3 ps e)

  module _ (h : ℤ) (eh : head_field ps ≡ some h) where
    bad_2 : head_field (later ps) ≡ none → refuse bad_time ≡ time_at ps
    bad_2 e = bad ps (fields-later 3 ps h eh (fields-bad 2 (later ps) e))

    module _ (m : ℤ) (em : head_field (later ps) ≡ some m) where
      bad_3 : head_field (later (later ps)) ≡ none → refuse bad_time ≡ time_at ps
      bad_3 e = bad ps (fields-later 3 ps h eh (fields-later 2 (later ps) m em (fields-bad 1 (later (later ps)) e)))

      module _ (s : ℤ) (es : head_field (later (later ps)) ≡ some s) where
        bad_4 : head_field (later (later (later ps))) ≡ none → refuse bad_time ≡ time_at ps
        bad_4 e = bad ps (fields-later 3 ps h eh (fields-later 2 (later ps) m em (fields-later 1 (later (later ps)) s es (fields-bad 0 (later (later (later ps))) e))))

        all-good : (ms : ℤ) → head_field (later (later (later ps))) ≡ some ms → num_says (T.micros_of h m s ms) ≡ time_at ps
        unfolding fields
        all-good ms e =
            let g₀ = fields-good 0 (later (later (later ps))) ms [] e refl in
            let g₁ = fields-good 1 (later (later ps)) s g₀.all es g₀.are in
            let g₂ = fields-good 2 (later ps) m g₁.all em g₁.are in
            let g₃ = fields-good 3 ps h g₂.all eh g₂.are in
            good ps g₃.all h m s ms g₃.are g₃.first (g₃.next 0 ∙ g₂.first) (g₃.next 1 ∙ g₂.next 0 ∙ g₁.first)
            (g₃.next 2 ∙ g₂.next 1 ∙ g₁.next 0 ∙ g₀.first)

-- ---- as the code goes
from_zero : (p : ℕ) (t : List ℕ) → fields_from p 0 t ≡ split colon p t
from_zero p t = rw (le-leb 0 (length t) (omega arith), add-zero p)

-- a field that was read fits
pub field_fits : (ps : List Part) (z : ℤ) → head_field ps ≡ some z → SFits w64 z
field_fits [] z e = let q : pos 0 ≡ z = cc in rw (← q) (record { sfits = omega arith })
field_fits (p ∷ ps) z e = go (signed_is p.bytes z e)
  where
    low : (v : ℕ) → v ≤ 2 ^ 63 → SFits w64 (neg_ℤ (pos v))
    low zero h = record { sfits = omega arith }
    low (suc v) h = record { sfits = omega arith }

    high : (v : ℕ) → Unsigned 10 (2 ^ 63 - 1) p.bytes v → v ≤ 2 ^ 63 - 1
    high v (inl k) = k.within
    high v (inr k) = k.2.within

    go : Signed p.bytes z → SFits w64 z
    go (inl h) = rw h.2 (record { sfits = omega (arith, high h.0 h.1) })
    go (inr h) = rw h.4 (low h.1 h.3.within)

module _ (t : List ℕ) (i : ℕ) (r : Option Field) (e : FieldAt t i r) where
  told : (z : ℤ) (n : ℕ) → r ≡ some (field_is z n) → (p : ℕ) → head_field (fields_from p i t) ≡ some z
  told z n f p = sym (e.says p) ∙ ap field_in f

  missed : r ≡ none → (p : ℕ) → head_field (fields_from p i t) ≡ none
  missed f p = sym (e.says p) ∙ ap field_in f

  on : (z : ℤ) (n : ℕ) → r ≡ some (field_is z n) → (p : ℕ) → fields_from p n t ≡ later (fields_from p i t)
  on z n f = subst (NextOf t i) f e.next

module _ (t : List ℕ) (r₁ : Option Field) (e₁ : FieldAt t 0 r₁) where
  pub clock_1 : r₁ ≡ none → (p : ℕ) → refuse bad_time ≡ time_at (split colon p t)
  clock_1 f p = bad_1 (split colon p t) (rw (from_zero p t) at (missed t 0 r₁ e₁ f p))

  module _ (h : ℤ) (a : ℕ) (i₁ : r₁ ≡ some (field_is h a)) (r₂ : Option Field) (e₂ : FieldAt t a r₂) where
    first : (p : ℕ) → head_field (split colon p t) ≡ some h
    first p = rw (from_zero p t) at (told t 0 r₁ e₁ h a i₁ p)

    to_a : (p : ℕ) → fields_from p a t ≡ later (split colon p t)
    to_a p = on t 0 r₁ e₁ h a i₁ p ∙ ap later (from_zero p t)

    pub clock_2 : r₂ ≡ none → (p : ℕ) → refuse bad_time ≡ time_at (split colon p t)
    clock_2 f p = bad_2 (split colon p t) h (first p) (rw (to_a p) at (missed t a r₂ e₂ f p))

    module _ (m : ℤ) (b : ℕ) (i₂ : r₂ ≡ some (field_is m b)) (r₃ : Option Field) (e₃ : FieldAt t b r₃) where
      second : (p : ℕ) → head_field (later (split colon p t)) ≡ some m
      second p = rw (to_a p) at (told t a r₂ e₂ m b i₂ p)

      to_b : (p : ℕ) → fields_from p b t ≡ later (later (split colon p t))
      to_b p = on t a r₂ e₂ m b i₂ p ∙ ap later (to_a p)

      pub clock_3 : r₃ ≡ none → (p : ℕ) → refuse bad_time ≡ time_at (split colon p t)
      clock_3 f p = bad_3 (split colon p t) h (first p) m (second p) (rw (to_b p) at (missed t b r₃ e₃ f p))

      module _ (s : ℤ) (d : ℕ) (i₃ : r₃ ≡ some (field_is s d)) (r₄ : Option Field) (e₄ : FieldAt t d r₄) where
        third : (p : ℕ) → head_field (later (later (split colon p t))) ≡ some s
        third p = rw (to_b p) at (told t b r₃ e₃ s d i₃ p)

        to_d : (p : ℕ) → fields_from p d t ≡ later (later (later (split colon p t)))
        to_d p = on t b r₃ e₃ s d i₃ p ∙ ap later (to_b p)

        pub clock_4 : r₄ ≡ none → (p : ℕ) → refuse bad_time ≡ time_at (split colon p t)
        clock_4 f p = bad_4 (split colon p t) h (first p) m (second p) s (third p) (rw (to_d p) at (missed t d r₄ e₄ f p))

        pub clock-all : (ms : ℤ) (x : ℕ) → r₄ ≡ some (field_is ms x) → (n : Option ℤ)
            → n ≡ T.micros_of (to_z w64 (of_z w64 h)) (to_z w64 (of_z w64 m)) (to_z w64 (of_z w64 s)) (to_z w64 (of_z w64 ms))
            → (p : ℕ) → num_says n ≡ time_at (split colon p t)
        clock-all ms x i₄ n e p =
            let a₄ : head_field (later (later (later (split colon p t)))) ≡ some ms = rw (to_d p) at (told t d r₄ e₄ ms x i₄ p) in
            let f₁ : to_z w64 (of_z w64 h) ≡ h = to_z-of_z {w = w64} (field_fits (split colon p t) h (first p)) in
            let f₂ : to_z w64 (of_z w64 m) ≡ m = to_z-of_z {w = w64} (field_fits (later (split colon p t)) m (second p)) in
            let f₃ : to_z w64 (of_z w64 s) ≡ s = to_z-of_z {w = w64} (field_fits (later (later (split colon p t))) s (third p)) in
            let f₄ : to_z w64 (of_z w64 ms) ≡ ms = to_z-of_z {w = w64} (field_fits (later (later (later (split colon p t)))) ms a₄) in
            rw e (rw (f₁, f₂, f₃, f₄) (all-good (split colon p t) h (first p) m (second p) s (third p) ms a₄))

-- the sum, or 8 where there is none
pub clock-last : (n : Option ℤ) (q : Result ℤ Refusal) (r : Res ℤ) → q ≡ ok_or n LongTime → num_says n ≡ r → answered q ≡ r
clock-last none q r e f = ap answered e ∙ f
clock-last (some z) q r e f = ap answered e ∙ f

pub time-fits : (ps : List Part) (z : ℤ) → time_at ps ≡ ok z → SFits w64 z
unfolding time_at
time-fits ps z e =
    given bad_time (fields 4 ps) _ e (λ fs q e₁.
    checked long_time (steps fs) (ok (start_of fs)) e₁ (λ k e₂. rw (← ok-injective e₂) (record { sfits = (steps-is fs k).start })))
