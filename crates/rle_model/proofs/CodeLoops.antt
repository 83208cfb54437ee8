-- One turn of the loop over a code's nibbles, over plain variables, and what each answer says of the definitions. Assumes nothing.
use Prim.Native.Nat.{ℕ, zero, suc, ◌+◌, ◌-◌, ◌*◌, ◌/◌, ◌^◌, ◌≤◌, ◌<◌}
use native.Mathlib.Nat.{pow-succ', eq-or-lt_of_le}
use native.Mathlib.Numerals.{add-one}
use native.Mathlib.Omega.{arith}
use mathlib.Core.Path.{◌≡◌, refl, sym, ap, ◌∙◌, subst}
use mathlib.Core.Bool.{Bool, false}
use mathlib.Core.Logic.{⊎_elim}
use mathlib.Core.List.{List}
use lib.Dec.{ltb}
use borrow.Author.Tests.{le-leb, lt-leb, lt-ltb, le-ltb, eq-eqb, ne_eqb}
use Rattle.outcome.specs.Outcome.{Res, ok, refuse, field_ran_out}
use Rattle.outcome.proofs.Laws.{ok-injective}
use Rattle.grammar.specs.Bytes.{nibble, nibbles}
use Rattle.grammar.specs.Rows.{Code, code, IsCode, overshoots}
use Rattle.rle_model.specs.Codes.{made, code_from, code_at}
use Rattle.rle_model.specs.CodeAnswers.{code_found, code_answer, code_end}
use Rattle.rle_model.specs.declared.CodeRead.{CodeRead}
use Rattle.rle_model.proofs.Grammar.{code-sound}

-- ---- Nibbles of a code, at every length

pub nibbles-step : (u : List ℕ) (p k : ℕ) → nibbles u p (k + 1) ≡ nibbles u p k * 16 + nibble u (p + k)
unfolding nibbles
nibbles-step u p k = rw add-one

pub pow_step : (k : ℕ) → 4 ^ (k + 1) ≡ 4 * 4 ^ k
pow_step k = rw (add-one, pow-succ' 4 k)

pub pow_most : (k : ℕ) → k ≤ 3 → 4 ^ k ≤ 64
pow_most zero h = omega arith
pow_most (suc zero) h = omega arith
pow_most (suc (suc zero)) h = omega arith
pow_most (suc (suc (suc zero))) h = omega arith
pow_most (suc (suc (suc (suc k)))) h = absurd (omega arith)

module _ (u : List ℕ) (e p k : ℕ) where
  pub code-short : 2 * e < p + k → code_from u e p (4 - k) k ≡ refuse field_ran_out
  unfolding code_from
  code-short h = go (4 - k)
    where
      go : (j : ℕ) → code_from u e p j k ≡ refuse field_ran_out
      go zero = rw (lt-leb _ _ h)
      go (suc j) = rw (lt-leb _ _ h)

  pub code-hit : p + k ≤ 2 * e → 4 ^ k ≤ nibbles u p k → code_from u e p (4 - k) k ≡ ok (made u p k)
  unfolding code_from
  code-hit h l = go (4 - k)
    where
      go : (j : ℕ) → code_from u e p j k ≡ ok (made u p k)
      go zero = rw (le-leb _ _ h)
      go (suc j) = rw (le-leb _ _ h, le-leb _ _ l)

  pub code-last : k ≡ 4 → p + k ≤ 2 * e → code_from u e p (4 - k) k ≡ ok (made u p k)
  unfolding code_from
  code-last q h = let z : 4 - k ≡ 0 = omega arith in rw (z, le-leb _ _ h)

  pub code-next : k < 4 → p + k ≤ 2 * e → nibbles u p k < 4 ^ k → code_from u e p (4 - k) k ≡ code_from u e p (4 - (k + 1)) (k + 1)
  unfolding code_from
  code-next b h l =
      let z : 4 - k ≡ suc (4 - (k + 1)) = omega arith in
      rw (z, le-leb _ _ h, lt-leb _ _ l, add-one)

-- ---- Whether a code is clipped, by the length at which it was found

-- a code found for its number fills nothing: it is clipped where its run is longer than what is left
pub hit_clips : (left p k v : ℕ) → k ≤ 4 → 4 ^ k ≤ v → overshoots left (code p k v) ≡ ltb left (v / 4)
unfolding overshoots
hit_clips left p k v f h =
    ⊎_elim (λ q. let l : 256 ≤ v = rw q at h in rw (eq-eqb k 4 q, le-ltb v 256 l))
    (λ q. rw (ne_eqb k 4 (omega arith))) (eq-or-lt_of_le f)

-- the last length with a smaller number is a fill
pub last-clips : (left p k v : ℕ) → k ≡ 4 → v < 4 ^ k → overshoots left (code p k v) ≡ false
unfolding overshoots
last-clips left p k v q h = let l : v < 256 = rw q at h in rw (eq-eqb k 4 q, lt-ltb v 256 l)

-- ---- What an answer says

-- of a code
pub record Coded (u : List ℕ) (e p k v : ℕ) (x : ℕ) : Type 0 where
  pub here : code_at u e p ≡ ok (code p k v)
  pub goes : x ≡ p + k
  pub is : IsCode u e (code p k v)

pub coded : (u : List ℕ) (e left p k v : ℕ) (b : Bool) (x : ℕ)
    → ok (code_found k v b) ≡ code_answer left (code_at u e p) → x ≡ code_end u p (code_at u e p) → Coded u e p k v x
coded u e left p k v b x q r = go (code_at u e p) refl q r
  where
    go : (o : Res Code) → code_at u e p ≡ o → ok (code_found k v b) ≡ code_answer left o → x ≡ code_end u p o → Coded u e p k v x
    go (refuse n) h q' r' = let z : ◌≡◌ {A = ℕ} 0 1 = cc in absurd (omega arith)
    go (ok c) h q' r' =
        let f = code-sound u e p c h in
        let z : code_found k v b ≡ code_found c.size c.value (overshoots left c) = ok-injective q' in
        let ek : c.size ≡ k = sym (ap (λ (r : CodeRead). r.size) z) in
        let ev : c.value ≡ v = sym (ap (λ (r : CodeRead). r.value) z) in
        let same : c ≡ code p k v = λ i. record { place = f.0 i; size = ek i; value = ev i } in
        record {
          here = h ∙ ap ok same;
          goes = r' ∙ (λ i. f.0 i + ek i);
          is = subst (IsCode u e) same f.1;
        }

-- and whether it is clipped
pub coded-clipped : (u : List ℕ) (e left p k v : ℕ) (b : Bool)
    → ok (code_found k v b) ≡ code_answer left (code_at u e p) → b ≡ overshoots left (code p k v)
coded-clipped u e left p k v b q =
    let h = (coded u e left p k v b _ q refl).here in
    ap (λ (r : CodeRead). r.clipped) (ok-injective (q ∙ ap (code_answer left) h))

pub uncoded : (u : List ℕ) (e left p n : ℕ) → refuse n ≡ code_answer left (code_at u e p)
    → code_at u e p ≡ refuse n
uncoded u e left p n q = go (code_at u e p) refl q
  where
    go : (o : Res Code) → code_at u e p ≡ o → refuse n ≡ code_answer left o → code_at u e p ≡ refuse n
    go (refuse m) h q' = let z : m ≡ n = cc in h ∙ ap refuse z
    go (ok c) h q' = let z : ◌≡◌ {A = ℕ} 0 1 = cc in absurd (omega arith)
