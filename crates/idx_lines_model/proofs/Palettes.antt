-- The turns of `parse_palette`, and what its colours are. Assumes nothing.
use Prim.Native.Nat.{ℕ, zero, suc, ◌+◌, ◌-◌, ◌*◌, ◌≤◌, ◌<◌}
use mathlib.Core.Path.{◌≡◌, refl, sym, ap, ◌∙◌}
use mathlib.Core.Bool.{Bool, true, false, ◌||◌}
use Rattle.std.specs.Prelude.{Option, Some as some, None as none}
use mathlib.Core.List.{List, [], ◌∷◌, ◌++◌}
use native.Mathlib.Omega.{arith}
use lib.ListN.{length, get_or, take, drop, drop_of_length-le, length-drop}
use lib.Seq.{drop-cons, take_all, drop-drop, sets}
use lib.Dec.{ltb}
use borrow.Author.Tests.{lt-ltb}
use Rattle.outcome.specs.Outcome.{Res, ok, refuse, bad_token, need, and_then}
use Rattle.grammar.specs.Index.{top_token, palette}
use Rattle.grammar.specs.IndexCues.{some_token, colours_of, palette_from}
use Rattle.grammar.specs.IndexNumbers.{Valued}
use Rattle.grammar.specs.IndexParts.{parting, token_byte}
use Rattle.grammar.specs.Parts.{Part}
use Rattle.idx_numbers_model.specs.Numbers.{hex}
use Rattle.idx_numbers_model.specs.Parts.{part, front, rest}
use Rattle.idx_lines_model.specs.Answers.{Value, coloured, lean, rgb, palette_after, TokensRead}
use Rattle.idx_lines_model.specs.Lines.{cons_with, token_and, tokens, palette_at}
use Rattle.outcome.proofs.Laws.{ok-not-refuse, sets-append}
use Rattle.idx_numbers_model.proofs.Loops.{take-front, front-le, drop-front}
use Rattle.idx_lines_model.proofs.Grammar.{cons_inv}
use Rattle.std.specs.Prelude.{Ok, Err}
use Rattle.outcome.specs.declared.Refusal.TheVariants.{BadToken}
use Rattle.idx_lines_model.specs.declared.Directive.TheVariants.{Palette}

-- one run of bytes that pass from i on, n long
module _ (p : ℕ → Bool) (s : List ℕ) (i n : ℕ) (inside : i ≤ length s) (lead : n ≡ length (front p (take (length s - i) (drop i s)))) where
  run_long : n ≡ length (front p (drop i s))
  run_long = rw (take_all (length s - i) (drop i s) (rw (length-drop i s) (omega arith))) at lead

  pub run_in : i + n ≤ length s
  run_in = omega (arith, run_long, front-le p (drop i s), length-drop i s)

  run_is : take (i + n - i) (drop i s) ≡ front p (drop i s)
  run_is = let e : i + n - i ≡ length (front p (drop i s)) = omega (arith, run_long) in rw e (take-front p (drop i s))

  run-rest : drop (i + n) s ≡ rest p (drop i s)
  run-rest = sym (drop-drop n i s) ∙ ap (λ (m : ℕ). drop m (drop i s)) run_long ∙ drop-front p (drop i s)

-- what the tokens say, after others where t
abbrev pub said_with : Bool → Option (List (Valued ℕ)) → Res (Option Value)
said_with t none = refuse bad_token
said_with t (some ts) = ok (some (coloured (t || some_token ts)))

pub said_all : (i : Part) (at : ℕ) (s : List ℕ) → said_with false (tokens 16 at s) ≡ lean (palette_at i (part at s))
said_all i at s = go (tokens 16 at s)
  where
    go : (o : Option (List (Valued ℕ))) → said_with false o ≡ lean (and_then (need bad_token o) (λ ts. ok (some (palette i ts))))
    go none = refl
    go (some ts) = refl

said-cons : (t : Bool) (p : Part) (v : ℕ) (o : Option (List (Valued ℕ))) → said_with t (cons_with p (some v) o) ≡ said_with true o
said-cons t p v none = refl
said-cons true p v (some ts) = refl
said-cons false p v (some ts) = refl

-- ---- The colours of the tokens before the first bad one, n at most: what the loop has stored when it ends

abbrev pub rgb_then : Option ℕ → List ℕ → List ℕ
rgb_then none cs = []
rgb_then (some v) cs = rgb v ++ cs

abbrev pub colour_and : List ℕ → (List ℕ → List ℕ) → List ℕ
colour_and [] more = []
colour_and (b ∷ s) more = rgb_then (hex top_token (front token_byte (b ∷ s))) (more (rest token_byte (b ∷ s)))

pub colours : ℕ → List ℕ → List ℕ
colours zero s = []
colours (suc n) s = colour_and (rest parting s) (colours n)

-- where all are good, they are the colours of the listed tokens
colours-are : (n at : ℕ) (s : List ℕ) (ts : List (Valued ℕ)) → tokens n at s ≡ some ts → colours n s ≡ colours_of ts
unfolding tokens colours colours_of
colours-are zero at s ts e = let q : [] ≡ ts = cc in rw (← q)
colours-are (suc n) at s ts e = go (colours-are n) (rest parting s) e
  where
    go : ((a : ℕ) (l : List ℕ) (us : List (Valued ℕ)) → tokens n a l ≡ some us → colours n l ≡ colours_of us) → (m : List ℕ)
        → token_and (at + length (front parting s)) m (tokens n) ≡ some ts → colour_and m (colours n) ≡ colours_of ts
    go ih [] f = let q : [] ≡ ts = cc in rw (← q)
    go ih (b ∷ m) f =
        let p : Part = part (at + length (front parting s)) (front token_byte (b ∷ m)) in
        let c = cons_inv p (hex top_token (front token_byte (b ∷ m))) (tokens n (p.place + length (front token_byte (b ∷ m))) (rest token_byte (b ∷ m))) ts f in
        ap (λ (o : Option ℕ). rgb_then o (colours n (rest token_byte (b ∷ m)))) c.2
        ∙ ap (λ (l : List ℕ). rgb c.0 ++ l) (ih (p.place + length (front token_byte (b ∷ m))) (rest token_byte (b ∷ m)) c.1 c.3)
        ∙ ap colours_of c.4

-- k tokens were read, up to i, and their colours stored in a copy of the palette
pub record Colouring (s was now : List ℕ) (k i : ℕ) : Type 0 where
  pub few : k ≤ 16
  pub inside : i ≤ length s
  pub says : (at : ℕ) → said_with false (tokens 16 at s) ≡ said_with (ltb 0 k) (tokens (16 - k) (at + i) (drop i s))
  pub stores : sets was 0 (colours 16 s) ≡ sets now (3 * k) (colours (16 - k) (drop i s))

or-false : (t : Bool) → ok (some (coloured t)) ≡ ok (some (coloured (t || false)))
or-false true = refl
or-false false = refl

-- where something is said, the copy has the colours of the listed tokens
good : (s was now : List ℕ) (v : Value) → sets was 0 (colours 16 s) ≡ now → ((at : ℕ) → said_with false (tokens 16 at s) ≡ ok (some v)) → (i : Part) (at : ℕ)
    → now ≡ palette_after was (palette_at i (part at s))
unfolding palette_from
good s was now v e f i at = go (tokens 16 at s) refl (f at)
  where
    go : (o : Option (List (Valued ℕ))) → tokens 16 at s ≡ o → said_with false o ≡ ok (some v) → now ≡ palette_after was (and_then (need bad_token o) (λ ts. ok (some (palette i ts))))
    go none q g = ok-not-refuse g
    go (some ts) q g = sym e ∙ ap (sets was 0) (colours-are 16 at s ts q)

pub colouring_full : (s was now : List ℕ) (k i : ℕ) → Colouring s was now k i → 16 ≤ k → TokensRead s was (Ok (some (Palette true))) now
unfolding tokens colours
colouring_full s was now k i h l =
    let z : 16 - k ≡ 0 = omega arith in
    let p : ltb 0 k ≡ true = lt-ltb 0 k (omega arith) in
    record {
      says = λ j at. sym (rw (z, p) at (h.says at)) ∙ said_all j at s;
      palette = good s was now (coloured true) (rw z at h.stores) (λ at. rw (z, p) at (h.says at));
    }

bad : (s was : List ℕ) (i : Part) (at : ℕ) → said_with false (tokens 16 at s) ≡ refuse bad_token → was ≡ palette_after was (palette_at i (part at s))
bad s was i at f = go (tokens 16 at s) f
  where
    go : (o : Option (List (Valued ℕ))) → said_with false o ≡ refuse bad_token → was ≡ palette_after was (and_then (need bad_token o) (λ ts. ok (some (palette i ts))))
    go none g = refl
    go (some ts) g = ok-not-refuse (sym g)

module _ (s was now : List ℕ) (k i : ℕ) (h : Colouring s was now k i) (less : k < 16) (a : ℕ) (lead : a ≡ length (front parting (take (length s - i) (drop i s)))) where
  next : 16 - k ≡ suc (16 - (k + 1))
  next = omega arith

  gap : length (front parting (drop i s)) ≡ a
  gap = sym (run_long parting s i a h.inside lead)

  after-gap : rest parting (drop i s) ≡ drop (i + a) s
  after-gap = sym (run-rest parting s i a h.inside lead)

  pub gap_in : i + a ≤ length s
  gap_in = run_in parting s i a h.inside lead

  pub colouring_ends : length s ≤ i + a → TokensRead s was (Ok (some (Palette (ltb 0 k)))) now
  unfolding tokens colours
  colouring_ends l =
      let d : drop (i + a) s ≡ [] = drop_of_length-le s l in
      record {
        says = λ j at. or-false (ltb 0 k) ∙ sym (rw (next, after-gap, d) at (h.says at)) ∙ said_all j at s;
        palette = good s was now (coloured (ltb 0 k)) (rw (next, after-gap, d) at h.stores) (λ at. rw (next, after-gap, d) at (h.says at) ∙ sym (or-false (ltb 0 k)));
      }

  module _ (l : i + a < length s) (b : ℕ) (lead' : b ≡ length (front token_byte (take (length s - (i + a)) (drop (i + a) s)))) where
    in' : i + a ≤ length s
    in' = omega arith

    pub token_in : i + a + b ≤ length s
    token_in = run_in token_byte s (i + a) b in' lead'

    module _ (m : Option ℕ) (read : m ≡ hex top_token (take (i + a + b - (i + a)) (drop (i + a) s))) where
      tok : take (i + a + b - (i + a)) (drop (i + a) s) ≡ front token_byte (drop (i + a) s)
      tok = run_is token_byte s (i + a) b in' lead'

      long : length (front token_byte (drop (i + a) s)) ≡ b
      long = sym (run_long token_byte s (i + a) b in' lead')

      left : rest token_byte (drop (i + a) s) ≡ drop (i + a + b) s
      left = sym (run-rest token_byte s (i + a) b in' lead')

      number : m ≡ hex top_token (front token_byte (drop (i + a) s))
      number = rw tok at read

      step : (n at : ℕ) → tokens (suc n) (at + i) (drop i s)
          ≡ cons_with (part (at + i + a) (front token_byte (drop (i + a) s))) (hex top_token (front token_byte (drop (i + a) s))) (tokens n (at + (i + a + b)) (drop (i + a + b) s))
      unfolding tokens
      step n at =
          rw (gap, after-gap) (go (drop (i + a) s) (drop-cons s (i + a) 0 l) ∙ rw (left, long) (ap (λ (q : ℕ). cons_with (part (at + i + a) (front token_byte (drop (i + a) s))) (hex top_token (front token_byte (drop (i + a) s))) (tokens n q (drop (i + a + b) s))) (omega arith)))
        where
          go : (x : List ℕ) → x ≡ get_or s (i + a) 0 ∷ drop (suc (i + a)) s → token_and (at + i + a) x (tokens n)
              ≡ cons_with (part (at + i + a) (front token_byte x)) (hex top_token (front token_byte x)) (tokens n (at + i + a + length (front token_byte x)) (rest token_byte x))
          go x e = rw e

      hues : (n : ℕ) → colours (suc n) (drop i s) ≡ rgb_then (hex top_token (front token_byte (drop (i + a) s))) (colours n (drop (i + a + b) s))
      unfolding colours
      hues n = rw after-gap (go (drop (i + a) s) (drop-cons s (i + a) 0 l) ∙ rw left)
        where
          go : (x : List ℕ) → x ≡ get_or s (i + a) 0 ∷ drop (suc (i + a)) s → colour_and x (colours n) ≡ rgb_then (hex top_token (front token_byte x)) (colours n (rest token_byte x))
          go x e = rw e

      -- a bad token leaves the palette as it was
      pub colouring_wrong : m ≡ none → (kept : List ℕ) → kept ≡ was → TokensRead s was (Err BadToken) kept
      colouring_wrong e kept q =
          let f : (at : ℕ) → said_with false (tokens 16 at s) ≡ refuse bad_token = λ at. h.says at ∙ rw (next, step (16 - (k + 1)) at, ← number, e) in
          record {
            says = λ j at. sym (f at) ∙ said_all j at s;
            palette = λ j at. q ∙ bad s was j at (f at);
          }

      pub colouring_more : (v : ℕ) → m ≡ some v → (new : List ℕ) → new ≡ sets now (3 * k) (rgb v) → Colouring s was new (k + 1) (i + a + b)
      colouring_more v e new f =
          let z : 3 * k + 3 ≡ 3 * (k + 1) = omega arith in
          let p : ltb 0 (k + 1) ≡ true = lt-ltb 0 (k + 1) (omega arith) in
          record {
            few = omega arith;
            inside = token_in;
            says = λ at. h.says at ∙ rw (next, step (16 - (k + 1)) at, ← number, e, p) (said-cons (ltb 0 k) (part (at + i + a) (front token_byte (drop (i + a) s))) v (tokens (16 - (k + 1)) (at + (i + a + b)) (drop (i + a + b) s)));
            stores = h.stores ∙ rw (next, hues (16 - (k + 1)), ← number, e) (sets-append now (3 * k) (rgb v) (colours (16 - (k + 1)) (drop (i + a + b) s)) ∙ rw (z, f));
          }
