-- The bands of a payload in an array: what its words and their number say of the definition. Assumes nothing.
use Prim.Native.Nat.{ℕ, ◌+◌, ◌≤◌, ◌<◌}
use native.Mathlib.Omega.{arith}
use mathlib.Core.Path.{◌≡◌, refl, sym, ap, ◌∙◌}
use mathlib.Core.List.{List}
use borrow.Author.Tests.{le-leb, lt-leb}
use lib.ListN.{length, take}
use Rattle.outcome.specs.Outcome.{Res, ok, refuse, listed, IsOk, many_bands}
use Rattle.grammar.specs.Bytes.{byte}
use Rattle.grammar.specs.Bands.{band_words, most_bands, most_words}
use Rattle.grammar.proofs.Limit.{payload_words}
use Rattle.bands_model.specs.Bands.{bands_of}
use Rattle.bands_model.specs.Count.{bands_held}
use Rattle.bands_model.specs.Answers.{count_of, padded, stored, Stored}
use Rattle.bands_model.proofs.Grammar.{listed-words}
use Rattle.bands_model.proofs.Look.{bands-counted}
use Rattle.bands_model.proofs.Count.{bands_held_lem, padded-front}

pub counted : (g : Res (List ℕ)) (n : ℕ) → count_of 0 g ≡ ok n → IsOk g × (length (listed g) ≡ n)
counted (refuse k) n e = let z : ◌≡◌ {A = ℕ} 0 1 = cc in absurd (omega arith)
counted (ok ws) n e =
    let q : 0 + length ws ≡ n = cc in
    (tt, omega arith)

-- bands that were counted before are read
pub read_known : (g : Res (List ℕ)) → IsOk g → count_of 0 g ≡ ok (length (listed g))
read_known (refuse k) o = absurd o
read_known (ok v) o = ap ok (omega arith)

module _ (s ws : List ℕ) where
  -- what is listed of a payload, from the number of its words
  record Found (n : ℕ) : Type 0 where
    v : List ℕ
    is : bands_of s ≡ ok v
    long : length v ≡ n

  found : (n : ℕ) → count_of 0 (bands_of s) ≡ ok n → Found n
  found n e = go (bands_of s) refl e
    where
      go : (g : Res (List ℕ)) → bands_of s ≡ g → count_of 0 g ≡ ok n → Found n
      go (refuse k) q f = let z : ◌≡◌ {A = ℕ} 0 1 = cc in absurd (omega arith)
      go (ok v) q f = record { v = v; is = q; long = (counted (ok v) n f).1 }

  pub stored-none : (k : ℕ) → count_of 0 (bands_of s) ≡ refuse k → Stored s ws (refuse k) ws
  unfolding stored
  stored-none k e = go (bands_of s) refl e
    where
      go : (g : Res (List ℕ)) → bands_of s ≡ g → count_of 0 g ≡ refuse k
          → Stored s ws (refuse k) ws
      go (ok v) q e = let z : ◌≡◌ {A = ℕ} 0 1 = cc in absurd (omega arith)
      go (refuse m) q e = record { answer = rw q (sym e); words = rw q }

  many : (v : List ℕ) → bands_of s ≡ ok v → most_bands < bands_held v → Stored s ws (refuse many_bands) ws
  unfolding stored
  many v q h = let z = lt-leb (bands_held v) most_bands h in record { answer = rw (q, z); words = rw (q, z) }

  -- more words than 32 bands can take
  pub stored-over : ((i : ℕ) → byte s i < 256) → (n : ℕ) → count_of 0 (bands_of s) ≡ ok n
      → most_words < n → Stored s ws (refuse many_bands) ws
  stored-over small n e h =
      let f = found n e in
      let l = listed-words s f.v f.is in
      let w = payload_words s small (length s) 0 l.bands l.is in
      let k = bands_held_lem l.bands (bands-counted s (length s) 0 l.bands l.is) in
      let m : length f.v ≡ length (band_words l.bands) = ap length l.words in
      let b : bands_held f.v ≡ bands_held (band_words l.bands) = ap bands_held l.words in
      let t = f.long in
      many f.v f.is (omega arith)

  module _ (o : IsOk (bands_of s)) (n : ℕ) (long : n ≡ length (listed (bands_of s))) (few : n ≤ most_words) (us : List ℕ) (filled : us ≡ padded (listed (bands_of s))) (k : ℕ)
      (count : k ≡ bands_held (take n us)) where
    held : k ≡ bands_held (listed (bands_of s))
    held = count ∙ ap (λ (x : List ℕ). bands_held (take n x)) filled ∙ ap bands_held (padded-front (listed (bands_of s)) n long few)

    pub stored-many : most_bands < k → Stored s ws (refuse many_bands) ws
    stored-many h = let e = held in many (listed (bands_of s)) (known (bands_of s) o) (omega arith)
      where
        known : (g : Res (List ℕ)) → IsOk g → g ≡ ok (listed g)
        known (refuse j) o = absurd o
        known (ok v) o = refl

    pub stored-kept : k ≤ most_bands → Stored s ws (ok n) us
    unfolding stored
    stored-kept h = go (bands_of s) refl o long filled held
      where
        go : (g : Res (List ℕ)) → bands_of s ≡ g → IsOk g → n ≡ length (listed g) → us ≡ padded (listed g)
            → k ≡ bands_held (listed g) → Stored s ws (ok n) us
        go (refuse j) q o l f e = absurd o
        go (ok v) q o l f e =
            let z = le-leb (bands_held v) most_bands (omega arith) in
            record { answer = rw (q, z) (ap ok (omega arith)); words = rw (q, z) f }
