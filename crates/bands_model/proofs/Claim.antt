-- What the answer for a payload says in the grammar's words. Assumes nothing.
use Prim.Native.Nat.{ℕ, ◌+◌, ◌≤◌, ◌<◌}
use native.Mathlib.Omega.{arith}
use mathlib.Core.Path.{◌≡◌, refl, sym, ap, ◌∙◌, subst}
use mathlib.Core.Logic.{inl, inr, ⊎_elim, ◌↔◌}
use mathlib.Core.List.{List}
use lib.ListN.{length}
use borrow.Author.Tests.{le-leb, lt-leb}
use Rattle.outcome.specs.Outcome.{Res, ok, refuse, many_bands}
use Rattle.outcome.proofs.Laws.{ok-not-refuse, ok-injective, le_or_lt}
use Rattle.grammar.specs.Bytes.{byte}
use Rattle.grammar.specs.Bands.{Band, band_words, most_bands}
use Rattle.grammar.proofs.Limit.{payload_words}
use Rattle.bands_model.specs.Bands.{bands_of}
use Rattle.bands_model.specs.Count.{bands_held}
use Rattle.bands_model.specs.Answers.{count_of, stored, array_after, Stored}
use Rattle.bands_model.specs.Claim.{PayloadBands, TooMany, Says}
use Rattle.bands_model.proofs.Grammar.{listed-words, words-listed}
use Rattle.bands_model.proofs.Refusals.{bands-refuses}
use Rattle.bands_model.proofs.Look.{bands-counted}
use Rattle.bands_model.proofs.Count.{bands_held_lem, padded-record}

-- the bands that are listed in a payload give its words, and these hold as many
words_of : (s : List ℕ) (bs : List Band) → PayloadBands s bs → bands_of s ≡ ok (band_words bs)
words_of s bs h = words-listed s (band_words bs) (record { bands = bs; is = h; words = refl })

held_of : (s : List ℕ) (bs : List Band) → PayloadBands s bs → bands_held (band_words bs) ≡ length bs
held_of s bs h = bands_held_lem bs (bands-counted s (length s) 0 bs h)

pub claim : (s : List ℕ) → ((i : ℕ) → byte s i < 256) → (ws : List ℕ) (r : Res ℕ) (ws' : List ℕ)
    → Stored s ws r ws' → Says s ws ws' r
unfolding stored
claim s small ws r ws' d = go (bands_of s) refl
  where
    -- the answer and the array of what is found
    by : (v : Res (List ℕ)) → stored s ≡ v → (ws' ≡ array_after ws v → Says s ws ws' (count_of 0 v)) → Says s ws ws' r
    by v q f = subst (λ (x : Res ℕ). Says s ws ws' x) (sym (d.answer ∙ ap (count_of 0) q)) (f (d.words ∙ ap (array_after ws) q))

    go : (v : Res (List ℕ)) → bands_of s ≡ v → Says s ws ws' r
    go (refuse k) q = by (refuse k) (rw q) (λ f. (f, inl (bands-refuses s k q, λ bs h. ok-not-refuse (sym q ∙ words_of s bs h))))
    go (ok vs) q =
        let l = listed-words s vs q in
        let n : bands_held vs ≡ length l.bands = ap bands_held l.words ∙ held_of s l.bands l.is in
        ⊎_elim
        (λ (h : bands_held vs ≤ most_bands).
        let w = payload_words s small (length s) 0 l.bands l.is in
        let c : 0 + length vs ≡ length (band_words l.bands) = let m = ap length l.words in omega arith in
        by (ok vs) (rw (q, le-leb _ _ h))
        (λ f. (l.bands, l.is, omega arith, c, f ∙ ap (array_after ws) (ap ok l.words) ∙ padded-record l.bands (omega arith), few vs q h)))
        (λ (h : most_bands < bands_held vs). by (refuse many_bands) (rw (q, lt-leb _ _ h)) (λ f. (f, inr (refl, (l.bands, l.is, omega arith)))))
        (le_or_lt (bands_held vs) most_bands)
      where
        few : (vs : List ℕ) → bands_of s ≡ ok vs → bands_held vs ≤ most_bands → TooMany s → ⊥
        few vs q h t =
            let e : band_words t.0 ≡ vs = ok-injective (sym (words_of s t.0 t.1) ∙ q) in
            let n : bands_held vs ≡ length t.0 = sym (ap bands_held e) ∙ held_of s t.0 t.1 in
            let m = t.2 in
            omega arith

-- 34 exactly where more than 32 bands are listed
pub payload_many : (s : List ℕ) → ((i : ℕ) → byte s i < 256) → (ws : List ℕ) (r : Res ℕ) (ws' : List ℕ)
    → Stored s ws r ws'
    → (r ≡ refuse many_bands) ↔ TooMany s
payload_many s small ws r ws' d = (λ e. many r e (claim s small ws r ws' d), λ t. refused r (claim s small ws r ws' d) t)
  where
    many : (a : Res ℕ) → a ≡ refuse many_bands → Says s ws ws' a → TooMany s
    many (ok n) e c = let z : ◌≡◌ {A = ℕ} 0 1 = cc e in absurd (omega arith)
    many (refuse k) e c =
        let z : k ≡ many_bands = cc e in
        ⊎_elim (λ h. let y = h.0 in absurd (omega arith)) (λ h. h.1) c.1

    refused : (a : Res ℕ) → Says s ws ws' a → TooMany s → a ≡ refuse many_bands
    refused (ok n) c t = absurd (c.5 t)
    refused (refuse k) c t = ⊎_elim (λ h. absurd (h.1 t.0 t.1)) (λ h. ap refuse h.0) c.1

-- the equation with the claim, as the contract has both
pub claimed : {s : List ℕ} → ((i : ℕ) → byte s i < 256) → {ws : List ℕ} {r : Res ℕ} {ws' : List ℕ}
    → Stored s ws r ws' → Stored s ws r ws' × Says s ws ws' r
claimed {s} small {ws} {r} {ws'} d = (d, claim s small ws r ws' d)
