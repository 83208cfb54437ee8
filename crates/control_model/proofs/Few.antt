-- A unit has at most 32 bands exactly where its words are at most 1,536 and hold at most 32 of them. Assumes nothing.
use Prim.Native.Nat.{ℕ, ◌≤◌, ◌<◌}
use native.Mathlib.Omega.{arith}
use mathlib.Core.Path.{◌≡◌, refl, sym, ap, ◌∙◌, subst}
use mathlib.Core.Logic.{◌↔◌}
use mathlib.Core.List.{List, [], ◌∷◌}
use borrow.Author.Tests.{le-leb, lt-leb, leb-true}
use lib.ListN.{length, take}
use lib.Seq.{sets}
use lib.Dec.{leb}
use mir.Syntax.{w8}
use mir.Val.{Fits}
use Rattle.outcome.specs.Outcome.{Res, ok, refuse, IsOk, listed, no_area, many_bands}
use Rattle.outcome.proofs.Laws.{ok-injective, ok-not-refuse, refuse-injective, and_then-ok, check-ok}
use Rattle.grammar.specs.Bytes.{byte}
use Rattle.grammar.specs.Bands.{Band, IsBand, band_words, most_bands, most_words}
use Rattle.grammar.specs.Control.{Block, IsChain}
use Rattle.grammar.specs.Record.{told}
use Rattle.grammar.proofs.Limit.{Each, of-told, unit_words_lem, most_words-hold}
use Rattle.bands_model.specs.Answers.{padded}
use Rattle.bands_model.specs.Count.{bands_held}
use Rattle.bands_model.specs.Look.{Counted}
use Rattle.bands_model.proofs.Count.{bands_held_lem, padded-front}
use Rattle.control_model.specs.Chain.{chain_at, has_area, control_at}
use Rattle.control_model.specs.Fill.{unit_words}
use Rattle.control_model.specs.Few.{few_at, bands_given}
use Rattle.control_model.proofs.Grammar.{chain_iff}

-- ---- Every band that is told has as many entries as its header says

counts : (u : List ℕ) (e : ℕ) (b : Band) → IsBand u e b → length b.entries ≡ b.count
counts u e b h = h.all

each-counted : (bs : List Band) → Each (λ (b : Band). length b.entries ≡ b.count) bs → Counted bs
unfolding Each Counted
each-counted [] h = tt
each-counted (b ∷ bs) h = (h.0, each-counted bs h.1)

pub told-counted : (u : List ℕ) (bs : List Block) → IsChain u bs → Counted (told bs).bands
told-counted u bs h = each-counted (told bs).bands (of-told (λ (b : Band). length b.entries ≡ b.count) u (counts u) bs h)

-- ---- The definition

pub few_iff : (u : List ℕ) (bs : List Block)
    → (few_at u ≡ ok bs) ↔ ((control_at u ≡ ok bs) × (length (told bs).bands ≤ most_bands))
unfolding few_at
few_iff u bs = (to, λ h. rw (h.0, le-leb (length (told bs).bands) most_bands h.1))
  where
    to : few_at u ≡ ok bs → (control_at u ≡ ok bs) × (length (told bs).bands ≤ most_bands)
    to e =
        let a = and_then-ok (control_at u) _ e in
        let b = check-ok (leb (length (told a.0).bands) most_bands) many_bands (ok a.0) a.2 in
        let q : a.0 ≡ bs = cc b.1 in
        (a.1 ∙ ap ok q, subst (λ (x : List Block). length (told x).bands ≤ most_bands) q (leb-true _ _ b.0))

pub few_refused : (u : List ℕ) (bs : List Block) → control_at u ≡ ok bs → most_bands < length (told bs).bands
    → few_at u ≡ refuse many_bands
unfolding few_at
few_refused u bs e h = rw (e, lt-leb (length (told bs).bands) most_bands h)

-- ---- The words in an array

control_chain : (u : List ℕ) (bs : List Block) → control_at u ≡ ok bs → IsChain u bs
unfolding control_at
control_chain u bs e =
    let a = and_then-ok (chain_at u) _ e in
    let b = check-ok (has_area (told a.0)) no_area (ok a.0) a.2 in
    let q : a.0 ≡ bs = cc b.1 in
    (chain_iff u bs).0 (a.1 ∙ ap ok q)

found : (r : Res (List Block)) → IsOk r → (bs : List Block) × (r ≡ ok bs)
found (ok bs) h = (bs, refl)
found (refuse n) h = absurd h

module _ (u : List ℕ) (bytes : (i : ℕ) → Fits w8 (byte u i)) (is_ok : IsOk (control_at u)) (n : ℕ) (long : n ≡ length (unit_words u)) where
  abbrev blocks : List Block
  blocks = (found (control_at u) is_ok).0

  is : control_at u ≡ ok blocks
  is = (found (control_at u) is_ok).1

  words_are : unit_words u ≡ band_words (told blocks).bands
  words_are = ap (λ (r : Res (List Block)). band_words (told (listed r)).bands) is

  many : most_bands < length (told blocks).bands → refuse many_bands ≡ bands_given (few_at u)
  many h = ap bands_given (sym (few_refused u blocks is h))

  -- more words than 32 bands can take
  pub few_over : most_words < n → refuse many_bands ≡ bands_given (few_at u)
  few_over h =
      let w = unit_words_lem u (λ i. (bytes i).fits) blocks (control_chain u blocks is) in
      let l : length (unit_words u) ≡ length (band_words (told blocks).bands) = ap length words_are in
      many (omega arith)

  module _ (ws : List ℕ) (k : ℕ) (few : n ≤ most_words) (filled : ws ≡ padded (unit_words u)) (count : k ≡ bands_held (take n ws)) where
    counted : k ≡ length (told blocks).bands
    counted =
        count ∙ ap (λ (x : List ℕ). bands_held (take n x)) filled ∙ ap bands_held (padded-front (unit_words u) n long few ∙ words_are)
        ∙ bands_held_lem (told blocks).bands (told-counted u blocks (control_chain u blocks is))

    pub few_many : most_bands < k → refuse many_bands ≡ bands_given (few_at u)
    few_many l = let c = counted in many (omega arith)

    pub few-kept : k ≤ most_bands → ok ws ≡ bands_given (few_at u)
    few-kept l =
        let c = counted in
        let g : ws ≡ padded (band_words (told blocks).bands) = filled ∙ ap padded words_are in
        let p : ok ws ≡ bands_given (ok blocks) = ap ok g in
        p ∙ ap bands_given (sym ((few_iff u blocks).1 (is, omega arith)))

-- no words are stored as none
pub no_words : (ws vs : List ℕ) (n : ℕ) → n ≡ length vs → n ≤ 0 → ws ≡ sets ws 0 vs
no_words ws [] n e h = refl
no_words ws (v ∷ vs) n e h = absurd (omega arith)

-- ---- What the array of a unit says

module _ (u : List ℕ) (b : Res (List ℕ)) (e : b ≡ bands_given (few_at u)) where
  pub given-refused : (k : ℕ) → b ≡ refuse k → few_at u ≡ refuse k
  given-refused k d = go (few_at u) refl (sym d ∙ e)
    where
      go : (r : Res (List Block)) → few_at u ≡ r → refuse k ≡ bands_given r → few_at u ≡ refuse k
      go (ok bs) q f = absurd (ok-not-refuse f)
      go (refuse n) q f = q ∙ ap refuse (sym (refuse-injective f))

  module _ (bs : List Block) (is : control_at u ≡ ok bs) (ws : List ℕ) (d : b ≡ ok ws) where
    -- the unit has few bands, and these are their words
    pub given-few : (few_at u ≡ ok bs) × (ws ≡ padded (band_words (told bs).bands))
    given-few = go (few_at u) refl (sym d ∙ e)
      where
        go : (r : Res (List Block)) → few_at u ≡ r → ok ws ≡ bands_given r
            → (few_at u ≡ ok bs) × (ws ≡ padded (band_words (told bs).bands))
        go (ok cs) q f =
            let s : cs ≡ bs = ok-injective (sym ((few_iff u cs).0 q).0 ∙ is) in
            (q ∙ ap ok s, ok-injective f ∙ ap (λ (x : List Block). padded (band_words (told x).bands)) s)
        go (refuse n) q f = absurd (ok-not-refuse (sym f))

    -- which fit
    pub given-words : ((i : ℕ) → Fits w8 (byte u i)) → length (band_words (told bs).bands) ≤ most_words
    given-words bytes = most_words-hold u (λ i. (bytes i).fits) bs (control_chain u bs is) ((few_iff u bs).0 given-few.0).1
