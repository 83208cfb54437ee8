-- The bands that a payload's words hold are the ones that the grammar lists there. Assumes nothing.
use Prim.Native.Nat.{ℕ, suc, ◌+◌, ◌*◌, ◌≤◌}
use native.Mathlib.Omega.{arith}
use mathlib.Core.Path.{◌≡◌, refl, sym, ap, ◌∙◌, subst}
use mathlib.Core.Logic.{inl, inr}
use mathlib.Core.List.{List, [], ◌∷◌, ◌++◌}
use lib.ListN.{length, length-append}
use lib.Seq.{slice}
use Rattle.outcome.specs.Outcome.{ok}
use Rattle.outcome.proofs.Laws.{map_res-ok}
use Rattle.grammar.specs.Bands.{Entry, Band, Entries, Bands, band_end, entry_words, band_words}
use Rattle.bands_model.specs.Bands.{bands_of}
use Rattle.bands_model.proofs.Grammar.{bands-complete, bands-iff}
use Rattle.control_model.specs.Listed.{Rest, rest, with_entry, with_band, held, held_bands, bands_at}

-- entries, and then bands that are held
entries-held : (u : List ℕ) (e p least : ℕ) (es : List Entry) (bs : List Band) → Entries u e p least es
    → ((q : ℕ) → q ≡ p + 6 * length es → held 0 q (band_words bs) ≡ rest [] bs) → held (length es) p (entry_words es ++ band_words bs) ≡ rest es bs
unfolding held Entries entry_words
entries-held u e p least [] bs x k = k p (omega arith)
entries-held u e p least (y ∷ es) bs x k =
    let i : held (length es) (p + 6) (entry_words es ++ band_words bs) ≡ rest es bs = entries-held u e (p + 6) (suc y.column) es bs x.2 (λ q h. k q (omega arith)) in
    ap (with_entry p y.column y.selectors y.alphas) i
    ∙ (λ t. rest (record { place = sym x.0 t; column = y.column; selectors = y.selectors; alphas = y.alphas } ∷ es) bs)

bands_held_lem : (u : List ℕ) (e p : ℕ) (bs : List Band) → Bands u e p bs → held 0 p (band_words bs) ≡ rest [] bs
unfolding held Bands band_words
bands_held_lem u e p [] x = refl
bands_held_lem u e p (b ∷ bs) x =
    let n : length b.entries ≡ b.count = x.1.all in
    let q : b.place ≡ p = x.0 in
    let i : held (length b.entries) (b.place + 4) (entry_words b.entries ++ band_words bs) ≡ rest b.entries bs =
    entries-held u e (b.place + 4) 0 b.entries bs x.1.list (λ r h. let m : band_end b ≡ r = omega arith in bands_held_lem u e r bs (subst (λ (k : ℕ). Bands u e k bs) m x.2)) in
    let j : held b.count (p + 4) (entry_words b.entries ++ band_words bs) ≡ rest b.entries bs = subst (λ (k : ℕ). held k (p + 4) (entry_words b.entries ++ band_words bs) ≡ rest b.entries bs) n (subst (λ (k : ℕ). held (length b.entries) (k + 4) (entry_words b.entries ++ band_words bs) ≡ rest b.entries bs) q i) in
    ap (with_band p b.first b.last b.count) j
    ∙ (λ t. rest [] (record { place = sym q t; first = b.first; last = b.last; count = b.count; entries = b.entries } ∷ bs))

-- bands stand before e
bands-inside : (u : List ℕ) (e p : ℕ) (bs : List Band) → Bands u e p bs → p ≤ e
unfolding Bands
bands-inside u e p [] (inl q) = omega arith
bands-inside u e p [] (inr m) = let w = m.within in omega arith
bands-inside u e p (b ∷ bs) x = let w = x.1.within in let q = x.0 in omega arith

-- bands take fewer words than bytes
entry_words_lem : (es : List Entry) → length (entry_words es) ≡ 3 * length es
unfolding entry_words
entry_words_lem [] = refl
entry_words_lem (x ∷ es) = let h = entry_words_lem es in omega arith

pub bands-few : (u : List ℕ) (e p : ℕ) (bs : List Band) → Bands u e p bs → length (band_words bs) + p ≤ e
unfolding Bands band_words
bands-few u e p [] x = let h = bands-inside u e p [] x in omega arith
bands-few u e p (b ∷ bs) x =
    let n = x.1.all in
    let q = x.0 in
    let i = bands-few u e (band_end b) bs x.2 in
    let j = entry_words_lem b.entries in
    let l = length-append (entry_words b.entries) (band_words bs) in
    omega arith

module _ (u : List ℕ) (e : ℕ) (k : e ≤ length u) where
  pub bands-found : (p : ℕ) (bs : List Band) → Bands u e p bs → bands_at u e p ≡ ok bs
  unfolding bands_at
  bands-found p bs x = rw (bands-complete u e k bs p x) (ap (λ (r : Rest). ok r.bands) (bands_held_lem u e p bs x))

  pub bands-listed : (p : ℕ) (bs : List Band) → p ≤ e → bands_at u e p ≡ ok bs → Bands u e p bs × (bands_of (slice p e u) ≡ ok (band_words bs))
  unfolding bands_at
  bands-listed p bs h q =
      let w = map_res-ok (held_bands p) (bands_of (slice p e u)) q in
      let l = (bands-iff u e p w.0 k h).0 w.1 in
      let b : l.bands ≡ bs = sym (ap (λ (r : Rest). r.bands) (bands_held_lem u e p l.bands l.is)) ∙ sym (ap (held_bands p) l.words) ∙ w.2 in
      (subst (Bands u e p) b l.is, w.1 ∙ ap ok (l.words ∙ ap band_words b))
