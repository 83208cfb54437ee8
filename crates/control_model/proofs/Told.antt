-- What a record is after one command more: the record of what was told, with what that command tells. Assumes nothing.
use Prim.Native.Nat.{ℕ, zero, suc, ◌+◌, ◌*◌, ◌≤◌, ◌<◌}
use native.Mathlib.Omega.{arith}
use mathlib.Core.Path.{◌≡◌, refl, sym, ap, ◌∙◌, subst}
use mathlib.Core.Bool.{Bool, true, false}
use Rattle.std.specs.Prelude.{Option, Some as some, None as none}
use mathlib.Core.Logic.{◌⊎◌, inl, inr, ⊎_elim}
use Rattle.outcome.proofs.Laws.{le_or_lt}
use Rattle.grammar.specs.Bytes.{nibbles}
use Rattle.control_model.specs.Chain.{area_at, plain_at}
use mathlib.Core.List.{List, ◌++◌}
use lib.ListN.{length, length-append}
use Rattle.grammar.specs.Bands.{Band, band_words}
use Rattle.grammar.specs.Control.{Order, size_of, forced_start, start, stop, selectors, alphas, area, offsets, colours}
use Rattle.grammar.specs.Record.{Told, given, delay_of}
use Rattle.clock_model.specs.Answers.{ticks}
use Rattle.control_model.specs.Fold.{tell, first}
use Rattle.bands_model.proofs.Loops.{words-join}
use Rattle.control_model.specs.Answers.{spu_of}
use Rattle.control_model.specs.declared.Spu.{Spu}
use Rattle.rle_model.specs.Answers.{nothing}

-- ---- A record with other values

abbrev pub start_set : Bool → ℕ → Spu → Spu
start_set b d s = record { x1 = s.x1; y1 = s.y1; x2 = s.x2; y2 = s.y2; palette_sel = s.palette_sel; alpha = s.alpha; started = b; start_delay_raw = ticks d; stopped = s.stopped; stop_delay_raw = s.stop_delay_raw; forced_display = s.forced_display; top_rle_off = s.top_rle_off; bot_rle_off = s.bot_rle_off; saw_chg_colcon = s.saw_chg_colcon; band_words = s.band_words; codes = s.codes; clipped = s.clipped }

abbrev pub forced_set : Spu → Spu
forced_set s = record { x1 = s.x1; y1 = s.y1; x2 = s.x2; y2 = s.y2; palette_sel = s.palette_sel; alpha = s.alpha; started = s.started; start_delay_raw = s.start_delay_raw; stopped = s.stopped; stop_delay_raw = s.stop_delay_raw; forced_display = true; top_rle_off = s.top_rle_off; bot_rle_off = s.bot_rle_off; saw_chg_colcon = s.saw_chg_colcon; band_words = s.band_words; codes = s.codes; clipped = s.clipped }

abbrev pub stop_set : ℕ → Spu → Spu
stop_set d s = record { x1 = s.x1; y1 = s.y1; x2 = s.x2; y2 = s.y2; palette_sel = s.palette_sel; alpha = s.alpha; started = s.started; start_delay_raw = s.start_delay_raw; stopped = true; stop_delay_raw = ticks d; forced_display = s.forced_display; top_rle_off = s.top_rle_off; bot_rle_off = s.bot_rle_off; saw_chg_colcon = s.saw_chg_colcon; band_words = s.band_words; codes = s.codes; clipped = s.clipped }

abbrev pub selectors_set : ℕ → Spu → Spu
selectors_set w s = record { x1 = s.x1; y1 = s.y1; x2 = s.x2; y2 = s.y2; palette_sel = w; alpha = s.alpha; started = s.started; start_delay_raw = s.start_delay_raw; stopped = s.stopped; stop_delay_raw = s.stop_delay_raw; forced_display = s.forced_display; top_rle_off = s.top_rle_off; bot_rle_off = s.bot_rle_off; saw_chg_colcon = s.saw_chg_colcon; band_words = s.band_words; codes = s.codes; clipped = s.clipped }

abbrev pub alphas_set : ℕ → Spu → Spu
alphas_set w s = record { x1 = s.x1; y1 = s.y1; x2 = s.x2; y2 = s.y2; palette_sel = s.palette_sel; alpha = w; started = s.started; start_delay_raw = s.start_delay_raw; stopped = s.stopped; stop_delay_raw = s.stop_delay_raw; forced_display = s.forced_display; top_rle_off = s.top_rle_off; bot_rle_off = s.bot_rle_off; saw_chg_colcon = s.saw_chg_colcon; band_words = s.band_words; codes = s.codes; clipped = s.clipped }

abbrev pub area_set : ℕ → ℕ → ℕ → ℕ → Spu → Spu
area_set a b c e s = record { x1 = a; y1 = c; x2 = b; y2 = e; palette_sel = s.palette_sel; alpha = s.alpha; started = s.started; start_delay_raw = s.start_delay_raw; stopped = s.stopped; stop_delay_raw = s.stop_delay_raw; forced_display = s.forced_display; top_rle_off = s.top_rle_off; bot_rle_off = s.bot_rle_off; saw_chg_colcon = s.saw_chg_colcon; band_words = s.band_words; codes = s.codes; clipped = s.clipped }

abbrev pub offsets_set : ℕ → ℕ → Spu → Spu
offsets_set a b s = record { x1 = s.x1; y1 = s.y1; x2 = s.x2; y2 = s.y2; palette_sel = s.palette_sel; alpha = s.alpha; started = s.started; start_delay_raw = s.start_delay_raw; stopped = s.stopped; stop_delay_raw = s.stop_delay_raw; forced_display = s.forced_display; top_rle_off = a; bot_rle_off = b; saw_chg_colcon = s.saw_chg_colcon; band_words = s.band_words; codes = s.codes; clipped = s.clipped }

abbrev pub bands_set : ℕ → Spu → Spu
bands_set n s = record { x1 = s.x1; y1 = s.y1; x2 = s.x2; y2 = s.y2; palette_sel = s.palette_sel; alpha = s.alpha; started = s.started; start_delay_raw = s.start_delay_raw; stopped = s.stopped; stop_delay_raw = s.stop_delay_raw; forced_display = s.forced_display; top_rle_off = s.top_rle_off; bot_rle_off = s.bot_rle_off; saw_chg_colcon = true; band_words = n; codes = s.codes; clipped = s.clipped }

-- ---- After a command

module _ (t : Told) (s : Spu) (e : s ≡ spu_of t nothing) where
  -- a start where there was one, and the first
  pub started-told : (d : ℕ) → s.started ≡ true → s ≡ spu_of (tell d start t) nothing
  unfolding spu_of
  started-told d h = e ∙ go t.starts refl (sym (ap (λ (r : Spu). r.started) e) ∙ h)
    where
      go : (o : Option ℕ) → t.starts ≡ o → given t.starts ≡ true → spu_of t nothing ≡ spu_of (tell d start t) nothing
      go none q g = absurd (let z : ◌≡◌ {A = Bool} false true = sym (ap given q) ∙ g in let y : ◌≡◌ {A = ℕ} 0 1 = cc in omega arith)
      go (some a) q g = ap (λ (o : Option ℕ). start_set (given o) (delay_of o) (spu_of t nothing)) (q ∙ sym (ap (λ (o : Option ℕ). first o d) q))

  pub start-told : (d : ℕ) → s.started ≡ false → start_set true d s ≡ spu_of (tell d start t) nothing
  unfolding spu_of
  start-told d h = ap (start_set true d) e ∙ go t.starts refl (sym (ap (λ (r : Spu). r.started) e) ∙ h)
    where
      go : (o : Option ℕ) → t.starts ≡ o → given t.starts ≡ false → start_set true d (spu_of t nothing) ≡ spu_of (tell d start t) nothing
      go none q g = ap (λ (o : Option ℕ). start_set (given o) (delay_of o) (spu_of t nothing)) (sym (ap (λ (o : Option ℕ). first o d) q))
      go (some a) q g = absurd (let z : ◌≡◌ {A = Bool} true false = sym (ap given q) ∙ g in let y : ◌≡◌ {A = ℕ} 0 1 = cc in omega arith)

  pub stop-told : (d : ℕ) → stop_set d s ≡ spu_of (tell d stop t) nothing
  unfolding spu_of
  stop-told d = ap (stop_set d) e

  pub selectors-told : (d w : ℕ) → selectors_set w s ≡ spu_of (tell d (selectors w) t) nothing
  unfolding spu_of
  selectors-told d w = ap (selectors_set w) e

  pub alphas-told : (d w : ℕ) → alphas_set w s ≡ spu_of (tell d (alphas w) t) nothing
  unfolding spu_of
  alphas-told d w = ap (alphas_set w) e

  pub area-told : (d a b c f : ℕ) → area_set a b c f s ≡ spu_of (tell d (area a b c f) t) nothing
  unfolding spu_of
  area-told d a b c f = ap (area_set a b c f) e

  pub offsets-told : (d a b : ℕ) → offsets_set a b s ≡ spu_of (tell d (offsets a b) t) nothing
  unfolding spu_of
  offsets-told d a b = ap (offsets_set a b) e

  pub bands-told : (d n k : ℕ) (bs : List Band) → k ≡ length (band_words bs) → bands_set (s.band_words + k) s ≡ spu_of (tell d (colours n bs) t) nothing
  unfolding spu_of
  bands-told d n k bs h =
      let j : length (band_words (t.bands ++ bs)) ≡ length (band_words t.bands) + length (band_words bs) = ap length (words-join t.bands bs) ∙ length-append (band_words t.bands) (band_words bs) in
      (λ i. bands_set ((e i).band_words + h i) (e i)) ∙ ap (λ (m : ℕ). bands_set m (spu_of t nothing)) (sym j)

pub forced-told : (t : Told) (s : Spu) (d : ℕ) → s ≡ spu_of (tell d start t) nothing → forced_set s ≡ spu_of (tell d forced_start t) nothing
unfolding spu_of
forced-told t s d e = ap forced_set e

-- ---- A command by its byte

module _ (u : List ℕ) (p : ℕ) where
  pub taken_none : (k : ℕ) → k < 3 → 0 ≡ size_of (plain_at u p k)
  unfolding plain_at
  taken_none zero h = refl
  taken_none (suc zero) h = refl
  taken_none (suc (suc zero)) h = refl
  taken_none (suc (suc (suc k))) h = absurd (omega arith)

  pub taken_two : (k : ℕ) → 3 ≤ k → k < 5 → 2 ≡ size_of (plain_at u p k)
  unfolding plain_at
  taken_two k l h = ⊎_elim (λ (e : k ≡ 3). ap (λ (j : ℕ). size_of (plain_at u p j)) (sym e)) (λ (e : 3 < k). let f : 4 ≡ k = omega arith in ap (λ (j : ℕ). size_of (plain_at u p j)) f) (or_more k l)
    where
      or_more : (k : ℕ) → 3 ≤ k → (k ≡ 3) ⊎ (3 < k)
      or_more k l = ⊎_elim (λ h. inl (omega arith)) (λ h. inr h) (le_or_lt k 3)

  pub taken-six : (k : ℕ) → k ≡ 5 → 6 ≡ size_of (plain_at u p k)
  unfolding plain_at
  taken-six k e = ap (λ (j : ℕ). size_of (plain_at u p j)) (sym e)

  pub taken_four : (k : ℕ) → k ≡ 6 → 4 ≡ size_of (plain_at u p k)
  unfolding plain_at
  taken_four k e = ap (λ (j : ℕ). size_of (plain_at u p j)) (sym e)

  pub size-as : (n k c : ℕ) → c ≡ k → p + size_of (plain_at u p c) ≤ n → p + size_of (plain_at u p k) ≤ n
  size-as n k c e h = subst (λ (j : ℕ). p + size_of (plain_at u p j) ≤ n) e h

  pub told-as : (k c d : ℕ) (t : Told) (r : Spu) → c ≡ k → r ≡ spu_of (tell d (plain_at u p k) t) nothing → r ≡ spu_of (tell d (plain_at u p c) t) nothing
  told-as k c d t r e h = h ∙ ap (λ (j : ℕ). spu_of (tell d (plain_at u p j) t) nothing) (sym e)

  pub area-read : (t : Told) (d a b c e : ℕ) → a ≡ nibbles u (2 * p) 3 → b ≡ nibbles u (2 * (p + 1) + 1) 3 → c ≡ nibbles u (2 * (p + 3)) 3 → e ≡ nibbles u (2 * (p + 4) + 1) 3
      → spu_of (tell d (area a b c e) t) nothing ≡ spu_of (tell d (area_at u p) t) nothing
  area-read t d a b c e f g h i =
      let m : 2 * (p + 1) + 1 ≡ 2 * p + 3 = omega arith in
      let n : 2 * (p + 3) ≡ 2 * p + 6 = omega arith in
      let o : 2 * (p + 4) + 1 ≡ 2 * p + 9 = omega arith in
      λ j. spu_of (tell d (area (f j) ((g ∙ ap (λ (q : ℕ). nibbles u q 3) m) j) ((h ∙ ap (λ (q : ℕ). nibbles u q 3) n) j) ((i ∙ ap (λ (q : ℕ). nibbles u q 3) o) j)) t) nothing

pub given-one : (k : ℕ → Order) (d v w : ℕ) {r : Spu} → v ≡ w → (t : Told) → r ≡ spu_of (tell d (k v) t) nothing → r ≡ spu_of (tell d (k w) t) nothing
given-one k d v w e t h = h ∙ ap (λ (j : ℕ). spu_of (tell d (k j) t) nothing) e

pub given-two : (d a b v w : ℕ) {r : Spu} → a ≡ v → b ≡ w → (t : Told) → r ≡ spu_of (tell d (offsets a b) t) nothing → r ≡ spu_of (tell d (offsets v w) t) nothing
given-two d a b v w e f t h = h ∙ (λ j. spu_of (tell d (offsets (e j) (f j)) t) nothing)
