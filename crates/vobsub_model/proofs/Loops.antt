-- What each step of the call says of the whole. Assumes nothing.
use Prim.Native.Nat.{ℕ, ◌+◌, ◌-◌, ◌*◌, ◌≤◌, ◌<◌}
use native.Mathlib.Omega.{arith}
use mathlib.Core.Path.{◌≡◌, refl, sym, ap, ◌∙◌, subst}
use mathlib.Core.Bool.{true, false}
use mathlib.Core.List.{List}
use lib.ListN.{length, take}
use lib.Seq.{sets}
use borrow.Author.Tests.{le-leb, lt-leb}
use Rattle.std.specs.Prelude.{Option, Result, Ok, Err}
use Rattle.std.specs.Option.{unwrap_or}
use Rattle.std.specs.Result.{result_err}
use Rattle.outcome.specs.declared.Refusal.{Refusal}
use Rattle.outcome.specs.declared.Refusal.TheVariants.{LongInstant}
use Rattle.outcome.specs.Outcome.{Res, ok, refuse, answered, number_of, listed, map_res, short_pixels, short_canvas, long_instant}
use Rattle.grammar.specs.Bands.{band_words, most_words}
use Rattle.grammar.specs.Look.{Look}
use Rattle.grammar.specs.Rows.{Code}
use Rattle.grammar.specs.Control.{Block}
use Rattle.grammar.specs.Record.{Told, told, width, height}
use Rattle.grammar.specs.Picture.{ListedUnit}
use Rattle.grammar.specs.Pixels.{index_map}
use Rattle.grammar.specs.Canvas.{own_look, told_look}
use Rattle.grammar.specs.Reading.{unit_canvas}
use Rattle.clock_model.specs.declared.Times.{Times}
use Rattle.control_model.specs.Chain.{control_at}
use Rattle.control_model.specs.Answers.{spu_of}
use Rattle.control_model.specs.Few.{few_at}
use Rattle.control_model.specs.declared.Spu.{Spu}
use Rattle.control_model.proofs.Few.{told-counted}
use Rattle.bands_model.specs.Answers.{padded}
use Rattle.bands_model.proofs.Count.{padded-front}
use Rattle.spu_model.specs.Unit.{rows_at, listed_unit, unit_at}
use Rattle.spu_model.specs.Answers.{RowsDecoded}
use Rattle.spu_model.proofs.Grammar.{unit-iff}
use Rattle.spu_model.proofs.Loops.{known, rowed, unrowed}
use Rattle.vobsub_model.specs.Paint.{look_is, word_look, map_canvas}
use Rattle.clock_model.specs.Clock.{told_stay, in_time}
use Rattle.vobsub_model.specs.Call.{canvas_in, timed_in}
use Rattle.vobsub_model.specs.Answers.{times_told, shown_of, late_refusal, UnitPainted}
use Rattle.vobsub_model.specs.declared.Shown.{Shown}
use Rattle.idx_model.specs.declared.CueAnswer.{CueAnswer}
use Rattle.vobsub_model.proofs.Listed.{told_look_lem, stored-canvas}
use Rattle.rle_model.specs.Answers.{nothing, field_answer, listed_counts}
use Rattle.rle_model.specs.declared.Counts.{Counts}

-- the sizes that a record gives
pub area-is : (s : Spu) (t : Told) → s ≡ spu_of t nothing → (s.x2 + 1 - s.x1) * (s.y2 + 1 - s.y1) ≡ width t * height t
unfolding spu_of
area-is s t e = ap (λ (r : Spu). (r.x2 + 1 - r.x1) * (r.y2 + 1 - r.y1)) e

-- what a record asks of a map and of a canvas is what was told asks of them
module _ (s : Spu) (t : Told) (e : s ≡ spu_of t nothing) (n : ℕ) where
  abbrev sides : ℕ
  sides = (s.x2 + 1 - s.x1) * (s.y2 + 1 - s.y1)

  pub lent_map : (sides ≤ n → width t * height t ≤ n) × (n < sides → n < width t * height t)
  lent_map = (λ h. subst (λ (a : ℕ). a ≤ n) (area-is s t e) h, λ h. subst (λ (a : ℕ). n < a) (area-is s t e) h)

  pub lent-canvas : (4 * sides ≤ n → 4 * (width t * height t) ≤ n) × (n < 4 * sides → n < 4 * (width t * height t))
  lent-canvas = (λ h. subst (λ (a : ℕ). 4 * a ≤ n) (area-is s t e) h, λ h. subst (λ (a : ℕ). n < 4 * a) (area-is s t e) h)

-- what measured rows say of the refusal of a unit whose times leave
late-rows : (w : ℕ) (n : Counts) (x : Res (List (List Code))) → ok n ≡ field_answer w x → long_instant ≡ late_refusal x
late-rows w n (ok rs) e = refl
late-rows w n (refuse m) e = let z : ◌≡◌ {A = ℕ} 0 1 = cc in absurd (omega arith)

late-refused : (w n : ℕ) (x : Res (List (List Code))) → refuse n ≡ field_answer w x → n ≡ late_refusal x
late-refused w n (ok rs) e = let z : ◌≡◌ {A = ℕ} 0 1 = cc in absurd (omega arith)
late-refused w n (refuse m) e = cc e

pub late-answer : (w : ℕ) (x : Res (List (List Code))) (r : Result Counts Refusal) → answered r ≡ field_answer w x
    → (o : Option Refusal) → o ≡ result_err r → (e : Refusal) → e ≡ unwrap_or o LongInstant → number_of e ≡ late_refusal x
late-answer w x (Ok n) q o h e k = rw (k, h) (late-rows w n x q)
late-answer w x (Err d) q o h e k = rw (k, h) (late-refused w (number_of d) x q)

pub unit-refused : (u : List ℕ) (c : CueAnswer) (px cv : List ℕ) (n : ℕ) → control_at u ≡ refuse n
    → UnitPainted u c px cv (refuse n) px cv
unfolding canvas_in timed_in few_at
unit-refused u c px cv n e = record { answer = rw e; pixels = rw e; canvas = rw e }

pub unit-many : (u : List ℕ) (c : CueAnswer) (px cv : List ℕ) (n : ℕ) → few_at u ≡ refuse n
    → UnitPainted u c px cv (refuse n) px cv
unfolding canvas_in timed_in
unit-many u c px cv n e = record { answer = rw e; pixels = rw e; canvas = rw e }

module _ (u : List ℕ) (bs : List Block) (e : few_at u ≡ ok bs) (c : CueAnswer) (px cv : List ℕ) where
  abbrev pixels_needed : ℕ
  pixels_needed = width (told bs) * height (told bs)

  abbrev found_in : Res ListedUnit
  found_in = timed_in c.start.0 u (length px) (length cv)

  -- a refusal
  refused_so : (n : ℕ) → found_in ≡ refuse n → UnitPainted u c px cv (refuse n) px cv
  refused_so n q = record { answer = rw q; pixels = rw q; canvas = rw q }

  pub map-short : length px < pixels_needed → UnitPainted u c px cv (refuse short_pixels) px cv
  unfolding canvas_in timed_in
  map-short h = refused_so short_pixels (rw (e, lt-leb pixels_needed (length px) h))

  module _ (h : pixels_needed ≤ length px) where
    pub canvas_short : length cv < 4 * pixels_needed → UnitPainted u c px cv (refuse short_canvas) px cv
    unfolding canvas_in timed_in
    canvas_short l =
        refused_so short_canvas (rw (e, le-leb pixels_needed (length px) h, lt-leb (4 * pixels_needed) (length cv) l))

    module _ (l : 4 * pixels_needed ≤ length cv) where
      -- with all long enough, a unit is what its rows are
      rows_left : canvas_in u (length px) (length cv) ≡ map_res (listed_unit bs) (rows_at u (told bs))
      unfolding canvas_in
      rows_left = rw (e, le-leb pixels_needed (length px) h, le-leb (4 * pixels_needed) (length cv) l)

      -- its times leave: the rows are refused first, and then they are
      pub unit-late : told_stay c.start.0 (told bs) ≡ false → (n : ℕ) → n ≡ late_refusal (rows_at u (told bs))
          → UnitPainted u c px cv (refuse n) px cv
      unfolding timed_in
      unit-late t n q =
          refused_so n
          (ap (in_time (λ y. told_stay c.start.0 (told y.blocks))) rows_left
          ∙ go (rows_at u (told bs)) ∙ ap refuse (sym q))
        where
          go : (x : Res (List (List Code)))
              → in_time (λ (y : ListedUnit). told_stay c.start.0 (told y.blocks)) (map_res (listed_unit bs) x) ≡ refuse (late_refusal x)
          go (ok rs) = rw t
          go (refuse m) = refl

      -- its times stay
      module _ (t : told_stay c.start.0 (told bs) ≡ true) where
        stays-in : found_in ≡ map_res (listed_unit bs) (rows_at u (told bs))
        unfolding timed_in
        stays-in = ap (in_time (λ y. told_stay c.start.0 (told y.blocks))) rows_left ∙ go (rows_at u (told bs))
          where
            go : (x : Res (List (List Code)))
                → in_time (λ (y : ListedUnit). told_stay c.start.0 (told y.blocks)) (map_res (listed_unit bs) x) ≡ map_res (listed_unit bs) x
            go (ok rs) = rw t
            go (refuse m) = refl

        -- its rows are refused
        pub unit-stops : (r : Res Counts) (n : ℕ) (px' : List ℕ) → RowsDecoded u (told bs) px r px' → r ≡ refuse n
            → UnitPainted u c px cv (refuse n) px' cv
        unfolding index_map
        unit-stops r n px' d q =
            let g = unrowed u (told bs) n (sym q ∙ d.answer) in
            let f : found_in ≡ refuse n = stays-in ∙ ap (map_res (listed_unit bs)) g in
            record {
              answer = rw f;
              pixels = rw f (d.pixels ∙ ap (λ (x : Res (List (List Code))). sets px 0 (index_map (width (told bs)) (listed x))) g);
              canvas = rw f;
            }

        -- they are there, and painted in the colours of the bands, whose words are in the front of an array
        module _ (ws : List ℕ) (w : ws ≡ padded (band_words (told bs).bands)) (few : length (band_words (told bs).bands) ≤ most_words) where
          abbrev palette : List ℕ
          palette = c.palette

          painted : (rs : List (List Code)) → rows_at u (told bs) ≡ ok rs → (v : Spu) → v ≡ spu_of (told bs) nothing → (px' cv' : List ℕ)
              → px' ≡ sets px 0 (index_map (width (told bs)) rs)
              → cv' ≡ sets cv 0 (map_canvas palette (word_look (take v.band_words ws) (look_is v.palette_sel v.alpha)) v.x1 v.y1 (v.x2 + 1 - v.x1) (v.y2 + 1 - v.y1) px')
              → cv' ≡ sets cv 0 (unit_canvas palette (listed_unit bs rs))
          unfolding unit_canvas spu_of unit_at
          painted rs g v i px' cv' p f =
              let T : Told = told bs in
              let a : unit_at u ≡ ok (listed_unit bs rs) = rw (e, g) in
              let o = (unit-iff u (listed_unit bs rs)).0 a in
              let k = told-counted u bs o.chain in
              let n : ℕ = length (band_words T.bands) in
              let z : take n ws ≡ band_words T.bands = ap (take n) w ∙ padded-front (band_words T.bands) n refl few in
              f
              ∙ ap (λ (x : Spu). sets cv 0 (map_canvas palette (word_look (take x.band_words ws) (look_is x.palette_sel x.alpha)) x.x1 x.y1 (x.x2 + 1 - x.x1) (x.y2 + 1 - x.y1) px')) i
              ∙ ap (λ (x : List ℕ). sets cv 0 (map_canvas palette (word_look x (own_look T)) T.at.x1 T.at.y1 (width T) (height T) px')) z
              ∙ ap (λ (x : ℕ → ℕ → Look). sets cv 0 (map_canvas palette x T.at.x1 T.at.y1 (width T) (height T) px')) (told_look_lem T k)
              ∙ ap (λ (x : List ℕ). sets cv 0 (map_canvas palette (told_look T) T.at.x1 T.at.y1 (width T) (height T) x)) p
              ∙ ap (sets cv 0) (stored-canvas palette (told_look T) T.at.x1 T.at.y1 (width T) (height T) rs px o.picture.all h)

          pub unit-shows : (r : Res Counts) (n : Counts) (s v : Spu) (px' cv' : List ℕ) → v ≡ spu_of (told bs) nothing → s ≡ spu_of (told bs) n
              → RowsDecoded u (told bs) px r px' → r ≡ ok n
              → cv' ≡ sets cv 0 (map_canvas palette (word_look (take v.band_words ws) (look_is v.palette_sel v.alpha)) v.x1 v.y1 (v.x2 + 1 - v.x1) (v.y2 + 1 - v.y1) px')
              → (x : Times) → x ≡ times_told c.start.0 (told bs) → (a : Shown) → a ≡ shown_of c s x
              → UnitPainted u c px cv (ok a) px' cv'
          unit-shows r n s v px' cv' i j d q f x y a b =
              let g = rowed u (told bs) n (sym q ∙ d.answer) in
              let k : found_in ≡ ok (listed_unit bs g.rs) = stays-in ∙ ap (map_res (listed_unit bs)) g.reads in
              let p : px' ≡ sets px 0 (index_map (width (told bs)) g.rs) =
              d.pixels ∙ ap (λ (z : Res (List (List Code))). sets px 0 (index_map (width (told bs)) (listed z))) g.reads in
              let m : s ≡ spu_of (told bs) (listed_counts (width (told bs)) g.rs) = j ∙ ap (spu_of (told bs)) g.count in
              record {
                answer = rw k (ap ok (b ∙ (λ o. shown_of c (m o) (y o))));
                pixels = rw k p;
                canvas = rw k (painted g.rs g.reads v i px' cv' p f);
              }

-- ---- The unit that was found

-- what is shown has a size
pub shows-sides : (u : List ℕ) (bs : List Block) → control_at u ≡ ok bs → (s : Spu) (n : Counts) → s ≡ spu_of (told bs) n → (s.x1 ≤ s.x2) × (s.y1 ≤ s.y2)
unfolding spu_of
shows-sides u bs e s n q =
    let y = known u (spu_of (told bs) nothing) (bs, e, refl) in
    (subst (λ (v : Spu). v.x1 ≤ v.x2) (sym q) y.wide, subst (λ (v : Spu). v.y1 ≤ v.y2) (sym q) y.high)

-- the unit's bytes, painted
pub found-painted : (u v : List ℕ) (c : CueAnswer) (px cv : List ℕ) (r : Res Shown) (px' cv' : List ℕ) → u ≡ v
    → UnitPainted u c px cv r px' cv' → UnitPainted v c px cv r px' cv'
found-painted u v c px cv r px' cv' q d = subst (λ (l : List ℕ). UnitPainted l c px cv r px' cv') q d

-- and with the answer by another name
pub painted_as : {u : List ℕ} {c : CueAnswer} {px cv : List ℕ} {r t : Res Shown} {px' cv' : List ℕ} → r ≡ t
    → UnitPainted u c px cv r px' cv' → UnitPainted u c px cv t px' cv'
painted_as {u} {c} {px} {cv} {r} {t} {px'} {cv'} q d = subst (λ (x : Res Shown). UnitPainted u c px cv x px' cv') q d
