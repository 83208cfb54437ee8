-- What the control blocks that were read say of the rows, and what each answer says. Assumes nothing.
use Prim.Native.Nat.{ℕ, ◌+◌, ◌-◌, ◌*◌, ◌≤◌, ◌<◌, min}
use native.Mathlib.Nat.{mul-le-mul_right}
use native.Mathlib.Omega.{arith}
use mathlib.Core.Path.{◌≡◌, refl, sym, ap, ◌∙◌, subst}
use mathlib.Core.Bool.{Bool, true, false, cond, ◌&&◌}
use Rattle.std.specs.Prelude.{Option, Some as some, None as none}
use mathlib.Core.List.{List}
use lib.ListN.{length}
use lib.Dec.{leb, ltb}
use lib.Seq.{sets}
use borrow.Author.Tests.{leb-true, le-leb, lt-leb, lt-ltb, le-ltb}
use Rattle.outcome.specs.Outcome.{Res, ok, refuse, IsOk, listed, map_res, short_pixels, no_top_field}
use Rattle.outcome.proofs.Laws.{ok-injective, and-true}
use Rattle.grammar.specs.Rows.{Code}
use Rattle.grammar.specs.Bands.{band_words}
use Rattle.grammar.specs.Pixels.{index_map}
use Rattle.grammar.specs.Control.{Block, length_word, control_word}
use Rattle.grammar.specs.Record.{Offsets, Told, told, width, height}
use Rattle.control_model.specs.Fold.{untold, tell_chain}
use Rattle.control_model.proofs.Fold.{folded}
use Rattle.grammar.specs.Picture.{top_end}
use Rattle.control_model.specs.Chain.{control_at}
use Rattle.control_model.specs.Answers.{spu_of, chain_answer, control_answer}
use Rattle.bands_model.specs.Answers.{padded}
use Rattle.control_model.specs.Few.{few_at}
use Rattle.control_model.specs.Fill.{unit_words}
use Rattle.control_model.specs.declared.Spu.{Spu}
use Rattle.control_model.proofs.Fill.{control-is}
use Rattle.rle_model.specs.Answers.{field_counts, field_answer, nothing, listed_counts}
use Rattle.rle_model.specs.Fields.{fields_at, lower_at, is_there, from_of, to_of, FieldsDecoded}
use Rattle.rle_model.specs.declared.Span.{Span}
use Rattle.rle_model.specs.declared.Counts.{Counts}
use Rattle.rle_model.proofs.Claim.{counts-listed}
use Rattle.spu_model.specs.Unit.{has_bottom, offsets_of, rows_at, listed_unit, unit_at, unit_in}
use Rattle.spu_model.specs.Answers.{span, bottom_span, layout_of, spu_answer, RowsDecoded, Decoded}
use Rattle.spu_model.specs.declared.Layout.{Layout}
use Rattle.spu_model.specs.declared.Record.{Record}

-- ---- The layout

pub end-at-bottom : (C t b : ℕ) → t < b → min b C ≡ top_end C (offsets_of t b)
unfolding top_end
end-at-bottom C t b h = rw (lt-ltb t b h) (omega arith)

pub end-at-control : (C t b : ℕ) → b ≤ t → C ≡ top_end C (offsets_of t b)
unfolding top_end
end-at-control C t b h = rw (le-ltb t b h) (omega arith)

-- no field goes past C
pub end_most : (C : ℕ) (f : Offsets) → top_end C f ≤ C
unfolding top_end
end_most C f = go (cond (ltb f.top f.bottom) f.bottom C)
  where
    go : (x : ℕ) → min C x ≤ C
    go x = omega arith

-- what is known of a unit whose blocks tell s
pub record Known (u : List ℕ) (s : Spu) : Type 0 where
  pub wide : s.x1 ≤ s.x2
  pub high : s.y1 ≤ s.y2
  pub head : 4 ≤ length u
  pub inside : control_word u ≤ length u

pub known : (u : List ℕ) (s : Spu) → ((bs : List Block) × (control_at u ≡ ok bs) × (s ≡ spu_of (told bs) nothing)) → Known u s
unfolding spu_of
known u s k =
    let n = control-is u k.0 k.1 in
    let q : n.bs ≡ k.0 = ok-injective (sym n.reads ∙ k.1) in
    let t = told k.0 in
    let a = and-true (leb t.at.x1 t.at.x2) (leb t.at.y1 t.at.y2) (subst (λ (l : List Block). (leb (told l).at.x1 (told l).at.x2 && leb (told l).at.y1 (told l).at.y2) ≡ true) q n.area) in
    let x : t.at.x1 ≤ t.at.x2 = leb-true _ _ a.0 in
    let y : t.at.y1 ≤ t.at.y2 = leb-true _ _ a.1 in
    let i = n.is.inside in
    let o = n.is.order in
    record {
      wide = subst (λ (r : Spu). r.x1 ≤ r.x2) (sym k.2) x;
      high = subst (λ (r : Spu). r.y1 ≤ r.y2) (sym k.2) y;
      head = n.is.head;
      inside = omega arith;
    }

-- blocks that are read are the ones that were
pub same : (u : List ℕ) (s : Spu) → ((bs : List Block) × (control_at u ≡ ok bs) × (s ≡ spu_of (told bs) nothing)) → (bs : List Block) → control_at u ≡ ok bs → s ≡ spu_of (told bs) nothing
same u s k bs e = k.2 ∙ ap (λ (l : List Block). spu_of (told l) nothing) (ok-injective (sym k.1 ∙ e))

pub laid : (u : List ℕ) (t : Told) (s : Spu) (a b x : ℕ) (y : Option Span) → s ≡ spu_of t nothing → a ≡ length_word u → b ≡ control_word u
    → x ≡ top_end b (offsets_of s.top_rle_off s.bot_rle_off) → y ≡ bottom_span b s.bot_rle_off
    → ◌≡◌ {A = Layout}
    (record { width = s.x2 + 1 - s.x1; height = s.y2 + 1 - s.y1; end = a; top = span s.top_rle_off x; bottom = y })
    (layout_of u t)
unfolding spu_of
laid u t s a b x y q e f g h =
    λ j. record {
      width = (q j).x2 + 1 - (q j).x1;
      height = (q j).y2 + 1 - (q j).y1;
      end = e j;
      top = span (q j).top_rle_off ((g ∙ (λ k. top_end (f k) (offsets_of (q k).top_rle_off (q k).bot_rle_off))) j);
      bottom = (h ∙ (λ k. bottom_span (f k) (q k).bot_rle_off)) j;
    }

-- a bottom field by its bytes, or none
bottom_rows : (u : List ℕ) (t e b C w h : ℕ)
    → fields_at u t e (from_of (bottom_span C b)) (to_of (bottom_span C b)) (is_there (bottom_span C b)) w h
    ≡ fields_at u t e b C (has_bottom C b) w h
unfolding fields_at lower_at
bottom_rows u t e b C w h = go (has_bottom C b)
  where
    go : (y : Bool) → fields_at u t e (from_of (cond y (some (span b C)) none)) (to_of (cond y (some (span b C)) none)) (is_there (cond y (some (span b C)) none)) w h
        ≡ fields_at u t e b C y w h
    go true = refl
    go false = refl

bottom_most : (b C : ℕ) → to_of (bottom_span C b) ≤ C
bottom_most b C = go (has_bottom C b)
  where
    go : (y : Bool) → to_of (cond y (some (span b C)) none) ≤ C
    go true = omega arith
    go false = omega arith

-- ---- The rows

module _ (u : List ℕ) (t : Told) (l : Layout) (q : l ≡ layout_of u t) where
  pub rows_none : l.end ≤ l.top.from → refuse no_top_field ≡ field_answer (width t) (rows_at u t)
  unfolding rows_at
  rows_none h =
      let g : length_word u ≤ t.fields.top = subst (λ (m : Layout). m.end ≤ m.top.from) q h in
      rw (le-ltb t.fields.top (length_word u) g)

  rows-some : l.top.from < l.end → fields_at u l.top.from l.top.to (from_of l.bottom) (to_of l.bottom) (is_there l.bottom) l.width l.height ≡ rows_at u t
  unfolding rows_at
  rows-some h =
      let g : t.fields.top < length_word u = subst (λ (m : Layout). m.top.from < m.end) q h in
      ap (λ (m : Layout). fields_at u m.top.from m.top.to (from_of m.bottom) (to_of m.bottom) (is_there m.bottom) m.width m.height) q
      ∙ bottom_rows u t.fields.top (top_end (control_word u) t.fields) t.fields.bottom (control_word u) (width t) (height t) ∙ rw (lt-ltb t.fields.top (length_word u) g)

  pub spans-inside : control_word u ≤ length u → (l.top.to ≤ length u) × (to_of l.bottom ≤ length u)
  spans-inside h =
      let a : l.top.to ≡ top_end (control_word u) t.fields = ap (λ (m : Layout). m.top.to) q in
      let b : to_of l.bottom ≡ to_of (bottom_span (control_word u) t.fields.bottom) = ap (λ (m : Layout). to_of m.bottom) q in
      let d = bottom_most t.fields.bottom (control_word u) in
      let c = end_most (control_word u) t.fields in
      (omega arith, omega arith)

  pub room : (n : ℕ) → width t * height t ≤ n → l.width * l.height ≤ n
  room n h = subst (λ (m : Layout). m.width * m.height ≤ n) (sym q) h

  pub room-told : (n : ℕ) → l.width * l.height ≤ n → width t * height t ≤ n
  room-told n h = subst (λ (m : Layout). m.width * m.height ≤ n) q h

  pub short-told : (n : ℕ) → n < l.width * l.height → n < width t * height t
  short-told n h = subst (λ (m : Layout). n < m.width * m.height) q h

  pub rows-measured : (r : Res Counts) → l.top.from < l.end
      → r ≡ field_answer l.width (fields_at u l.top.from l.top.to (from_of l.bottom) (to_of l.bottom) (is_there l.bottom) l.width l.height) → r ≡ field_answer (width t) (rows_at u t)
  rows-measured r h e = e ∙ (λ j. field_answer (q j).width (rows-some h j))

  pub rows-decoded : (px : List ℕ) (r : Res Counts) (px' : List ℕ) → l.top.from < l.end
      → FieldsDecoded u l.top.from l.top.to (from_of l.bottom) (to_of l.bottom) (is_there l.bottom) l.width l.height px r px' → RowsDecoded u t px r px'
  rows-decoded px r px' h d =
      record { answer = rows-measured r h d.answer; pixels = d.pixels ∙ (λ j. sets px 0 (index_map (q j).width (listed (rows-some h j)))) }

  pub rows-kept : (px : List ℕ) → l.end ≤ l.top.from → RowsDecoded u t px (refuse no_top_field) px
  unfolding rows_at index_map
  rows-kept px h =
      let g : length_word u ≤ t.fields.top = subst (λ (m : Layout). m.end ≤ m.top.from) q h in
      record { answer = rows_none h; pixels = none (width t) (rw (le-ltb t.fields.top (length_word u) g)) }
    where
      none : (w : ℕ) → rows_at u t ≡ refuse no_top_field → px ≡ sets px 0 (index_map w (listed (rows_at u t)))
      none w e = rw e

-- ---- A whole unit

-- what an answer for control blocks says
pub told_by_lem : (u : List ℕ) (s : Spu) → ok s ≡ control_answer u → (bs : List Block) × (control_at u ≡ ok bs) × (s ≡ spu_of (told bs) nothing)
told_by_lem u s e = go (control_at u) refl e
  where
    go : (r : Res (List Block)) → control_at u ≡ r → ok s ≡ chain_answer untold r → (bs : List Block) × (control_at u ≡ ok bs) × (s ≡ spu_of (told bs) nothing)
    go (refuse n) q f = let y : ◌≡◌ {A = ℕ} 0 1 = cc in absurd (omega arith)
    go (ok bs) q f = let y : s ≡ spu_of (tell_chain bs untold) nothing = cc in (bs, q, y ∙ ap (λ (t : Told). spu_of t nothing) (folded bs))

-- and what has the blocks says so
pub answer_by_lem : (u : List ℕ) (s : Spu) → ((bs : List Block) × (control_at u ≡ ok bs) × (s ≡ spu_of (told bs) nothing)) → ok s ≡ control_answer u
answer_by_lem u s k =
    ap ok (k.2 ∙ ap (λ (t : Told). spu_of t nothing) (sym (folded k.0))) ∙ ap (chain_answer untold) (sym k.1)

pub refused-by : (u : List ℕ) (n : ℕ) → refuse n ≡ control_answer u → control_at u ≡ refuse n
refused-by u n e = go (control_at u) refl e
  where
    go : (r : Res (List Block)) → control_at u ≡ r → refuse n ≡ chain_answer untold r → control_at u ≡ refuse n
    go (ok bs) q f = let y : ◌≡◌ {A = ℕ} 0 1 = cc in absurd (omega arith)
    go (refuse m) q f = let y : n ≡ m = cc in q ∙ ap refuse (sym y)

-- and what an answer for rows says
pub record Rowed (u : List ℕ) (t : Told) (b : Counts) : Type 0 where
  pub rs : List (List Code)
  pub reads : rows_at u t ≡ ok rs
  pub count : b ≡ listed_counts (width t) rs

pub rowed : (u : List ℕ) (t : Told) (b : Counts) → ok b ≡ field_answer (width t) (rows_at u t) → Rowed u t b
rowed u t b e = go (rows_at u t) refl e
  where
    go : (r : Res (List (List Code))) → rows_at u t ≡ r → ok b ≡ field_answer (width t) r → Rowed u t b
    go (refuse n) q f = let y : ◌≡◌ {A = ℕ} 0 1 = cc in absurd (omega arith)
    go (ok rs) q f = let y : b ≡ field_counts (width t) rs = cc in record { rs = rs; reads = q; count = y ∙ counts-listed (width t) rs }

pub unrowed : (u : List ℕ) (t : Told) (n : ℕ) → refuse n ≡ field_answer (width t) (rows_at u t) → rows_at u t ≡ refuse n
unrowed u t n e = go (rows_at u t) refl e
  where
    go : (r : Res (List (List Code))) → rows_at u t ≡ r → refuse n ≡ field_answer (width t) r → rows_at u t ≡ refuse n
    go (ok rs) q f = let y : ◌≡◌ {A = ℕ} 0 1 = cc in absurd (omega arith)
    go (refuse m) q f = let y : n ≡ m = cc in q ∙ ap refuse (sym y)

pub measured-refused : (u : List ℕ) (n : ℕ) → control_at u ≡ refuse n → refuse n ≡ spu_answer (unit_at u)
unfolding unit_at few_at
measured-refused u n e = rw e

pub decoded-refused : (u px : List ℕ) (r : Res Record) (n : ℕ) → control_at u ≡ refuse n → r ≡ refuse n → Decoded u px r px
unfolding unit_in few_at
decoded-refused u px r n e q = record { answer = rw e q; pixels = rw e }

-- bands that are too many
pub measured-many : (u : List ℕ) (n : ℕ) → few_at u ≡ refuse n → refuse n ≡ spu_answer (unit_at u)
unfolding unit_at
measured-many u n e = rw e

pub decoded-many : (u px : List ℕ) (r : Res Record) (n : ℕ) → few_at u ≡ refuse n → r ≡ refuse n → Decoded u px r px
unfolding unit_in
decoded-many u px r n e q = record { answer = rw e q; pixels = rw e }

module _ (u : List ℕ) (bs : List Block) (e : few_at u ≡ ok bs) where
  pub measured-shows : (b : Counts) (s : Spu) → ok b ≡ field_answer (width (told bs)) (rows_at u (told bs)) → s ≡ spu_of (told bs) b
      → ok s ≡ spu_answer (unit_at u)
  unfolding unit_at
  measured-shows b s f q =
      let r = rowed u (told bs) b f in
      rw (e, r.reads) (ap ok (q ∙ ap (spu_of (told bs)) r.count))

  pub measured-stops : (n : ℕ) → refuse n ≡ field_answer (width (told bs)) (rows_at u (told bs)) → refuse n ≡ spu_answer (unit_at u)
  unfolding unit_at
  measured-stops n f = rw (e, unrowed u (told bs) n f)

  module _ (px : List ℕ) where
    abbrev pixels_needed : ℕ
    pixels_needed = width (told bs) * height (told bs)

    pub short-map : (r : Res Record) → length px < pixels_needed → r ≡ refuse short_pixels → Decoded u px r px
    unfolding unit_in
    short-map r h q = let z = lt-leb pixels_needed (length px) h in record { answer = rw (e, z) q; pixels = rw (e, z) }

    module _ (h : pixels_needed ≤ length px) where
      fits : unit_in u (length px) ≡ map_res (listed_unit bs) (rows_at u (told bs))
      unfolding unit_in
      fits = rw (e, le-leb pixels_needed (length px) h)

      pub decoded-shows : (a : Res Counts) (b : Counts) (s : Spu) (px' ws : List ℕ) → a ≡ ok b → RowsDecoded u (told bs) px a px'
          → ws ≡ padded (band_words (told bs).bands) → s ≡ spu_of (told bs) b → Decoded u px (ok (record { spu = s; bands = ws })) px'
      decoded-shows a b s px' ws g d w q =
          let r = rowed u (told bs) b (sym g ∙ d.answer) in
          let f : unit_in u (length px) ≡ ok (listed_unit bs r.rs) = fits ∙ ap (map_res (listed_unit bs)) r.reads in
          let k : s ≡ spu_of (told bs) (listed_counts (width (told bs)) r.rs) = q ∙ ap (spu_of (told bs)) r.count in
          record {
            answer = rw f (λ i. ok (record { spu = k i; bands = w i }));
            pixels = rw f (d.pixels ∙ ap (λ (x : Res (List (List Code))). sets px 0 (index_map (width (told bs)) (listed x))) r.reads);
          }

      pub decoded-stops : (a : Res Counts) (n : ℕ) (r : Res Record) (px' : List ℕ) → a ≡ refuse n → RowsDecoded u (told bs) px a px' → r ≡ refuse n → Decoded u px r px'
      unfolding index_map
      decoded-stops a n r px' g d q =
          let t = unrowed u (told bs) n (sym g ∙ d.answer) in
          let f : unit_in u (length px) ≡ refuse n = fits ∙ ap (map_res (listed_unit bs)) t in
          record { answer = rw f q; pixels = rw f (d.pixels ∙ ap (λ (x : Res (List (List Code))). sets px 0 (index_map (width (told bs)) (listed x))) t) }

-- two sides of at most 65,536
pub area_small : (a b : ℕ) → a ≤ 65536 → b ≤ 65536 → a * b ≤ 4294967296
area_small a b h k = let m : a * b ≤ 65536 * b = mul-le-mul_right b h in omega arith

-- the words that the bands of a unit take, and what making their array asks for
pub needs_words : (s : Spu) (t : Told) → s ≡ spu_of t nothing → s.band_words ≡ length (band_words t.bands)
unfolding spu_of
needs_words s t e = ap (λ (r : Spu). r.band_words) e

pub bands-asked : (u : List ℕ) (s : Spu) → ((bs : List Block) × (control_at u ≡ ok bs) × (s ≡ spu_of (told bs) nothing))
    → IsOk (control_at u) × (s.band_words ≡ length (unit_words u))
bands-asked u s k = (
  subst IsOk (sym k.1) tt,
  needs_words s (told k.0) k.2 ∙ ap (λ (r : Res (List Block)). length (band_words (told (listed r)).bands)) (sym k.1),
)
