-- The layer keeps its claim: what is written reads back. Assumes nothing.
use Prim.Native.Nat.{ℕ, ◌+◌, ◌*◌, ◌/◌, ◌≤◌}
use native.Mathlib.Omega.{arith}
use mathlib.Core.Path.{◌≡◌, refl, sym, ap, ◌∙◌, subst}
use mathlib.Core.Bool.{◌&&◌}
use mathlib.Core.List.{List}
use lib.ListN.{length, take, drop}
use lib.Seq.{sets, sets-eq, take_at}
use lib.Dec.{eqb, leb}
use borrow.Author.Tests.{leb-true, eqb-true}
use Rattle.outcome.specs.Outcome.{Res, ok, refuse, listed, bad_side, not_all_indices, bad_index, long_unit, short_output}
use Rattle.outcome.proofs.Laws.{ok-injective, and-true, check-ok, and_then-ok}
use Rattle.grammar.specs.Bands.{band_words, record_words}
use Rattle.grammar.specs.Pixels.{index_map, codes_in, clipped_in}
use Rattle.grammar.specs.Record.{Told, told, width, height}
use Rattle.grammar.specs.Picture.{ListedUnit, IsUnit}
use Rattle.control_model.specs.Answers.{spu_of}
use Rattle.spu_model.specs.Unit.{unit_in, counts_of}
use Rattle.spu_model.specs.Answers.{record_of, record_given, unit_map, Decoded}
use Rattle.spu_model.specs.declared.Record.{Record}
use Rattle.spu_model.proofs.Grammar.{unit-iff, unit-unique}
use Rattle.spu_model.proofs.Claim.{in-complete}
use Rattle.demo_model.specs.Codes.{last_marks, marks_in, picture_rows}
use Rattle.demo_model.specs.Unit.{top_nibbles, unit_of, is_side, all_colours, picture_ok, sized_unit, demo_at}
use Rattle.demo_model.specs.Answers.{Sound, demo_given, Written}
use Rattle.demo_model.specs.Claim.{written_told, Listed, ReadsBack, RoundTrip, RoundTrips}
use Rattle.demo_model.proofs.Marks.{fill_closes}
use Rattle.demo_model.proofs.Unit.{Back, back}
use Rattle.demo_model.proofs.Whole.{demo_sound}
use Rattle.rle_model.specs.declared.Counts.{Counts}

module _ (w h : ℕ) (px : List ℕ) (n : ℕ) (u : List ℕ) (e : demo_at w h px n ≡ ok u) where
  -- an accepted picture
  record Taken : Type 0 where
    sound : Sound w h px
    unit : unit_of last_marks w h px ≡ u
    short : length (unit_of last_marks w h px) ≤ 65535

  taken : Taken
  unfolding demo_at picture_ok sized_unit
  taken =
      let a = and_then-ok (picture_ok w h px) _ e in
      let b = check-ok (is_side w && is_side h) bad_side _ a.1 in
      let s = and-true (is_side w) (is_side h) b.0 in
      let c = check-ok (eqb (length px) (w * h)) not_all_indices _ b.1 in
      let d = check-ok (all_colours px) bad_index _ c.1 in
      let f = check-ok (leb (length (unit_of last_marks w h px)) 65535) long_unit _ a.2 in
      let g = check-ok (leb (length (unit_of last_marks w h px)) n) short_output _ f.1 in
      record { sound = demo_sound w h px px s.0 s.1 (eqb-true _ _ c.0) d.0; unit = ok-injective g.1; short = leb-true _ _ f.0 }

  pub room : 0 + length u ≤ n
  unfolding demo_at sized_unit
  room =
      let a = and_then-ok (picture_ok w h px) _ e in
      let f = check-ok (leb (length (unit_of last_marks w h px)) 65535) long_unit _ a.2 in
      let g = check-ok (leb (length (unit_of last_marks w h px)) n) short_output _ f.1 in
      omega (arith, ap length (ok-injective g.1), leb-true (length (unit_of last_marks w h px)) n g.0)

  read : Back last_marks w h px
  read = let s = taken.sound in back last_marks fill_closes w h px s.wide s.w_most s.high s.h_most s.all s.colours taken.short

  wide_is : width (told read.list.blocks) ≡ w
  wide_is = let s = taken.sound.wide in ap width read.tells ∙ omega arith

  high_is : height (told read.list.blocks) ≡ h
  high_is = let s = taken.sound.high in ap height read.tells ∙ omega arith

  -- the grammar lists the unit as the picture
  lists : Listed w h px u read.list
  lists = record {
    listed = subst (λ (v : List ℕ). IsUnit v read.list) taken.unit read.listed;
    wide = wide_is;
    high = high_is;
    picture = ap (λ (k : ℕ). index_map k read.list.rows) wide_is ∙ read.picture;
  }

  -- and as many codes are listed as the writer means to write
  pub codes-written : (l : ListedUnit) → IsUnit u l → codes_in l.rows ≡ marks_in last_marks (picture_rows w h px)
  codes-written l i = ap (λ (k : ListedUnit). codes_in k.rows) (unit-unique u l read.list i lists.listed) ∙ read.codes

  -- and reading gives it back
  reads : (map : List ℕ) → w * h ≤ length map → (r : Res Record) (map' : List ℕ) → Decoded u map r map' → (v : Record) × (r ≡ ok v) × ReadsBack w h px read.list map v map'
  unfolding record_words band_words spu_of
  reads map l r map' d =
      let b = read in
      let t : Told = written_told w h (4 + length (top_nibbles last_marks w h px) / 2) in
      let n : Counts = counts_of b.list in
      let room : width (told b.list.blocks) * height (told b.list.blocks) ≤ length map = rw (wide_is, high_is) l in
      let f = (unit-iff (unit_of last_marks w h px) b.list).1 b.listed in
      let g : unit_in u (length map) ≡ ok b.list = subst (λ (v : List ℕ). unit_in v (length map) ≡ ok b.list) taken.unit (in-complete (unit_of last_marks w h px) (length map) b.list f room) in
      let a = taken.sound.wide in
      let c = taken.sound.high in (
        record_of t n,
        d.answer ∙ ap record_given g ∙ ap (λ (q : Told). ok (record_of q n)) b.tells,
        record {
          x1 = refl;
          y1 = refl;
          wide = omega arith;
          high = omega arith;
          codes = refl;
          clipped = ap (λ (k : ℕ). clipped_in k b.list.rows) wide_is ∙ b.clipped;
          others = refl;
          bands = ap record_words (sym (ap (λ (q : Told). q.bands) b.tells));
          no_band = ap (λ (q : Told). q.bands) b.tells;
          pixels = d.pixels ∙ ap (λ (q : Res ListedUnit). sets map 0 (unit_map q)) g ∙ ap (sets map 0) lists.picture;
        },
      )

  round_trip : RoundTrip w h px u
  round_trip = record { list = read.list; lists = lists; reads = reads }

-- what the contract of `build_demo_spu` says beside its equation
pub claim : (w h : ℕ) (px out : List ℕ) (r : Res ℕ) (out' : List ℕ) → Written w h px out r out' → RoundTrips w h px r out'
claim w h px out r out' d = go (demo_at w h px (length out)) refl d.answer d.output
  where
    go : (x : Res (List ℕ)) → demo_at w h px (length out) ≡ x → r ≡ demo_given x → out' ≡ sets out 0 (listed x) → RoundTrips w h px r out'
    go (refuse n) q e g = subst (λ (a : Res ℕ). RoundTrips w h px a out') (sym e) tt
    go (ok u) q e g =
        let l : 0 + length u ≤ length out = room w h px (length out) u q in
        let f : take (length u) out' ≡ u = ap (take (length u)) (g ∙ sets-eq u out 0 l) ∙ take_at u (drop (0 + length u) out) (length u) refl in
        subst (λ (a : Res ℕ). RoundTrips w h px a out') (sym e) (subst (RoundTrip w h px) (sym f) (round_trip w h px (length out) u q))

-- the equation with the claim, as the contract has both
pub claimed : {w h : ℕ} {px out : List ℕ} {r : Res ℕ} {out' : List ℕ} → Written w h px out r out' → Written w h px out r out' × RoundTrips w h px r out'
claimed {w} {h} {px} {out} {r} {out'} d = (d, claim w h px out r out' d)
