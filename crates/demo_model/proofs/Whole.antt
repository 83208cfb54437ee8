-- A whole unit, written. Assumes nothing.
use Prim.Native.Nat.{ℕ, suc, ◌+◌, ◌-◌, ◌*◌, ◌/◌, ◌%◌, ◌≤◌, ◌<◌}
use native.Mathlib.Nat.{zero-mul, one-mul}
use native.Mathlib.Omega.{arith}
use mathlib.Core.Path.{◌≡◌, refl, sym, ap, ◌∙◌}
use mathlib.Core.Bool.{true, false}
use mathlib.Core.List.{List, [], ◌∷◌, ◌++◌}
use lib.ListN.{length, take, drop, length-append}
use lib.Seq.{sets, length-sets}
use borrow.Rule.Slice.PartMut.{put_mid}
use Rattle.std.proofs.lemmas.List.Edits.{sets-eq}
use lib.Dec.{leb}
use borrow.Author.Tests.{le-leb, lt-leb, leb-true, eq-eqb, ne_eqb}
use Rattle.outcome.specs.Outcome.{Res, ok, refuse, listed, bad_side, not_all_indices, bad_index, long_unit, short_output}
use Rattle.outcome.proofs.Laws.{and-true, sets-append, part_stored}
use Rattle.grammar.specs.Picture.{evens}
use Rattle.demo_model.specs.Codes.{last_marks, packed, picture_rows, field_nibbles}
use Rattle.demo_model.specs.Unit.{word_bytes, control_bytes, top_nibbles, bottom_nibbles, unit_of, is_side, all_colours, picture_ok, sized_unit, demo_at}
use Rattle.demo_model.specs.Answers.{half, Inked, Sound, EndsOf, FieldsWritten, demo_given, Written}
use Rattle.demo_model.specs.declared.NibbleWriter.{NibbleWriter}
use Rattle.demo_model.specs.declared.Ends.{Ends}
use Rattle.demo_model.proofs.Marks.{fill_closes}
use Rattle.demo_model.proofs.Unit.{top-even, fields-length}
use Rattle.demo_model.proofs.Ink.{inked_as}
use Rattle.demo_model.proofs.Picture.{from_row, rows-tail, colours-four}

module _ (w h : ℕ) (px : List ℕ) where
  abbrev top : List ℕ
  top = top_nibbles last_marks w h px

  abbrev bottom : List ℕ
  bottom = bottom_nibbles last_marks w h px

  from-top : from_row w h px 0 ≡ top
  from-top = let z : h - 0 ≡ h = omega arith in rw (zero-mul w, z)

  from-bottom : from_row w h px 1 ≡ bottom
  from-bottom = ap (λ (k : ℕ). field_nibbles last_marks (evens (picture_rows w (h - 1) (drop k px)))) (one-mul w) ∙ ap (λ (l : List (List ℕ)). field_nibbles last_marks (evens l)) (sym (rows-tail w h px))

  -- ---- Both fields

  -- nothing is written yet
  none-inked : (out : List ℕ) (v : NibbleWriter) → v.pos ≡ 0 → v.high ≡ 0 → Inked [] out v out
  unfolding packed half
  none-inked out v a b = record { count = a; last = b; bytes = refl }

  pub fields-written : (out mid out' : List ℕ) (v t r : NibbleWriter) → v.pos ≡ 0 → v.high ≡ 0
      → ((ns o : List ℕ) → length ns % 2 ≡ 0 → Inked ns o v out → Inked (ns ++ from_row w h px 0) o t mid)
      → ((ns o : List ℕ) → length ns % 2 ≡ 0 → Inked ns o t mid → Inked (ns ++ from_row w h px 1) o r out')
      → (e : Ends) → e.top ≡ t.pos → e.all ≡ r.pos → e.all ≤ 200000000
      → (back : List ℕ) → back ≡ out' → FieldsWritten w h px out e back
  fields-written out mid out' v t r a b f g e p q m back k =
      let x = inked_as (from_row w h px 0) top out t mid from-top (f [] out (omega arith) (none-inked out v a b)) in
      let y = inked_as (top ++ from_row w h px 1) (top ++ bottom) out r out' (ap (λ (l : List ℕ). top ++ l) from-bottom) (g top out (top-even last_marks fill_closes w h px) x) in
      record { ends = record { top = p ∙ x.count; all = q ∙ y.count ∙ length-append top bottom }; most = m; bytes = k ∙ y.bytes }

  -- ---- The unit

  module _ (e : Ends) (d : EndsOf w h px e) where
    control-is : 4 + e.all / 2 ≡ 4 + length (packed (top ++ bottom))
    control-is = let a = d.all in let b = fields-length last_marks fill_closes w h px in omega arith

    bottom-is : 4 + e.top / 2 ≡ 4 + length top / 2
    bottom-is = let a = d.top in omega arith

    pub unit_length_lem : length (unit_of last_marks w h px) ≡ 28 + e.all / 2
    unfolding unit_of
    unit_length_lem = let a = control-is in let b = length-append (packed (top ++ bottom)) (control_bytes (4 + length (packed (top ++ bottom))) w h (4 + length top / 2)) in omega arith

    -- the head and the control block are parts of the output that are written over
    pub unit-put : (o a f b : List ℕ)
        → 28 + e.all / 2 ≤ length o
        → a ≡ (4 + e.all / 2 + 24) / 256 ∷ (4 + e.all / 2 + 24) % 256 ∷ (4 + e.all / 2) / 256 ∷ (4 + e.all / 2) % 256 ∷ []
        → f ≡ sets (a ++ drop 4 o) 4 (packed (top ++ bottom)) → b ≡ control_bytes (4 + e.all / 2) w h (4 + e.top / 2)
        → put_mid (4 + e.all / 2) (4 + e.all / 2 + 24 - (4 + e.all / 2)) f b ≡ sets o 0 (unit_of last_marks w h px)
    unfolding unit_of
    unit-put o a f b r p q s =
        let C : ℕ = 4 + length (packed (top ++ bottom)) in
        let block : List ℕ = control_bytes C w h (4 + length top / 2) in
        let s' : b ≡ block = s ∙ ap (λ (n : ℕ). control_bytes n w h (4 + e.top / 2)) control-is ∙ ap (control_bytes C w h) bottom-is in
        let p' : a ≡ word_bytes (C + 24) ++ word_bytes C = p ∙ ap (λ (n : ℕ). word_bytes (n + 24) ++ word_bytes n) control-is in
        let z : 4 + e.all / 2 + 24 - (4 + e.all / 2) ≡ 24 = omega arith in
        let y : 0 + length a ≡ 4 = omega (arith, ap length p) in
        let head : a ++ drop 4 o ≡ sets o 0 (word_bytes (C + 24) ++ word_bytes C) = ap (λ (n : ℕ). a ++ drop n o) (sym y) ∙ sym (sets-eq a o 0 (omega (arith, r, ap length p))) ∙ ap (sets o 0) p' in
        let l : length f ≡ length o = ap length (q ∙ ap (λ (x : List ℕ). sets x 4 (packed (top ++ bottom))) head) ∙ length-sets (sets o 0 (word_bytes (C + 24) ++ word_bytes C)) 4 (packed (top ++ bottom)) ∙ length-sets o 0 (word_bytes (C + 24) ++ word_bytes C) in
        ap (λ (k : ℕ). put_mid (4 + e.all / 2) k f b) z
        ∙ part_stored (4 + e.all / 2) 24 f b (ap length s) (omega (arith, l, r))
        ∙ ap (λ (n : ℕ). sets f n b) control-is
        ∙ ap (sets f C) s'
        ∙ ap (λ (x : List ℕ). sets x C block) (q ∙ ap (λ (x : List ℕ). sets x 4 (packed (top ++ bottom))) head)
        ∙ sym (sets-append (sets o 0 (word_bytes (C + 24) ++ word_bytes C)) 4 (packed (top ++ bottom)) block)
        ∙ sym (sets-append o 0 (word_bytes (C + 24) ++ word_bytes C) (packed (top ++ bottom) ++ block))

    -- ---- With n bytes of output

    -- the answer, and what is stored
    abbrev pub Leaves : Res (List ℕ) → List ℕ → Res ℕ → List ℕ → Type 0
    Leaves u o r o' = (r ≡ demo_given u) × (o' ≡ sets o 0 (listed u))

    module _ (o : List ℕ) where
      pub unit-long : 65535 < 28 + e.all / 2 → Leaves (sized_unit w h px (length o)) o (refuse long_unit) o
      unfolding sized_unit
      unit-long l =
          let n = unit_length_lem in
          let m : 65535 < length (unit_of last_marks w h px) = omega arith in
          (rw (lt-leb (length (unit_of last_marks w h px)) 65535 m), rw (lt-leb (length (unit_of last_marks w h px)) 65535 m))

      module _ (l : 28 + e.all / 2 ≤ 65535) where
        pub unit-short : length o < 28 + e.all / 2 → Leaves (sized_unit w h px (length o)) o (refuse short_output) o
        unfolding sized_unit
        unit-short k =
            let n = unit_length_lem in
            let m : length (unit_of last_marks w h px) ≤ 65535 = omega arith in
            let i : length o < length (unit_of last_marks w h px) = omega arith in
            (rw (le-leb (length (unit_of last_marks w h px)) 65535 m, lt-leb (length (unit_of last_marks w h px)) (length o) i), rw (le-leb (length (unit_of last_marks w h px)) 65535 m, lt-leb (length (unit_of last_marks w h px)) (length o) i))

        pub unit-fits : 28 + e.all / 2 ≤ length o → (o' : List ℕ) → o' ≡ sets o 0 (unit_of last_marks w h px) → Leaves (sized_unit w h px (length o)) o (ok (28 + e.all / 2)) o'
        unfolding sized_unit
        unit-fits k o' q =
            let n = unit_length_lem in
            let m : length (unit_of last_marks w h px) ≤ 65535 = omega arith in
            let i : length (unit_of last_marks w h px) ≤ length o = omega arith in
            (rw (le-leb (length (unit_of last_marks w h px)) 65535 m, le-leb (length (unit_of last_marks w h px)) (length o) i) (ap ok (sym n)), rw (le-leb (length (unit_of last_marks w h px)) 65535 m, le-leb (length (unit_of last_marks w h px)) (length o) i) q)

  -- ---- Any picture

  module _ (o : List ℕ) where
    pub demo-width : is_side w ≡ false → Written w h px o (refuse bad_side) o
    unfolding demo_at picture_ok
    demo-width t = record { answer = rw t; output = rw t }

    module _ (a : is_side w ≡ true) where
      pub demo-height : is_side h ≡ false → Written w h px o (refuse bad_side) o
      unfolding demo_at picture_ok
      demo-height t = record { answer = rw (a, t); output = rw (a, t) }

      module _ (b : is_side h ≡ true) where
        pub demo_count : (length px ≡ w * h → ⊥) → Written w h px o (refuse not_all_indices) o
        unfolding demo_at picture_ok
        demo_count t = record { answer = rw (a, b, ne_eqb (length px) (w * h) t); output = rw (a, b, ne_eqb (length px) (w * h) t) }

        module _ (c : length px ≡ w * h) where
          pub demo-colours : all_colours px ≡ false → Written w h px o (refuse bad_index) o
          unfolding demo_at picture_ok
          demo-colours t = record { answer = rw (a, b, eq-eqb (length px) (w * h) c, t); output = rw (a, b, eq-eqb (length px) (w * h) c, t) }

          module _ (d : all_colours px ≡ true) where
            pub demo_sound : Sound w h px
            demo_sound =
                let x = and-true (leb 1 w) (leb w 4096) a in
                let y = and-true (leb 1 h) (leb h 4096) b in
                record { wide = leb-true 1 w x.0; w_most = leb-true w 4096 x.1; high = leb-true 1 h y.0; h_most = leb-true h 4096 y.1; all = c; colours = colours-four px d }

            pub demo-written : (r : Res ℕ) (o' : List ℕ) → (r ≡ demo_given (sized_unit w h px (length o))) × (o' ≡ sets o 0 (listed (sized_unit w h px (length o)))) → Written w h px o r o'
            unfolding demo_at picture_ok
            demo-written r o' g = record { answer = rw (a, b, eq-eqb (length px) (w * h) c, d) g.0; output = rw (a, b, eq-eqb (length px) (w * h) c, d) g.1 }

-- measuring, with a front of no bytes to write in, leaves all as found
pub measured-none : (w h : ℕ) (px o : List ℕ) (e : Ends) (f : List ℕ) → FieldsWritten w h px (take 0 o) e f → f ++ drop 0 o ≡ o
measured-none w h px o e f d = ap (λ (l : List ℕ). l ++ o) (d.bytes ∙ nothing (packed (top_nibbles last_marks w h px ++ bottom_nibbles last_marks w h px)) 4)
  where
    nothing : (x : List ℕ) (i : ℕ) → sets [] i x ≡ []
    nothing [] i = refl
    nothing (v ∷ x) i = nothing x (suc i)
