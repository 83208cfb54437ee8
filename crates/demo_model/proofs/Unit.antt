-- The unit that is written is one that the grammar lists, and its picture is the one that was given. Assumes nothing.
use Prim.Native.Nat.{ℕ, zero, suc, ◌+◌, ◌-◌, ◌*◌, ◌/◌, ◌%◌, ◌≤◌, ◌<◌}
use native.Mathlib.Nat.{mul-zero, mul-suc}
use native.Mathlib.Omega.{arith}
use mathlib.Core.Path.{◌≡◌, refl, sym, ap, ◌∙◌, subst}
use mathlib.Core.Logic.{inl, inr, ⊎_elim}
use mathlib.Core.List.{List, [], ◌∷◌, ◌++◌}
use lib.ListN.{length, take, drop, length-append, length-drop, take-append-drop}
use lib.Seq.{get_or-append-add, length-take-le}
use borrow.Author.Tests.{lt-ltb, le-ltb}
use Rattle.outcome.proofs.Laws.{le_or_lt}
use Rattle.grammar.specs.Bytes.{byte, word, nibble, nibbles}
use Rattle.grammar.specs.Rows.{Code}
use Rattle.grammar.specs.Pixels.{row_pixels, codes_in, clipped_in, index_map}
use Rattle.grammar.specs.Control.{Order, start, selectors, alphas, area, offsets, Command, IsCommand, Commands, Block, Chain, IsChain, control_word}
use Rattle.grammar.specs.Record.{told, width, commands_of, commands_in, first_delay, last_delay, last_numbers, stands, all_bands}
use Rattle.grammar.specs.Picture.{evens, odds, top_end, Stay0, Bottom, ListedUnit, IsUnit}
use Rattle.rle_model.specs.Fields.{weave}
use Rattle.rle_model.specs.Answers.{plus, listed_counts}
use Rattle.rle_model.specs.declared.Counts.{Counts}
use Rattle.rle_model.proofs.Claim.{listed-weave}
use Rattle.spu_model.proofs.Grammar.{Paired, weave-length, weave-evens, weave-odds, weave-whole, evens-length, odds-length}
use Rattle.demo_model.specs.Codes.{Mark, digits, nibbles_of, row_marks, row_nibbles, field_nibbles, marks_in, packed, picture_rows}
use Rattle.demo_model.specs.Unit.{Four, word_bytes, control_bytes, top_nibbles, bottom_nibbles, unit_of}
use Rattle.demo_model.specs.Claim.{written_told}
use Rattle.demo_model.proofs.Read.{Spells, spells-front, spells-rest, Draws, length_digits}
use Rattle.demo_model.proofs.Marks.{Closes, row-draws}
use Rattle.demo_model.proofs.Fields.{Rows, painted_rows, evened-length, placed_rows, FieldReads, even-length, field-reads}
use Rattle.demo_model.proofs.Pack.{small-append, small-field, nibbles-after, length-packed, packed-spells}

-- ---- The control block

module _ (w h b : ℕ) (f : List ℕ) (wide : 1 ≤ w) (w_most : w ≤ 4096) (high : 1 ≤ h) (h_most : h ≤ 4096) where
  abbrev control_start : ℕ
  control_start = 4 + length f

  -- the unit in front of its control block, and the block
  abbrev front : List ℕ
  front = word_bytes (4 + length f + 24) ++ (word_bytes (4 + length f) ++ f)

  abbrev whole : List ℕ
  whole = word_bytes (4 + length f + 24) ++ (word_bytes (4 + length f) ++ (f ++ control_bytes (4 + length f) w h b))

  front_length : length front ≡ control_start
  front_length = omega arith

  byte-control : (p i : ℕ) → p ≡ control_start + i → byte whole p ≡ byte (control_bytes (4 + length f) w h b) i
  byte-control p i e =
      let z : p ≡ length front + i = e ∙ ap (λ (n : ℕ). n + i) (sym front_length) in
      ap (byte whole) z ∙ get_or-append-add front (control_bytes (4 + length f) w h b) i 0

  word-control : (p i : ℕ) → p ≡ control_start + i → word whole p ≡ byte (control_bytes (4 + length f) w h b) i * 256 + byte (control_bytes (4 + length f) w h b) (i + 1)
  unfolding word
  word-control p i e =
      let x = byte-control p i e in
      let y = byte-control (p + 1) (i + 1) (omega arith) in
      omega arith

  nibbles-control : (p i k : ℕ) → p ≡ 2 * control_start + i → nibbles whole p k ≡ nibbles (control_bytes (4 + length f) w h b) i k
  nibbles-control p i k e =
      let z : p ≡ 2 * length front + i = omega (arith, e, front_length) in
      ap (λ (n : ℕ). nibbles whole n k) z ∙ nibbles-after front (control_bytes (4 + length f) w h b) i k

  -- a command of the block
  abbrev command : ℕ → Order → Command
  command i o = record { place = control_start + i; order = o }

  abbrev commands : List Command
  commands =
      command 4 (selectors 0x0132)
      ∷ command 7 (alphas 0x0FFF)
      ∷ command 10 (area 0 (w - 1) 0 (h - 1))
      ∷ command 17 (offsets 4 b)
      ∷ command 22 start
      ∷ []

  abbrev block : Block
  block = record { place = control_start; delay = 0; next = control_start; commands = commands }

  -- three nibbles, from the second half of a byte on and from its first half on
  low_three : (n : ℕ) → n < 4096 → ((0 * 16 + n / 256 % 16) * 16 + n % 256 / 16 % 16) * 16 + n % 256 % 16 ≡ n
  low_three n l = omega arith

  high_three : (n : ℕ) → n < 4096 → ((0 * 16 + 0) * 16 + 0) * 16 + n / 256 / 16 % 16 ≡ 0
  high_three n l = omega arith

  control-area : IsCommand whole (control_start + 24) (command 10 (area 0 (w - 1) 0 (h - 1)))
  unfolding nibbles nibble
  control-area =
      let x1 : nibbles (control_bytes (4 + length f) w h b) 22 3 ≡ 0 = high_three (w - 1) (omega arith) in
      let x2 : nibbles (control_bytes (4 + length f) w h b) 25 3 ≡ w - 1 = low_three (w - 1) (omega arith) in
      let y1 : nibbles (control_bytes (4 + length f) w h b) 28 3 ≡ 0 = high_three (h - 1) (omega arith) in
      let y2 : nibbles (control_bytes (4 + length f) w h b) 31 3 ≡ h - 1 = low_three (h - 1) (omega arith) in
      record {
        within = omega arith;
        coded = byte-control (control_start + 10) 10 refl;
        says = (
          sym (nibbles-control (2 * (control_start + 10 + 1)) 22 3 (omega arith) ∙ x1),
          sym (nibbles-control (2 * (control_start + 10 + 1) + 3) 25 3 (omega arith) ∙ x2),
          sym (nibbles-control (2 * (control_start + 10 + 1) + 6) 28 3 (omega arith) ∙ y1),
          sym (nibbles-control (2 * (control_start + 10 + 1) + 9) 31 3 (omega arith) ∙ y2),
        );
      }

  control-commands : Commands whole (control_start + 24) (control_start + 4) commands
  unfolding Commands
  control-commands = (
    refl,
    record { within = omega arith; coded = byte-control (control_start + 4) 4 refl; says = sym (word-control (control_start + 4 + 1) 5 (omega arith)) },
    (
      omega arith,
      record { within = omega arith; coded = byte-control (control_start + 7) 7 refl; says = sym (word-control (control_start + 7 + 1) 8 (omega arith)) },
      (
        omega arith,
        control-area,
        (
          omega arith,
          record {
            within = omega arith;
            coded = byte-control (control_start + 17) 17 refl;
            says = (sym (word-control (control_start + 17 + 1) 18 (omega arith)), sym (word-control (control_start + 17 + 1 + 2) 20 (omega arith) ∙ omega arith));
          },
          (
            omega arith,
            record { within = omega arith; coded = byte-control (control_start + 22) 22 refl; says = tt },
            inr (omega arith, byte-control (control_start + 22 + 1 + 0) 23 (omega arith)),
          ),
        ),
      ),
    ),
  )

  control_chain : control_start + 24 < 65536 → IsChain whole (block ∷ [])
  unfolding word Chain
  control_chain m =
      let L : word whole 0 ≡ control_start + 24 = omega arith in
      let k : word whole 2 ≡ control_start = omega arith in
      let n : length whole ≡ control_start + 24 = length-append front (control_bytes (4 + length f) w h b) ∙ omega arith in
      record {
        head = omega arith;
        control = omega arith;
        order = omega arith;
        inside = omega arith;
        chain =
            rw (L, k) (
              refl,
              record { within = omega arith; delay_is = sym (word-control control_start 0 (omega arith)); next_is = sym (word-control (control_start + 2) 2 (omega arith) ∙ omega arith); list = control-commands },
              inl (omega arith, refl),
            );
      }

-- ---- The rows of a picture

unfoldable pub joined_rows : List (List ℕ) → List ℕ
joined_rows [] = []
joined_rows (r ∷ rs) = r ++ joined_rows rs

pub four-take : (n : ℕ) (px : List ℕ) → Four px → Four (take n px)
unfolding Four
four-take zero px h = tt
four-take (suc n) [] h = tt
four-take (suc n) (x ∷ px) h = (h.0, four-take n px h.1)

pub four-drop : (n : ℕ) (px : List ℕ) → Four px → Four (drop n px)
unfolding Four
four-drop zero px h = h
four-drop (suc n) [] h = tt
four-drop (suc n) (x ∷ px) h = four-drop n px h.1

rows-length : (w h : ℕ) (px : List ℕ) → length (picture_rows w h px) ≡ h
unfolding picture_rows
rows-length w zero px = refl
rows-length w (suc h) px = ap suc (rows-length w h (drop w px))

rows-joined : (w h : ℕ) (px : List ℕ) → length px ≡ w * h → joined_rows (picture_rows w h px) ≡ px
unfolding picture_rows joined_rows
rows-joined w zero [] e = refl
rows-joined w zero (x ∷ px) e = absurd (omega (arith, mul-zero w))
rows-joined w (suc h) px e =
    ap (λ (l : List ℕ). take w px ++ l) (rows-joined w h (drop w px) (length-drop w px ∙ omega (arith, e, mul-suc w h))) ∙ take-append-drop w px

rows_four : (w h : ℕ) (px : List ℕ) → length px ≡ w * h → Four px → Rows w (picture_rows w h px)
unfolding picture_rows Rows
rows_four w zero px e k = tt
rows_four w (suc h) px e k =
    let m = mul-suc w h in
    (length-take-le w px (omega arith), four-take w px k, rows_four w h (drop w px) (length-drop w px ∙ omega arith) (four-drop w px k))

rows-evens : (w : ℕ) (rs : List (List ℕ)) → Rows w rs → Rows w (evens rs)
unfolding evens Rows
rows-evens w [] h = tt
rows-evens w (r ∷ []) h = (h.0, h.1, tt)
rows-evens w (r ∷ q ∷ rs) h = (h.0, h.1, rows-evens w rs h.2.2)

rows-odds : (w : ℕ) (rs : List (List ℕ)) → Rows w rs → Rows w (odds rs)
unfolding evens Rows
rows-odds w [] h = tt
rows-odds w (r ∷ rs) h = rows-evens w rs h.2

map-joined : (w : ℕ) (rs : List (List Code)) → index_map w rs ≡ joined_rows (painted_rows w rs)
unfolding index_map joined_rows painted_rows
map-joined w [] = refl
map-joined w (r ∷ rs) = ap (λ (l : List ℕ). row_pixels w r ++ l) (map-joined w rs)

painted-weave : (w : ℕ) (a b : List (List Code)) → painted_rows w (weave a b) ≡ weave (painted_rows w a) (painted_rows w b)
unfolding weave painted_rows
painted-weave w [] b = refl
painted-weave w (x ∷ a) [] = refl
painted-weave w (x ∷ a) (y ∷ b) = ap (λ (l : List (List ℕ)). row_pixels w x ∷ row_pixels w y ∷ l) (painted-weave w a b)

module _ (last : ℕ → ℕ → List Mark) where
  marks-halves : (rs : List (List ℕ)) → marks_in last (evens rs) + marks_in last (odds rs) ≡ marks_in last rs
  unfolding evens marks_in
  marks-halves [] = omega arith
  marks-halves (r ∷ []) = omega arith
  marks-halves (r ∷ q ∷ []) = omega arith
  marks-halves (r ∷ q ∷ s ∷ rs) = let i = marks-halves (s ∷ rs) in omega arith

  -- a row of pixels has a nibble
  row-some : Closes last → (w : ℕ) (r : List ℕ) → 1 ≤ w → length r ≡ w → Four r → 0 < length (row_nibbles last r)
  unfolding Draws nibbles_of
  row-some closes w r a e k = let l = evened-length (nibbles_of (row_marks last r)) in let g = go (row_marks last r) (row-draws last closes r k) in omega arith
    where
      go : (ms : List Mark) → Draws (length r) ms r → 0 < length (nibbles_of ms)
      go [] d = let z = d.0 in absurd (omega arith)
      go (m ∷ ms) d =
          let n = length-append (digits m.size m.value) (nibbles_of ms) in
          let s = length_digits m.size m.value in
          let o = d.1.one in
          omega arith

-- ---- The unit

-- what the grammar lists of the written unit
pub record Back (last : ℕ → ℕ → List Mark) (w h : ℕ) (px : List ℕ) : Type 0 where
  pub list : ListedUnit
  pub listed : IsUnit (unit_of last w h px) list
  pub tells : told list.blocks ≡ written_told w h (4 + length (top_nibbles last w h px) / 2)
  pub picture : index_map w list.rows ≡ px
  pub codes : codes_in list.rows ≡ marks_in last (picture_rows w h px)
  pub clipped : clipped_in w list.rows ≡ 0

-- both fields have whole bytes
module _ (last : ℕ → ℕ → List Mark) (closes : Closes last) (w h : ℕ) (px : List ℕ) where
  pub top-even : length (top_nibbles last w h px) % 2 ≡ 0
  top-even = even-length last closes (evens (picture_rows w h px))

  bottom-even : length (bottom_nibbles last w h px) % 2 ≡ 0
  bottom-even = even-length last closes (odds (picture_rows w h px))

  pub fields-length : 2 * length (packed (top_nibbles last w h px ++ bottom_nibbles last w h px)) ≡ length (top_nibbles last w h px) + length (bottom_nibbles last w h px)
  fields-length =
      let a = length-packed (top_nibbles last w h px ++ bottom_nibbles last w h px) in
      let b = length-append (top_nibbles last w h px) (bottom_nibbles last w h px) in
      let c = top-even in
      let d = bottom-even in
      omega arith

module _ (last : ℕ → ℕ → List Mark) (closes : Closes last) (w h : ℕ) (px : List ℕ)
    (wide : 1 ≤ w) (w_most : w ≤ 4096) (high : 1 ≤ h) (h_most : h ≤ 4096) (e : length px ≡ w * h) (k : Four px) (m : length (unit_of last w h px) ≤ 65535) where
  abbrev rows : List (List ℕ)
  rows = picture_rows w h px

  abbrev top : List ℕ
  top = top_nibbles last w h px

  abbrev bottom : List ℕ
  bottom = bottom_nibbles last w h px

  abbrev fields : List ℕ
  fields = packed (top ++ bottom)

  abbrev second : ℕ
  second = 4 + length top / 2

  abbrev unit : List ℕ
  unit = whole w h second fields wide w_most high h_most

  spelled : Spells unit 8 (top ++ bottom)
  spelled =
      packed-spells (word_bytes (4 + length fields + 24) ++ word_bytes (4 + length fields)) (top ++ bottom) (control_bytes (4 + length fields) w h second)
      (small-append top bottom (small-field last (evens rows)) (small-field last (odds rows)))

  upper : (z : ℕ) → second ≤ z → FieldReads last closes unit z w 8 (evens rows)
  upper z l =
      let t = top-even last closes w h px in
      field-reads last closes unit z w 8 (evens rows) refl (rows-evens w rows (rows_four w h px e k)) (spells-front unit 8 top bottom spelled) (omega arith)

  lower : FieldReads last closes unit (4 + length fields) w (8 + length top) (odds rows)
  lower =
      let t = top-even last closes w h px in
      let f = fields-length last closes w h px in
      field-reads last closes unit (4 + length fields) w (8 + length top) (odds rows) (omega arith) (rows-odds w rows (rows_four w h px e k)) (spells-rest unit 8 top bottom spelled) (omega arith)

  abbrev listing : List (List Code)
  listing = weave (placed_rows last closes 8 (evens rows)) (placed_rows last closes (8 + length top) (odds rows))

  paired : Paired (placed_rows last closes 8 (evens rows)) (placed_rows last closes (8 + length top) (odds rows))
  paired =
      let a = (upper second (omega arith)).all in
      let b = lower.all in
      let c = evens-length rows in
      let d = odds-length rows in
      (omega arith, omega arith)

  length-unit : length unit ≡ 4 + length fields + 24
  length-unit = length-append (front w h second fields wide w_most high h_most) (control_bytes (4 + length fields) w h second) ∙ omega arith

  small_unit : 4 + length fields + 24 < 65536
  unfolding unit_of
  small_unit = let n = length-unit in omega arith

  starts-top : second ≤ top_end (4 + length fields) (record { top = 4; bottom = second })
  unfolding top_end
  starts-top =
      let f = fields-length last closes w h px in
      let t = top-even last closes w h px in
      ⊎_elim (λ (l : second ≤ 4). rw (le-ltb 4 second l) (omega arith)) (λ (l : 4 < second). rw (lt-ltb 4 second l) (omega arith)) (le_or_lt second 4)

  bottom-rows : (rs : List (List ℕ)) → odds rows ≡ rs → Bottom unit (4 + length fields) second w (placed_rows last closes (8 + length top) (odds rows))
  unfolding field_nibbles placed_rows Stay0 Rows
  bottom-rows [] q =
      let f = fields-length last closes w h px in
      let t = top-even last closes w h px in
      let n : length bottom ≡ 0 = ap (λ (l : List (List ℕ)). length (field_nibbles last l)) q in
      inr (inr (omega arith), rw q tt)
  bottom-rows (r ∷ rs) q =
      let f = fields-length last closes w h px in
      let t = top-even last closes w h px in
      let v : Rows w (r ∷ rs) = subst (Rows w) q (rows-odds w rows (rows_four w h px e k)) in
      let n : length bottom ≡ length (row_nibbles last r ++ field_nibbles last rs) = ap (λ (l : List (List ℕ)). length (field_nibbles last l)) q in
      let a = length-append (row_nibbles last r) (field_nibbles last rs) in
      let s = row-some last closes w r wide v.0 v.1 in
      let p : 2 * second ≡ 8 + length top = omega arith in
      let d = bottom-even last closes w h px in
      inl (omega arith, omega arith, rw p lower.rows)

  -- both fields together count what each counts
  counts : listed_counts w listing
      ≡ plus (listed_counts w (placed_rows last closes 8 (evens rows)))
      (listed_counts w (placed_rows last closes (8 + length top) (odds rows)))
  counts = listed-weave w _ _ paired.0 paired.1

  abbrev blocks : List Block
  blocks = block w h second fields wide w_most high h_most ∷ []

  pub back : Back last w h px
  unfolding unit_of word told commands_of commands_in first_delay last_delay last_numbers stands all_bands
  back =
      let c : control_word unit ≡ 4 + length fields = omega (arith, small_unit) in
      let v : width (told blocks) ≡ w = omega arith in
      let x = weave-evens (placed_rows last closes 8 (evens rows)) (placed_rows last closes (8 + length top) (odds rows)) paired in
      let y = weave-odds (placed_rows last closes 8 (evens rows)) (placed_rows last closes (8 + length top) (odds rows)) paired in
      let l = weave-length (placed_rows last closes 8 (evens rows)) (placed_rows last closes (8 + length top) (odds rows)) paired in
      record {
        list = record { blocks = blocks; rows = listing };
        listed =
            record {
              chain = control_chain w h second fields wide w_most high h_most small_unit;
              few = omega arith;
              picture =
                  record {
                    wide = omega arith;
                    high = omega arith;
                    all = let a = (upper second (omega arith)).all in let b = lower.all in let o = odds-length rows in let d = evens-length rows in let n = rows-length w h px in omega arith;
                    top = rw (c, v, x) (upper (top_end (4 + length fields) (record { top = 4; bottom = second })) starts-top).rows;
                    bottom = rw (c, v, y) (bottom-rows (odds rows) refl);
                  };
            };
        tells = refl;
        picture =
            map-joined w listing
            ∙ ap joined_rows
            (painted-weave w (placed_rows last closes 8 (evens rows)) (placed_rows last closes (8 + length top) (odds rows))
            ∙ ap (λ (z : List (List ℕ)). weave z (painted_rows w (placed_rows last closes (8 + length top) (odds rows)))) (upper second (omega arith)).pixels
            ∙ ap (weave (evens rows)) lower.pixels
            ∙ weave-whole rows)
            ∙ rows-joined w h px e;
        codes =
            ap (λ (n : Counts). n.codes) counts
            ∙ omega (arith, (upper second (omega arith)).count, lower.count, marks-halves last rows);
        clipped =
            ap (λ (n : Counts). n.clipped) counts
            ∙ omega (arith, (upper second (omega arith)).clipped, lower.clipped);
      }
