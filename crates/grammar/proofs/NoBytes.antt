-- The text of no bytes (FORMAT 1.13): cards for what it gives, which the claim does not guard, as reader and grammar
-- share it; the rule of its greys at every entry; which texts are listed so, and that one of blanks alone is not: it
-- has a byte and says nothing; and what its readings are. Assumes nothing.
use Prim.Native.Nat.{ℕ, zero, suc, ◌+◌, ◌*◌, ◌≤◌, ◌<◌}
use native.Mathlib.Omega.{arith}
use mathlib.Core.Path.{◌≡◌, refl, sym, ap, ◌∙◌, subst}
use mathlib.Core.Logic.{inl, ◌↔◌}
use mathlib.Core.Bool.{Bool, true, false, ◌&&◌, ◌||◌}
use Rattle.std.specs.Prelude.{Some as some, None as none}
use mathlib.Core.List.{List, [], ◌∷◌, ◌++◌, append-nil}
use lib.Dec.{ltb, leb, eqb}
use lib.IntN.{pos}
use lib.ListN.{length, get_or, take, drop, replicate}
use borrow.Author.Tests.{lt-ltb, leb-true, eqb-true}
use Rattle.grammar.specs.Bytes.{byte}
use Rattle.grammar.specs.Parts.{Part}
use Rattle.grammar.specs.IndexParts.{blank, line_end, All, Trimmed, Parted}
use Rattle.grammar.specs.Index.{Said, size, palette, timestamp, SaysNothing, LinesListed, Low, greys_from, greys, ListedText, of_lines, no_bytes, IsText}
use Rattle.grammar.specs.IndexCues.{Cue, colours_of, palette_from, first_palette, lines_have_palette, cues_of, palette_of, has_palette, display_size, size_is, cue_at, duration_of}
use Rattle.grammar.specs.Packets.{Form, IsForm, unit_of, top_stream}
use Rattle.grammar.specs.Record.{told}
use Rattle.grammar.specs.Picture.{ListedUnit, IsUnit}
use Rattle.grammar.specs.Reading.{Wanted, wanted_id, Reading, IsReading, start_at, shown, unit_canvas, canvas_of}
use Rattle.grammar.proofs.UniqueParts.{never, not-empty, has-byte, all-front, all_rest}
use Rattle.grammar.proofs.UniqueIndex.{text_unique}
use Rattle.grammar.proofs.PacketParts.{low-unit}
use Rattle.grammar.proofs.Times.{told-words, from-0}

-- ---- What it gives

-- entries 0, 1 and 15, and no more than 16 of them
pub grey-entries :
    (take 6 greys ++ drop 45 greys ≡ 0 ∷ 0 ∷ 0 ∷ 17 ∷ 17 ∷ 17 ∷ 255 ∷ 255 ∷ 255 ∷ []) × (length greys ≡ 48)
unfolding greys_from
grey-entries = (refl, refl)

-- one cue with start and position 0
pub one-cue : cues_of (no_bytes greys) ≡ record { start = pos 0; position = 0 } ∷ []
one-cue = refl

pub no_duration : duration_of (cues_of (no_bytes greys)) 0 ≡ none
unfolding duration_of
no_duration = refl

-- no size, and no palette that a line gives
pub no_line :
    (display_size (no_bytes greys) ≡ size_is 0 0)
    × (has_palette (no_bytes greys) ≡ false) × (palette_of (no_bytes greys) ≡ greys)
unfolding greys_from
no_line = (refl, refl, refl)

-- red, green and blue of entry i are 17 times i
grey-from : (n j i c : ℕ) → i < n → c < 3 → get_or (greys_from n j) (3 * i + c) 0 ≡ 17 * (j + i)
unfolding greys_from
grey-from zero j i c h k = absurd (omega arith)
grey-from (suc n) j zero c h k = colour c k
  where
    colour : (d : ℕ) → d < 3 → get_or (17 * j ∷ 17 * j ∷ 17 * j ∷ greys_from n (suc j)) (3 * 0 + d) 0 ≡ 17 * (j + 0)
    colour zero l = omega arith
    colour (suc zero) l = omega arith
    colour (suc (suc zero)) l = omega arith
    colour (suc (suc (suc d))) l = absurd (omega arith)
grey-from (suc n) j (suc i) c h k =
    let e : 3 * suc i + c ≡ suc (suc (suc (3 * i + c))) = omega arith in
    let z : 17 * (suc j + i) ≡ 17 * (j + suc i) = omega arith in
    rw e (grey-from n (suc j) i c (omega arith) k ∙ z)

pub grey_rule : (i c : ℕ) → i < 16 → c < 3 → get_or greys (3 * i + c) 0 ≡ 17 * i
grey_rule i c h k = let z : 17 * (0 + i) ≡ 17 * i = omega arith in grey-from 16 0 i c h k ∙ z

-- ---- Which texts are listed so

-- a text of no bytes is listed in one way
pub no_bytes-listed : (t : ListedText) → IsText [] t ↔ (t ≡ no_bytes greys)
no_bytes-listed t = (
  λ h. text_unique [] t (no_bytes greys) h (refl, refl),
  λ e. subst (IsText []) (sym e) (refl, refl),
)

-- and no other text is listed so
pub only-no_bytes : (text p : List ℕ) → IsText text (no_bytes p) → (text ≡ []) × (p ≡ greys)
only-no_bytes text p h = h

-- the list of no lines is not that of no bytes
pub no-lines-not-so : IsText [] (of_lines []) → ⊥
no-lines-not-so h = h.0 refl

-- one blank is not listed as no bytes
pub one-blank-not-so : IsText (32 ∷ []) (no_bytes greys) → ⊥
one-blank-not-so h = has-byte 32 [] h.0

-- a blank is below 80
low-blank : (b : ℕ) → blank b ≡ true → ltb b 128 ≡ true
low-blank b h = lt-ltb b 128 (go (leb 9 b) (leb b 13) refl (eqb b 32) refl h)
  where
    go : (l m : Bool) → leb b 13 ≡ m → (t : Bool) → eqb b 32 ≡ t → (l && m) || t ≡ true → b < 128
    go true true e t f k = omega (arith, leb-true b 13 e)
    go true false e t f k = omega (arith, eqb-true b 32 (f ∙ k))
    go false true e t f k = omega (arith, eqb-true b 32 (f ∙ k))
    go false false e t f k = omega (arith, eqb-true b 32 (f ∙ k))

pub low_blanks : (s : List ℕ) → All blank s → Low s
low_blanks [] h = tt
low_blanks (b ∷ s) h = (low-blank b h.0, low_blanks s h.1)

-- an empty line says nothing
empty-says-nothing : (p : ℕ) → SaysNothing (record { place = p; bytes = [] })
empty-says-nothing p = inl (λ w. not-empty _ _ w.1, λ w. not-empty _ _ w.1, λ w. not-empty _ _ w.1)

-- a line of blanks, trimmed, is empty
blank-trimmed : (p : Part) → All blank p.bytes
    → Trimmed p (record { place = p.place + length p.bytes; bytes = [] })
blank-trimmed p h =
    record {
      before = p.bytes;
      middle = [];
      after = [];
      leading = record { whole = sym (append-nil p.bytes); front = h; stops = tt };
      rest = refl;
      trailing = tt;
      ends = tt;
      place = refl;
    }

-- no line of blanks is listed
pub blanks_say-nothing : (at : ℕ) (s : List ℕ) (ps : List Part) → Parted line_end at s ps → All blank s
    → LinesListed ps []
blanks_say-nothing at s [] h k = absurd h
blanks_say-nothing at s (p ∷ []) h k =
    (_, blank-trimmed p (rw h.1 k), empty-says-nothing (p.place + length p.bytes), tt)
blanks_say-nothing at s (p ∷ q ∷ ps) h k =
    let a : All blank (p.bytes ++ line_end ∷ h.1) = rw (sym h.2) k in (
      _,
      blank-trimmed p (all-front blank p.bytes (line_end ∷ h.1) a),
      empty-says-nothing (p.place + length p.bytes),
      blanks_say-nothing (at + suc (length p.bytes)) h.1 (q ∷ ps) h.4
          (all_rest blank p.bytes (line_end ∷ h.1) a).1,
    )

-- where no palette line has a token the palette stays, and so a text with a byte is black
no_token_same : (was : List ℕ) (ls : List Said) → lines_have_palette ls ≡ false → palette_from was ls ≡ was
unfolding palette_from lines_have_palette colours_of
no_token_same was [] h = refl
no_token_same was (size l w v ∷ ls) h = no_token_same was ls h
no_token_same was (palette l [] ∷ ls) h = no_token_same was ls h
no_token_same was (palette l (t ∷ ts) ∷ ls) h = absurd (never true refl h)
no_token_same was (timestamp l ps fs n ∷ ls) h = no_token_same was ls h

pub bytes-black : (text : List ℕ) (t : ListedText) → IsText text t → (text ≡ [] → ⊥) → has_palette t ≡ false
    → palette_of t ≡ replicate 48 0
bytes-black text (of_lines ls) h f e = no_token_same first_palette ls e
bytes-black text (no_bytes p) h f e = absurd (f h.0)

-- ---- Readings

-- its cue is cue 0, and lasts on
abbrev only : Cue
only = record { start = pos 0; position = 0 }

first : (n : ℕ) (c : Cue) → cue_at (only ∷ []) n ≡ some c → (n ≡ 0) × (c ≡ only)
unfolding cue_at
first zero c e = (refl, cc)
first (suc n) c e = absurd (let z : ◌≡◌ {A = ℕ} 0 1 = cc in omega arith)

lasts_on : (n : ℕ) → duration_of (only ∷ []) n ≡ none
unfolding duration_of
lasts_on n = refl

-- a text without a cue has no reading
pub no_cue-unread : (text file : List ℕ) (q : Wanted) (t : ListedText) → IsText text t → cues_of t ≡ []
    → (x : Reading) → IsReading text file q x → ⊥
unfolding cue_at
no_cue-unread text file q t k e x h =
    let f : cues_of x.text ≡ [] = ap cues_of (text_unique text x.text t h.text_is k) ∙ e in
    let z : none ≡ some h.at = ap (λ (cs : List Cue). cue_at cs x.cue) (sym f) ∙ h.listed in
    let n : ◌≡◌ {A = ℕ} 0 1 = cc in
    omega arith

-- a reading of it is of cue 0, with the unit at the file's front, from time 0 on, in greys
pub no_bytes-reading : (file : List ℕ) (q : Wanted) (x : Reading) → IsReading [] file q x
    → (x.text ≡ no_bytes greys) × (q.cue ≡ 0) × IsForm (wanted_id q) file 0 x.form
    × ((shown x).start ≡ pos 0) × ((shown x).duration ≡ none) × (canvas_of x ≡ unit_canvas greys x.unit)
unfolding shown canvas_of
no_bytes-reading file q x h =
    let e : x.text ≡ no_bytes greys = (no_bytes-listed x.text).0 h.text_is in
    let f : cue_at (only ∷ []) x.cue ≡ some h.at =
    ap (λ (t : ListedText). cue_at (cues_of t) x.cue) (sym e) ∙ h.listed in
    let c = first x.cue h.at f in
    let p : h.at.position ≡ 0 = ap (λ (y : Cue). y.position) c.1 in (
      e,
      sym h.cue_is ∙ c.0,
      subst (λ (n : ℕ). IsForm (wanted_id q) file n x.form) p h.form_is,
      ap (λ (t : ListedText). start_at (cue_at (cues_of t) x.cue)) e ∙ ap start_at f ∙ ap (λ (y : Cue). y.start) c.1,
      ap (λ (t : ListedText). duration_of (cues_of t) x.cue) e ∙ lasts_on x.cue,
      ap (λ (t : ListedText). unit_canvas (palette_of t) x.unit) e,
    )

-- and in a file of bytes every unit there has one: from time 0 on no time leaves
pub no_bytes-read : (file : List ℕ) (q : Wanted) (m : Form) (u : ListedUnit)
    → q.cue ≡ 0 → q.stream ≤ top_stream → 0 < length file → IsForm (wanted_id q) file 0 m → IsUnit (unit_of m) u
    → ((i : ℕ) → byte file i < 256)
    → IsReading [] file q (record { text = no_bytes greys; cue = 0; form = m; unit = u })
unfolding cue_at
no_bytes-read file q m u c s l f h low =
    let w = told-words (unit_of m) (low-unit (wanted_id q) file low 0 m f) u.blocks h.chain in
    let t = from-0 (told u.blocks).starts (told u.blocks).stops w.0 w.1 in
    record {
      text_is = (refl, refl);
      cue_is = sym c;
      stream_is = s;
      at = record { start = pos 0; position = 0 };
      listed = refl;
      before_end = l;
      form_is = f;
      unit_is = h;
      show_stays = t.0;
      hide_stays = t.1;
    }
