-- The call keeps its claim on whole files: a reading is found within lent lengths exactly where it is one and they are long enough, and no
-- files have two for one cue and stream. Assumes nothing.
use Prim.Native.Nat.{ℕ, ◌*◌, ◌≤◌, ◌<◌}
use mathlib.Core.Path.{◌≡◌, refl, sym, ap, ◌∙◌, subst}
use mathlib.Core.Logic.{◌↔◌}
use Rattle.std.specs.Prelude.{Option, Some as some, None as none}
use mathlib.Core.List.{List}
use lib.ListN.{length}
use lib.Dec.{leb}
use lib.Seq.{sets}
use lib.IntN.{ℤ}
use borrow.Author.Tests.{leb-true, le-leb}
use Rattle.outcome.specs.Outcome.{Res, ok, refuse, need, bad_stream, no_cue, short_pixels, short_canvas, long_instant}
use Rattle.grammar.proofs.Lengths.{reading-map, reading-canvas}
use Rattle.outcome.proofs.Laws.{ok-injective, and_then-ok, check-ok, map_res-ok, need-some}
use Rattle.grammar.specs.Index.{ListedText, IsText}
use Rattle.grammar.specs.IndexCues.{Cue, cues_of, cue_at}
use Rattle.grammar.specs.Packets.{Form, IsForm, unit_of, top_stream}
use Rattle.grammar.specs.Record.{told, given, width, height}
use Rattle.grammar.specs.Picture.{ListedUnit, IsUnit}
use Rattle.grammar.specs.Pixels.{clipped_in}
use Rattle.grammar.specs.Times.{TimeStays}
use Rattle.grammar.specs.Reading.{Wanted, wanted_id, Reading, IsReading, told_by, reading_start, show_of, hide_of, shown}
use Rattle.clock_model.specs.Answers.{micros_in}
use Rattle.clock_model.proofs.Clock.{stay_iff}
use Rattle.control_model.specs.Few.{few_at}
use Rattle.idx_model.specs.Text.{idx_of}
use Rattle.idx_model.proofs.Claim.{lasting}
use Rattle.idx_model.proofs.Grammar.{text_iff, text_unique}
use Rattle.ps_model.specs.Unit.{unit_at}
use Rattle.ps_model.specs.Answers.{form_stored}
use Rattle.ps_model.proofs.Grammar.{form_iff, form_unique}
use Rattle.ps_model.proofs.Claim.{form_stored_lem, unit-sound, unit-complete}
use Rattle.spu_model.specs.Unit.{rows_at, listed_unit}
use Rattle.spu_model.specs.Unit as UnitOf
use Rattle.spu_model.proofs.Grammar.{unit-iff, unit-unique}
use Rattle.clock_model.specs.Clock.{told_stay}
use Rattle.vobsub_model.specs.Call.{Lent, Found, found, found_for, canvas_in, reading, listed_in, reading_in}
use Rattle.vobsub_model.specs.Answers.{shown_given, canvas_answer, scratch_of, pixels_of, painted_of, CuePainted}
use Rattle.vobsub_model.specs.Claim.{Gives, Room, Equal, Exactly}
use Rattle.vobsub_model.specs.declared.Shown.{Shown}

-- a unit is found within lent lengths exactly where it is found and they are long enough
canvas_sound : (u : List ℕ) (n k : ℕ) (l : ListedUnit) → canvas_in u n k ≡ ok l
    → (UnitOf.unit_at u ≡ ok l) × (width (told l.blocks) * height (told l.blocks) ≤ n) × (4 * (width (told l.blocks) * height (told l.blocks)) ≤ k)
unfolding canvas_in UnitOf.unit_at
canvas_sound u n k l e =
    let a = and_then-ok (few_at u) _ e in
    let bs = a.0 in
    let b = check-ok (leb (width (told bs) * height (told bs)) n) short_pixels _ a.2 in
    let c = check-ok (leb (4 * (width (told bs) * height (told bs))) k) short_canvas _ b.1 in
    let w = map_res-ok (listed_unit bs) (rows_at u (told bs)) c.1 in
    let z : bs ≡ l.blocks = ap (λ (x : ListedUnit). x.blocks) w.2 in
    (rw a.1 c.1, rw (← z) (leb-true _ _ b.0), rw (← z) (leb-true _ _ c.0))

canvas-complete : (u : List ℕ) (n k : ℕ) (l : ListedUnit) → UnitOf.unit_at u ≡ ok l → width (told l.blocks) * height (told l.blocks) ≤ n
    → 4 * (width (told l.blocks) * height (told l.blocks)) ≤ k → canvas_in u n k ≡ ok l
unfolding canvas_in UnitOf.unit_at
canvas-complete u n k l e h j =
    let a = and_then-ok (few_at u) _ e in
    let bs = a.0 in
    let w = map_res-ok (listed_unit bs) (rows_at u (told bs)) a.2 in
    let z : bs ≡ l.blocks = ap (λ (x : ListedUnit). x.blocks) w.2 in
    let h' : width (told bs) * height (told bs) ≤ n = rw z h in
    let j' : 4 * (width (told bs) * height (told bs)) ≤ k = rw z j in
    rw (a.1, le-leb (width (told bs) * height (told bs)) n h', le-leb (4 * (width (told bs) * height (told bs))) k j') a.2

-- a time is there where the grammar has it
is_there : (o : Option ℤ) → given (micros_in o) ≡ given o
is_there none = refl
is_there (some z) = refl

-- what is listed of the text, the cue and the unit's form
record Founded (text file : List ℕ) (q : Wanted) (n : ℕ) (f : Found) : Type 0 where
  text_listed : idx_of text ≡ ok f.text
  stream_is : q.stream ≤ top_stream
  at : Cue
  cue_is : cue_at (cues_of f.text) q.cue ≡ some at
  form_is : unit_at (wanted_id q) file at.position n ≡ ok f.form

found-sound : (text file : List ℕ) (q : Wanted) (n : ℕ) (f : Found) → found_for text file q n ≡ ok f → Founded text file q n f
unfolding found_for
found-sound text file q n f e =
    let a = and_then-ok (idx_of text) _ e in
    let s = check-ok (leb q.stream top_stream) bad_stream _ a.2 in
    let b = and_then-ok (need no_cue (cue_at (cues_of a.0) q.cue)) _ s.1 in
    let c = map_res-ok (found a.0) (unit_at (wanted_id q) file b.0.position n) b.2 in
    let l : a.0 ≡ f.text = ap (λ (x : Found). x.text) c.2 in
    let m : c.0 ≡ f.form = ap (λ (x : Found). x.form) c.2 in
    record {
      text_listed = a.1 ∙ ap ok l;
      stream_is = leb-true _ _ s.0;
      at = b.0;
      cue_is = ap (λ (x : ListedText). cue_at (cues_of x) q.cue) (sym l) ∙ need-some no_cue (cue_at (cues_of a.0) q.cue) b.1;
      form_is = c.1 ∙ ap ok m;
    }

module _ (text file : List ℕ) (q : Wanted) where
  -- what is listed is a reading where its times stay, and there is room for it
  listed-sound : (b : Lent) (x : Reading) → listed_in text file q b ≡ ok x
      → TimeStays (show_of x) × TimeStays (hide_of x) → IsReading text file q x × Room x b
  unfolding listed_in
  listed-sound b x e stay =
      let a = and_then-ok (found_for text file q (length b.scratch)) _ e in
      let f = a.0 in
      let w = map_res-ok (reading q f) (canvas_in (unit_of f.form) (length b.pixels) (length b.canvas)) a.2 in
      let g = found-sound text file q (length b.scratch) f a.1 in
      let u = unit-sound (wanted_id q) file g.at.position (length b.scratch) f.form g.form_is in
      let i = (form_iff (wanted_id q) file g.at.position f.form).0 u.0 in
      let c = canvas_sound (unit_of f.form) (length b.pixels) (length b.canvas) w.0 w.1 in
      let t = subst (λ (y : Reading). TimeStays (show_of y) × TimeStays (hide_of y)) (sym w.2) stay in
      subst (λ (y : Reading). IsReading text file q y × Room y b) w.2 (
        record {
          text_is = (text_iff text f.text).0 g.text_listed;
          cue_is = refl;
          stream_is = g.stream_is;
          at = g.at;
          listed = g.cue_is;
          before_end = i.0;
          form_is = i.1;
          unit_is = (unit-iff (unit_of f.form) w.0).0 c.0;
          show_stays = t.0;
          hide_stays = t.1;
        },
        record { for_unit = u.1; for_map = c.1; for_canvas = c.2 },
      )

  -- and what the grammar lists with room is listed, whatever its times are
  pub listed-complete : (b : Lent) (x : Reading) (c : Cue) → IsText text x.text → x.cue ≡ q.cue → q.stream ≤ top_stream
      → cue_at (cues_of x.text) x.cue ≡ some c → c.position < length file → IsForm (wanted_id q) file c.position x.form
      → IsUnit (unit_of x.form) x.unit → Room x b → listed_in text file q b ≡ ok x
  unfolding listed_in found_for
  listed-complete b x c t e s l p f u r =
      let k : cue_at (cues_of x.text) q.cue ≡ some c = ap (cue_at (cues_of x.text)) (sym e) ∙ l in
      let m = unit-complete (wanted_id q) file c.position (length b.scratch) x.form ((form_iff (wanted_id q) file c.position x.form).1 (p, f)) r.for_unit in
      let d = canvas-complete (unit_of x.form) (length b.pixels) (length b.canvas) x.unit ((unit-iff (unit_of x.form) x.unit).1 u) r.for_map r.for_canvas in
      rw ((text_iff text x.text).1 t, le-leb q.stream top_stream s, k, m, d) (λ i. ok (record { text = x.text; cue = sym e i; form = x.form; unit = x.unit }))

  -- a reading that is found is what is listed, and its times stay
  in_time_lem : (b : Lent) (x : Reading) → reading_in text file q b ≡ ok x
      → (listed_in text file q b ≡ ok x) × (TimeStays (show_of x) × TimeStays (hide_of x))
  unfolding reading_in
  in_time_lem b x e =
      let a = and_then-ok (listed_in text file q b) _ e in
      let c = check-ok (told_stay (reading_start a.0) (told_by a.0)) long_instant (ok a.0) a.2 in
      let p : a.0 ≡ x = ok-injective c.1 in (
        a.1 ∙ ap ok p,
        subst (λ (y : Reading). TimeStays (show_of y) × TimeStays (hide_of y)) p
            ((stay_iff (reading_start a.0) (told_by a.0).starts (told_by a.0).stops).0 c.0),
      )

  -- a reading that is found is one, with room
  sound : (b : Lent) (x : Reading) → reading_in text file q b ≡ ok x → IsReading text file q x × Room x b
  sound b x e = let t = in_time_lem b x e in listed-sound b x t.0 t.1

  -- and a reading with room is found
  complete : (b : Lent) (x : Reading) → IsReading text file q x → Room x b → reading_in text file q b ≡ ok x
  unfolding reading_in
  complete b x h r =
      let l = listed-complete b x h.at h.text_is h.cue_is h.stream_is h.listed h.before_end h.form_is h.unit_is r in
      rw (l, (stay_iff (reading_start x) (told_by x).starts (told_by x).stops).1 (h.show_stays, h.hide_stays))

  pub reading-iff : (b : Lent) (x : Reading) → (reading_in text file q b ≡ ok x) ↔ (IsReading text file q x × Room x b)
  reading-iff b x = (sound b x, λ h. complete b x h.0 h.1)

  -- no files have two readings for one cue and stream
  pub no_two : (x y : Reading) → IsReading text file q x → IsReading text file q y → x ≡ y
  no_two x y h k =
      let l : x.text ≡ y.text = text_unique text x.text y.text h.text_is k.text_is in
      let c : x.cue ≡ y.cue = h.cue_is ∙ sym k.cue_is in
      let s : some h.at ≡ some k.at = sym h.listed ∙ (λ i. cue_at (cues_of (l i)) (c i)) ∙ k.listed in
      let a : h.at ≡ k.at = cc s in
      let m : x.form ≡ y.form = form_unique (wanted_id q) file k.at.position x.form y.form k.before_end (subst (λ (z : Cue). IsForm (wanted_id q) file z.position x.form) a h.form_is) k.form_is in
      let u : x.unit ≡ y.unit = unit-unique (unit_of y.form) x.unit y.unit (subst (λ (z : Form). IsUnit (unit_of z) x.unit) m h.unit_is) k.unit_is in
      λ i. record { text = l i; cue = c i; form = m i; unit = u i }

  module _ (b : Lent) (r : Res Shown) (b' : Lent) (d : CuePainted text file q b r b') where
    -- a canvas is a reading's
    given-reading : (o : Res Reading) → reading_in text file q b ≡ o → Gives r → (x : Reading) × (reading_in text file q b ≡ ok x)
    given-reading (ok x) e g = (x, e)
    given-reading (refuse n) e g = absurd (subst Gives (d.answer ∙ ap canvas_answer e) g)

    gives : (x : Reading) → reading_in text file q b ≡ ok x → Gives r
    gives x e = subst Gives (sym (d.answer ∙ ap canvas_answer e)) tt

    equal : (x : Reading) → reading_in text file q b ≡ ok x → Equal x b r b'
    unfolding listed_in shown shown_given
    equal x e =
        let h = (sound b x e).0 in
        let a = and_then-ok (found_for text file q (length b.scratch)) _ (in_time_lem b x e).0 in
        let w = map_res-ok (reading q a.0) (canvas_in (unit_of a.0.form) (length b.pixels) (length b.canvas)) a.2 in
        let f : a.0.form ≡ x.form = ap (λ (y : Reading). y.form) w.2 in
        record {
          says = shown_given (shown x);
          paints = d.answer ∙ ap canvas_answer e;
          start = refl;
          lasts = lasting (shown x).duration;
          duration = refl;
          started = refl;
          stopped = refl;
          start_delay = refl;
          stop_delay = refl;
          shows = is_there (shown x).show;
          show = refl;
          hides = is_there (shown x).hide;
          hide = refl;
          x1 = refl;
          y1 = refl;
          width = refl;
          height = refl;
          codes = refl;
          clipped = refl;
          in_scratch = d.in_scratch ∙ ap (λ (y : Res Found). sets b.scratch 0 (scratch_of y)) a.1 ∙ ap (λ (y : Form). sets b.scratch 0 (form_stored y)) f ∙ ap (sets b.scratch 0) (form_stored_lem x.form);
          in_pixels = d.in_pixels ∙ ap (λ (y : Res Reading). sets b.pixels 0 (pixels_of y)) e;
          in_canvas = d.in_canvas ∙ ap (λ (y : Res Reading). sets b.canvas 0 (painted_of y)) e;
          map_long = reading-map text file q x h;
          canvas_long = reading-canvas text file q x h;
        }

    left : (o : Res Reading) → reading_in text file q b ≡ o → (Gives r → ⊥) → (b'.pixels ≡ b.pixels) × (b'.canvas ≡ b.canvas)
    left (ok x) e n = absurd (n (gives x e))
    left (refuse m) e n = (
      d.in_pixels ∙ ap (λ (y : Res Reading). sets b.pixels 0 (pixels_of y)) e,
      d.in_canvas ∙ ap (λ (y : Res Reading). sets b.canvas 0 (painted_of y)) e,
    )

    pub claim : Exactly text file q b r b'
    claim = record {
      exactly_when = (
        λ g. let w = given-reading (reading_in text file q b) refl g in let s = sound b w.0 w.1 in (w.0, s.0, s.1),
        λ w. gives w.0 (complete b w.0 w.1 w.2),
      );
      no_two = no_two;
      same = λ x h g.
          let w = given-reading (reading_in text file q b) refl g in
          equal x (w.1 ∙ ap ok (no_two w.0 x (sound b w.0 w.1).0 h));
      as_found = left (reading_in text file q b) refl;
    }

    -- the number of clipped codes, in the grammar's words
    pub clipped_codes : (s : Shown) → r ≡ ok s → (x : Reading) → IsReading text file q x
        → s.clipped ≡ clipped_in (width (told_by x)) x.unit.rows
    unfolding shown
    clipped_codes s p x h =
        let e = claim.same x h (subst Gives (sym p) tt) in
        let z : ok s ≡ ok e.says = sym p ∙ e.paints in
        let y : s ≡ e.says = cc z in
        ap (λ (t : Shown). t.clipped) y ∙ e.clipped

    -- whether a start and a stop command stand, and both times
    pub shown_times_lem : (s : Shown) → r ≡ ok s → (x : Reading) → IsReading text file q x
        → (s.started ≡ given (told_by x).starts) × (s.stopped ≡ given (told_by x).stops)
        × (given s.show ≡ given (show_of x)) × (s.show ≡ micros_in (show_of x))
        × (given s.hide ≡ given (hide_of x)) × (s.hide ≡ micros_in (hide_of x))
    unfolding shown
    shown_times_lem s p x h =
        let e = claim.same x h (subst Gives (sym p) tt) in
        let z : ok s ≡ ok e.says = sym p ∙ e.paints in
        let y : s ≡ e.says = cc z in (
          ap (λ (t : Shown). t.started) y ∙ e.started,
          ap (λ (t : Shown). t.stopped) y ∙ e.stopped,
          ap (λ (t : Shown). given t.show) y ∙ e.shows,
          ap (λ (t : Shown). t.show) y ∙ e.show,
          ap (λ (t : Shown). given t.hide) y ∙ e.hides,
          ap (λ (t : Shown). t.hide) y ∙ e.hide,
        )
