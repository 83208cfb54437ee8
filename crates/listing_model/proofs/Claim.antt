-- A cue's line has the values of the grammar's reading for the cue and stream 0, and is refused where there is none.
-- Assumes nothing.
use Prim.Native.Nat.{ℕ, ◌≤◌}
use native.Mathlib.Omega.{arith}
use mathlib.Core.Path.{◌≡◌, refl, sym, ap, ◌∙◌, subst}
use Rattle.std.specs.Prelude.{Some as some}
use mathlib.Core.List.{List}
use lib.IntN.{ℤ}
use lib.ListN.{length}
use lib.Seq.{sets}
use Rattle.outcome.specs.Outcome.{Res, ok, refuse, IsOk, need, and_then, map_res, no_cue, long_instant}
use Rattle.outcome.proofs.Laws.{ok-injective, and_then-ok, check-ok, map_res-ok, need-some}
use Rattle.grammar.specs.Index.{ListedText, IsText}
use Rattle.grammar.specs.IndexCues.{Cue, cues_of, cue_at, duration_of}
use Rattle.grammar.specs.Packets.{Form, unit_of, stream_id}
use Rattle.grammar.proofs.Streams.{readings_same}
use Rattle.grammar.specs.Record.{told, given as given_told, delay_of, width, height}
use Rattle.grammar.specs.Times.{show_time, hide_time, TimeStays}
use Rattle.grammar.specs.Pixels.{codes_in, clipped_in}
use Rattle.grammar.specs.Reading.{wanted, Reading, IsReading, Shown, start_at, reading_start, shown}
use Rattle.clock_model.specs.Clock.{told_stay, unit_in_time}
use Rattle.clock_model.proofs.Clock.{stay_iff}
use Rattle.idx_model.proofs.Grammar.{text_unique}
use Rattle.ps_model.specs.Packets.{form_at}
use Rattle.ps_model.specs.Answers.{unit_stored}
use Rattle.ps_model.proofs.Grammar.{form_iff}
use Rattle.ps_model.proofs.Streams.{form_same}
use Rattle.spu_model.specs.Unit.{unit_at}
use Rattle.spu_model.proofs.Grammar.{unit-iff}
use Rattle.listing_model.specs.Lines.{refused_line}
use Rattle.listing_model.specs.Title.{list_stream, shown_at, unit_for, timed_for, form_for, shown_for, line_of, cue_line}
use Rattle.listing_model.specs.Answers.{Put, Written, Exactly, Undisturbed}
use Rattle.listing_model.proofs.Laws.{written}

module _ (cs : List Cue) (f : List ℕ) (n : ℕ) where
  -- what a reading shows is shown
  module _ (text : List ℕ) (x : Reading) (e : cues_of x.text ≡ cs) (h : IsReading text f (wanted n list_stream) x) where
    cue_is : cue_at cs n ≡ some h.at
    cue_is = (λ i. cue_at (sym e i) (sym h.cue_is i)) ∙ h.listed

    unit_is : unit_for f h.at.position ≡ ok x.unit
    unfolding unit_for
    unit_is = rw ((form_iff (stream_id list_stream) f h.at.position x.form).1 (h.before_end, h.form_is)) ((unit-iff (unit_of x.form) x.unit).1 h.unit_is)

    start_is : h.at.start ≡ reading_start x
    start_is = ap start_at (sym h.listed)

    -- and its times stay
    timed-is : timed_for h.at.start f h.at.position ≡ ok x.unit
    unfolding timed_for
    timed-is =
        let t = told x.unit.blocks in
        rw (unit_is, start_is, (stay_iff (reading_start x) t.starts t.stops).1 (h.show_stays, h.hide_stays))

    shown-is : shown_at h.at.start (duration_of cs n) x.unit ≡ shown x
    unfolding shown
    shown-is =
        let t = told x.unit.blocks in
        λ i. record {
          start = start_is i;
          duration = duration_of (sym e i) (sym h.cue_is i);
          start_delay = delay_of t.starts;
          stop_delay = delay_of t.stops;
          started = given_told t.starts;
          stopped = given_told t.stops;
          show = show_time (start_is i) t.starts;
          hide = hide_time (start_is i) t.starts t.stops;
          x1 = t.at.x1;
          y1 = t.at.y1;
          width = width t;
          height = height t;
          codes = codes_in x.unit.rows;
          clipped = clipped_in (width t) x.unit.rows;
        }

    pub reading-shown : shown_for cs f n ≡ ok (shown x)
    unfolding shown_for
    reading-shown = rw (cue_is, timed-is) (ap ok shown-is)

  -- and what is shown is a reading's
  pub shown-reading : (text : List ℕ) (index : ListedText) → IsText text index → cues_of index ≡ cs → (s : Shown)
      → shown_for cs f n ≡ ok s → (x : Reading) × IsReading text f (wanted n list_stream) x
  unfolding shown_for unit_for timed_for
  shown-reading text index t e s q =
      let a = and_then-ok (need no_cue (cue_at cs n)) _ q in
      let c = a.0 in
      let b = map_res-ok (shown_at c.start (duration_of cs n)) (timed_for c.start f c.position) a.2 in
      let d = and_then-ok (unit_for f c.position) _ b.1 in
      let k = check-ok (told_stay c.start (told d.0.blocks)) long_instant (ok d.0) d.2 in
      let p : d.0 ≡ b.0 = ok-injective k.1 in
      let m = and_then-ok (form_at (stream_id list_stream) f c.position) _ d.1 in
      let i = (form_iff (stream_id list_stream) f c.position m.0).0 m.1 in
      let l : cue_at (cues_of index) n ≡ some c = ap (λ (l : List Cue). cue_at l n) e ∙ need-some no_cue (cue_at cs n) a.1 in
      let w = (stay_iff c.start (told d.0.blocks).starts (told d.0.blocks).stops).0 k.0 in
      let v = subst (λ (z : ℤ). TimeStays (show_time z (told d.0.blocks).starts) × TimeStays (hide_time z (told d.0.blocks).starts (told d.0.blocks).stops)) (ap start_at (sym l)) w in (
        record { text = index; cue = n; form = m.0; unit = d.0 },
        record {
          text_is = t;
          cue_is = refl;
          stream_is = omega arith;
          at = c;
          listed = l;
          before_end = i.0;
          form_is = i.1;
          unit_is = (unit-iff (unit_of m.0) d.0).0 m.2;
          show_stays = v.0;
          hide_stays = v.1;
        },
      )

  pub claim : (l l' : List ℕ) (r : ℕ) → Written (cue_line cs f n) l r l' → Exactly cs f n l l'
  claim l l' r w =
      record {
        exactly_when = λ text index t e. (
          given text index t e (shown_for cs f n) refl,
          λ y. subst IsOk (sym (reading-shown text y.0 (ap cues_of (text_unique text y.0.text index y.1.text_is t) ∙ e) y.1)) tt,
        );
        same = λ text x e h. w.stored ∙ ap (λ (s : Res Shown). sets l 0 (line_of n s)) (reading-shown text x e h);
        refused = λ text index t e m. none-given text index t e m (shown_for cs f n) refl;
      }
    where
      none-given : (text : List ℕ) (index : ListedText) → IsText text index → cues_of index ≡ cs
          → ((x : Reading) → IsReading text f (wanted n list_stream) x → ⊥)
          → (o : Res Shown) → shown_for cs f n ≡ o → (k : ℕ) × (l' ≡ sets l 0 (refused_line n k))
      none-given text index t e m (ok s) q = let y = shown-reading text index t e s q in absurd (m y.0 y.1)
      none-given text index t e m (refuse k) q = (k, w.stored ∙ ap (λ (s : Res Shown). sets l 0 (line_of n s)) q)

      given : (text : List ℕ) (index : ListedText) → IsText text index → cues_of index ≡ cs
          → (o : Res Shown) → shown_for cs f n ≡ o
          → IsOk o → (x : Reading) × IsReading text f (wanted n list_stream) x
      given text index t e (ok s) q y = shown-reading text index t e s q
      given text index t e (refuse k) q y = absurd y

  -- what other streams carry does not count
  pub undisturbed : (l s : List ℕ) (r : ℕ) (l' s' : List ℕ) → Written (cue_line cs f n) l r l'
      → s' ≡ sets s 0 (unit_stored (form_for cs f n)) → Undisturbed cs f n l s r l' s'
  unfolding shown_for unit_for timed_for form_for
  undisturbed l s r l' s' w q g c ps e k a t l'' s'' v u =
      let z = form_same list_stream f g c.position ps k a in
      let x : shown_for cs f n ≡ shown_for cs g n = rw e (ap (λ (m : Res Form). map_res (shown_at c.start (duration_of cs n)) (unit_in_time c.start (and_then m (λ o. unit_at (unit_of o))))) z) in
      let y : form_for cs f n ≡ form_for cs g n = rw e z in
      record {
        readings = λ text index i o. readings_same text (wanted n list_stream) index c i (ap (λ (v : List Cue). cue_at v n) o ∙ e) f g ps k a;
        size = w.size ∙ ap (λ (o : Res Shown). length (line_of n o)) x ∙ sym v.size;
        line = w.stored ∙ ap (λ (o : Res Shown). sets l 0 (line_of n o)) x ∙ sym v.stored;
        scratch = q ∙ ap (λ (o : Res Form). sets s 0 (unit_stored o)) y ∙ sym u;
      }

  -- a whole line, with what is left in scratch
  pub listed-line : {k r : ℕ} {l l' : List ℕ} (a s s' : List ℕ) → k ≤ 256 → a ≡ cue_line cs f n → Put k l 0 a r l'
      → s' ≡ sets s 0 (unit_stored (form_for cs f n))
      → Written (cue_line cs f n) l r l' × Exactly cs f n l l' × (s' ≡ sets s 0 (unit_stored (form_for cs f n))) × Undisturbed cs f n l s r l' s'
  listed-line {k} {r} {l} {l'} a s s' i e p q =
      let w : Written (cue_line cs f n) l r l' = written i (subst (λ (b : List ℕ). Put k l 0 b r l') e p) in
      (w, claim l l' r w, q, undisturbed l s r l' s' w q)
