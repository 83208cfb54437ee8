-- The call, step by step: a cue that is not there, a unit that is not found, and a unit that is. Assumes nothing.
use Prim.Native.Nat.{ℕ}
use native.Mathlib.Omega.{arith}
use mathlib.Core.Path.{◌≡◌, refl, sym, ap, ◌∙◌, subst}
use mathlib.Core.Bool.{Bool, true, false, cond}
use Rattle.std.specs.Prelude.{Option, Some as some, None as none}
use mathlib.Core.List.{List}
use lib.IntN.{ℤ}
use lib.ListN.{length}
use lib.Seq.{sets}
use lib.Dec.{leb}
use borrow.Author.Tests.{ne_eqb}
use Rattle.outcome.proofs.Laws.{refuse-injective}
use Rattle.outcome.specs.Outcome.{Res, ok, refuse, IsOk, check, map_res, bad_stream, no_cue}
use Rattle.grammar.specs.Index.{ListedText}
use Rattle.grammar.specs.IndexCues.{Cue, cues_of, cue_at}
use Rattle.grammar.specs.Packets.{Form, bare, packets, unit_of, stream_id, top_stream}
use Rattle.grammar.specs.Record.{told}
use Rattle.grammar.specs.Picture.{ListedUnit}
use Rattle.grammar.specs.Reading.{Wanted, Reading, start_at, told_by, reading_start, shown, map_of, unit_canvas, canvas_of}
use Rattle.clock_model.specs.Clock.{told_stay, in_time}
use Rattle.clock_model.specs.Answers.{micros}
use Rattle.clock_model.proofs.Clock.{time-through}
use Rattle.control_model.specs.Answers.{spu_of}
use Rattle.idx_model.specs.Text.{idx_of}
use Rattle.idx_model.specs.Answers.{pick_of, cue_answer}
use Rattle.idx_model.specs.Claim.{GivesCue}
use Rattle.idx_model.specs.declared.CueAnswer.{CueAnswer}
use Rattle.idx_model.proofs.Claim.{picked, has}
use Rattle.idx_model.proofs.Picks.{cue-in}
use Rattle.idx_model.proofs.Refusals.{text-not-11}
use Rattle.ps_model.specs.Unit.{unit_at, stream_unit}
use Rattle.ps_model.specs.Answers.{form_stored, unit_given, unit_stored, unit_part, Extracted}
use Rattle.ps_model.specs.declared.UnitAt.{UnitAt}
use Rattle.ps_model.proofs.Grammar.{form_iff}
use Rattle.ps_model.proofs.Claim.{stream_sound, unit-there}
use Rattle.spu_model.specs.Answers.{unit_map}
use Rattle.grammar.specs.Reading.{wanted}
use Rattle.vobsub_model.specs.Call.{Lent, lent, Found, found, found_for, canvas_in, timed_in, reading, listed_in, reading_in}
use Rattle.vobsub_model.specs.Answers.{canvas_stored, times_told, shown_of, paints_of, UnitPainted, first_refusal, shown_given, canvas_answer, scratch_of, pixels_of, painted_of, CuePainted}
use Rattle.vobsub_model.specs.Claim.{Exactly, Undisturbed}
use Rattle.vobsub_model.proofs.Claim.{claim}
use Rattle.vobsub_model.proofs.Streams.{undisturbed}
use Rattle.vobsub_model.specs.declared.Shown.{Shown}
use Rattle.spu_model.specs.Unit.{counts_of}

-- where the cue is there, its unit is that of the stream
found_at : (text file : List ℕ) (cue stream n : ℕ) (index : ListedText) (at : Cue) (p : ℕ) → idx_of text ≡ ok index
    → cue_at (cues_of index) cue ≡ some at → p ≡ at.position
    → found_for text file (wanted cue stream) n ≡ map_res (found index) (stream_unit stream file p n)
unfolding found_for stream_unit
found_at text file cue stream n index at p e f g = rw (e, f, g) (go (leb stream top_stream))
  where
    go : (t : Bool)
        → check t bad_stream (map_res (found index) (unit_at (stream_id stream) file at.position n)) ≡ map_res (found index) (check t bad_stream (unit_at (stream_id stream) file at.position n))
    go true = refl
    go false = refl

module _ (text file : List ℕ) (cue stream : ℕ) (s px cv : List ℕ) where
  abbrev before : Lent
  before = lent s px cv

  -- a unit that is not found: nothing is stored
  refused_all : (n : ℕ) → found_for text file (wanted cue stream) (length s) ≡ refuse n
      → CuePainted text file (wanted cue stream) before (refuse n) before
  unfolding reading_in listed_in
  refused_all n e = record { answer = rw e; in_scratch = rw e; in_pixels = rw e; in_canvas = rw e }

  module _ (r : Res CueAnswer) (e : r ≡ cue_answer (pick_of (idx_of text) cue)) where
    -- the text is refused, or the cue is not there
    pub cue-refused : (k : ℕ) → r ≡ refuse k → (n : ℕ) → n ≡ first_refusal k stream
        → CuePainted text file (wanted cue stream) before (refuse n) before
    unfolding pick_of cue_answer found_for
    cue-refused k h n y =
        subst (λ (i : ℕ). CuePainted text file (wanted cue stream) before (refuse i) before) (sym y) (go (idx_of text) refl)
      where
        -- by whether there is such a stream
        with_stream : (index : ListedText) → idx_of text ≡ ok index → cue_at (cues_of index) cue ≡ none → (t : Bool)
            → leb stream top_stream ≡ t
            → CuePainted text file (wanted cue stream) before (refuse (cond t no_cue bad_stream)) before
        with_stream index q f true u = refused_all no_cue (rw (q, u, f))
        with_stream index q f false u = refused_all bad_stream (rw (q, u))

        with-cue : (index : ListedText) → idx_of text ≡ ok index → (o : Option Cue) → cue_at (cues_of index) cue ≡ o
            → CuePainted text file (wanted cue stream) before (refuse (first_refusal k stream)) before
        with-cue index q (some a) f = absurd (subst IsOk h (picked text cue r e index q a f).0)
        with-cue index q none f =
            let p : pick_of (idx_of text) cue ≡ refuse no_cue = rw (q, f) in
            let z : k ≡ no_cue = refuse-injective (sym h ∙ e ∙ ap cue_answer p) in
            rw z (with_stream index q f (leb stream top_stream) refl)

        go : (x : Res ListedText) → idx_of text ≡ x
            → CuePainted text file (wanted cue stream) before (refuse (first_refusal k stream)) before
        go (refuse m) q =
            let p : pick_of (idx_of text) cue ≡ refuse m = rw q in
            let z : k ≡ m = refuse-injective (sym h ∙ e ∙ ap cue_answer p) in
            rw (z, ne_eqb m no_cue (text-not-11 none text m q)) (refused_all m (rw q))
        go (ok index) q = with-cue index q (cue_at (cues_of index) cue) refl

    -- the cue is there
    module _ (c : CueAnswer) (h : r ≡ ok c) where
      is_there : IsOk r
      is_there = subst IsOk (sym h) tt

      abbrev index : ListedText
      index = (has text cue r e (idx_of text) refl is_there).0

      text_listed : idx_of text ≡ ok index
      text_listed = (has text cue r e (idx_of text) refl is_there).1

      abbrev at : Cue
      at = (cue-in (cues_of index) cue (has text cue r e (idx_of text) refl is_there).2).0

      cue_is : cue_at (cues_of index) cue ≡ some at
      cue_is = (cue-in (cues_of index) cue (has text cue r e (idx_of text) refl is_there).2).1

      gives : GivesCue index cue at c
      gives = (picked text cue r e index text_listed at cue_is).1 c h

      found-is : found_for text file (wanted cue stream) (length s) ≡ map_res (found index) (stream_unit stream file c.position (length s))
      found-is = found_at text file cue stream (length s) index at c.position text_listed cue_is gives.position

      -- and its unit is not found
      pub unit-none : (v : Res UnitAt) (n : ℕ) (s' : List ℕ) → Extracted file c.position stream s v s'
          → v ≡ refuse n
          → CuePainted text file (wanted cue stream) before (refuse n) (lent s' px cv)
      unit-none v n s' d q = go (stream_unit stream file c.position (length s)) refl (sym q ∙ d.answer) d.scratch
        where
          go : (x : Res Form) → stream_unit stream file c.position (length s) ≡ x
              → refuse n ≡ unit_given x → s' ≡ sets s 0 (unit_stored x)
              → CuePainted text file (wanted cue stream) before (refuse n) (lent s' px cv)
          go (ok (bare u)) f g k = let z : ◌≡◌ {A = ℕ} 0 1 = cc in absurd (omega arith)
          go (ok (packets ps)) f g k = let z : ◌≡◌ {A = ℕ} 0 1 = cc in absurd (omega arith)
          go (refuse m) f g k =
              let z : n ≡ m = cc in
              subst (λ (l : List ℕ). CuePainted text file (wanted cue stream) before (refuse n) (lent l px cv)) (sym k)
              (refused_all n (found-is ∙ ap (map_res (found index)) f ∙ ap refuse (sym z)))

      start_is : c.start.0 ≡ start_at (cue_at (cues_of index) cue)
      start_is = gives.start ∙ ap start_at (sym cue_is)

      -- what is shown is what the reading shows
      shown-is : (m : Form) (l : ListedUnit)
          → shown_of c (spu_of (told l.blocks) (counts_of l)) (times_told c.start.0 (told l.blocks))
          ≡ shown_given (shown (reading (wanted cue stream) (found index m) l))
      unfolding shown_given shown spu_of
      shown-is m l =
          let t : Shown = shown_of c (spu_of (told l.blocks) (counts_of l)) (times_told c.start.0 (told l.blocks)) in
          λ i. record {
            start = micros (start_is i);
            duration = gives.duration i;
            started = t.started;
            stopped = t.stopped;
            start_delay = t.start_delay;
            stop_delay = t.stop_delay;
            show = (times_told (start_is i) (told l.blocks)).show;
            hide = (times_told (start_is i) (told l.blocks)).hide;
            x1 = t.x1;
            y1 = t.y1;
            width = t.width;
            height = t.height;
            codes = t.codes;
            clipped = t.clipped;
          }

      module _ (m : Form) (f : stream_unit stream file c.position (length s) ≡ ok m) where
        abbrev found_in : Res ListedUnit
        found_in = timed_in c.start.0 (unit_of m) (length px) (length cv)

        listed : listed_in text file (wanted cue stream) before ≡ map_res (reading (wanted cue stream) (found index m)) (canvas_in (unit_of m) (length px) (length cv))
        unfolding listed_in
        listed = rw (found-is ∙ ap (map_res (found index)) f)

        reads : reading_in text file (wanted cue stream) before ≡ map_res (reading (wanted cue stream) (found index m)) found_in
        unfolding reading_in timed_in
        reads =
            ap (in_time (λ x. told_stay (reading_start x) (told_by x))) listed
            ∙ time-through (reading (wanted cue stream) (found index m)) (λ x. told_stay (reading_start x) (told_by x)) (canvas_in (unit_of m) (length px) (length cv))
            ∙ ap
            (λ (z : ℤ). map_res (reading (wanted cue stream) (found index m)) (in_time (λ (l : ListedUnit). told_stay z (told l.blocks)) (canvas_in (unit_of m) (length px) (length cv))))
            (sym start_is)

        painted-all : (a : Res Shown) (s' px' cv' : List ℕ) → s' ≡ sets s 0 (form_stored m)
            → UnitPainted (unit_of m) c px cv a px' cv'
            → CuePainted text file (wanted cue stream) before a (lent s' px' cv')
        unfolding map_of canvas_of
        painted-all a s' px' cv' k d =
            record {
              answer = d.answer ∙ answers found_in ∙ ap canvas_answer (sym reads);
              in_scratch = k ∙ ap (λ (x : Res Found). sets s 0 (scratch_of x)) (sym (found-is ∙ ap (map_res (found index)) f));
              in_pixels = d.pixels ∙ ap (sets px 0) (maps found_in) ∙ ap (λ (x : Res Reading). sets px 0 (pixels_of x)) (sym reads);
              in_canvas = d.canvas ∙ ap (sets cv 0) (canvases found_in) ∙ ap (λ (x : Res Reading). sets cv 0 (painted_of x)) (sym reads);
            }
          where
            answers : (x : Res ListedUnit)
                → paints_of c x ≡ canvas_answer (map_res (reading (wanted cue stream) (found index m)) x)
            answers (ok l) = ap ok (shown-is m l)
            answers (refuse n) = refl

            maps : (x : Res ListedUnit) → unit_map x ≡ pixels_of (map_res (reading (wanted cue stream) (found index m)) x)
            maps (ok l) = refl
            maps (refuse n) = refl

            canvases : (x : Res ListedUnit)
                → canvas_stored c.palette x ≡ painted_of (map_res (reading (wanted cue stream) (found index m)) x)
            canvases (ok l) = ap (λ (p : List ℕ). unit_canvas p l) gives.palette
            canvases (refuse n) = refl

      -- its unit is found, and painted
      pub unit-some : (v : Res UnitAt) (s' : List ℕ) → Extracted file c.position stream s v s'
          → ((n : ℕ) → v ≡ refuse n → ⊥)
          → (a : Res Shown) (px' cv' : List ℕ) → UnitPainted (unit_part file s' c.position v) c px cv a px' cv'
          → CuePainted text file (wanted cue stream) before a (lent s' px' cv')
      unit-some v s' d o a px' cv' p = go (stream_unit stream file c.position (length s)) refl d.answer d.scratch
        where
          go : (x : Res Form) → stream_unit stream file c.position (length s) ≡ x → v ≡ unit_given x
              → s' ≡ sets s 0 (unit_stored x)
              → CuePainted text file (wanted cue stream) before a (lent s' px' cv')
          go (refuse n) f g k = absurd (o n g)
          go (ok m) f g k =
              let t = stream_sound file c.position stream (length s) m f in
              let i = (form_iff (stream_id stream) file c.position m).0 t.1 in
              let u : unit_part file s' c.position v ≡ unit_of m =
              ap (λ (x : List ℕ). unit_part file x c.position v) k
              ∙ ap (unit_part file (sets s 0 (form_stored m)) c.position) g
              ∙ unit-there (stream_id stream) file c.position s m i.1 t.2 in
              painted-all m f a s' px' cv' k (subst (λ (x : List ℕ). UnitPainted x c px cv a px' cv') u p)

-- with both claims
pub kept : (text file : List ℕ) (q : Wanted) (b : Lent) (r : Res Shown) (b' : Lent) → CuePainted text file q b r b'
    → CuePainted text file q b r b' × Exactly text file q b r b' × Undisturbed text file q b r b'
kept text file q b r b' d = (d, claim text file q b r b' d, undisturbed text file q b r b' d)
