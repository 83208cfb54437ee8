-- `vobsub::paint_told` meets its contract: the bands are few, then the lent lengths, then the times, then the rows,
-- then the canvas. Assumes nothing.
use Prim.Native.Nat.{ℕ, ◌*◌, ◌≤◌}
use native.Mathlib.Omega.{arith}
use mathlib.Core.Path.{◌≡◌, sym, ap, ◌∙◌, subst}
use lib.ListN.{length}
use lib.IntN.{ℤ}
use Rattle.std.specs.Prelude.{Option}
use Rattle.clock_model.specs.Answers.{times_answer}
use Rattle.outcome.specs.Outcome.{ok, answered}
use Rattle.outcome.proofs.Refusals.{handed_on}
use Rattle.grammar.specs.Bands.{band_words, most_words}
use Rattle.grammar.specs.Record.{told, width, height}
use Rattle.control_model.specs.Few.{few_at}
use Rattle.rle_model.specs.Answers.{nothing}
use Rattle.bands_model.specs.Answers.{padded}
use Rattle.bands_model.proofs.Count.{front-inside, front_long}
use Rattle.control_model.proofs.Clock.{told_stay_lem, told-leave}
use Rattle.control_model.proofs.Few.{given-refused, given-few, given-words}
use Rattle.spu_model.proofs.Loops.{known, needs_words, bands-asked}
use Rattle.vobsub_model.proofs.Loops.{unit-many, map-short, canvas_short, unit-late, unit-stops, unit-shows, shows-sides, painted_as, lent_map, lent-canvas}
use Rattle.vobsub.proofs.paint_told.Goals.{In_ok-words, Else-pixels-area, Else-canvas-area}
use Rattle.vobsub.proofs.paint_told.Goals as goal

times_by_delays : (z : ℤ) {a b c d : Option ℕ} → a ≡ b → c ≡ d → times_answer z a c ≡ times_answer z b d
times_by_delays z p q = λ i. times_answer z (p i) (q i)

-- ---- The bands
blocks : (c : In_ok-words) → few_at c.args.unit.now ≡ ok c.requires.0
blocks c = (given-few _ _ c.unit_bands.ensures c.requires.0 c.requires.1 _ (ap answered c.in_ok-words.was)).0

words_are : (c : In_ok-words) → c.in_ok-words.words ≡ padded (band_words (told c.requires.0).bands)
words_are c = (given-few _ _ c.unit_bands.ensures c.requires.0 c.requires.1 _ (ap answered c.in_ok-words.was)).1

words-fit : (c : In_ok-words) → length (band_words (told c.requires.0).bands) ≤ most_words
words-fit c = given-words _ _ c.unit_bands.ensures c.requires.0 c.requires.1 _ (ap answered c.in_ok-words.was) c.shared_slice_known-1.given

words-few : (c : In_ok-words) → c.args.spu.band_words ≤ most_words
words-few c = subst (λ (n : ℕ). n ≤ most_words) (sym (needs_words _ _ c.requires.2)) (words-fit c)

-- ---- The lent lengths
wide : (c : Else-pixels-area)
    → width (told c.requires.0) * height (told c.requires.0) ≤ length c.args.pixels.now
wide c = (lent_map c.args.spu (told c.requires.0) c.requires.2 (length c.args.pixels.now)).0 c.if-pixels-area.false

long : (c : Else-canvas-area)
    → 4 * (width (told c.requires.0) * height (told c.requires.0)) ≤ length c.args.canvas.now
long c = (lent-canvas c.args.spu (told c.requires.0) c.requires.2 (length c.args.canvas.now)).0 c.if-canvas-area.false

-- ---- The needs
pub unit_bands-requires : goal.unit_bands-requires
unit_bands-requires c = bands-asked _ _ c.requires

pub returns-in_err-words : goal.returns-in_err-words
returns-in_err-words c =
    painted_as (sym (handed_on c.from_residual.result _ c.from_residual.ensures))
    (unit-many _ _ _ _ _ (given-refused _ _ c.unit_bands.ensures _ (ap answered c.in_err-words.was)))

pub overflow_sub-width : goal.overflow_sub-width
overflow_sub-width c = omega (arith, (known _ _ c.requires).wide)

pub overflow_sub-height : goal.overflow_sub-height
overflow_sub-height c = omega (arith, (known _ _ c.requires).high)

pub returns-then-pixels-area : goal.returns-then-pixels-area
returns-then-pixels-area c =
    map-short _ c.requires.0 (blocks (goal.at.returns-then-pixels-area c).In_ok-words) _ _ _ ((lent_map c.args.spu (told c.requires.0) c.requires.2 (length c.args.pixels.now)).1 c.if-pixels-area.true)

pub returns-then-canvas-area : goal.returns-then-canvas-area
returns-then-canvas-area c =
    canvas_short _ c.requires.0 (blocks (goal.at.returns-then-canvas-area c).In_ok-words) _ _ _ (wide (goal.at.returns-then-canvas-area c).Else-pixels-area) ((lent-canvas c.args.spu (told c.requires.0) c.requires.2 (length c.args.canvas.now)).1 c.if-canvas-area.true)

pub returns-in_default : goal.returns-in_default
returns-in_default c =
    unit-late _ c.requires.0 (blocks (goal.at.returns-in_default c).In_ok-words) _ _ _ (wide (goal.at.returns-in_default c).Else-pixels-area) (long (goal.at.returns-in_default c).Else-canvas-area)
    (told-leave _ _ (told c.requires.0) nothing c.requires.2 _ (c.times_of.ensures ∙ times_by_delays c.args.c.start.0 c.delay_of-starts.ensures c.delay_of-stops.ensures) _ (ap answered c.in_default.is)).0
    _ (c.late_refusal.ensures c.requires.0 c.requires.1)

pub decode_rows-requires : goal.decode_rows-requires
decode_rows-requires c =
    (c.requires.0, c.requires.1, c.requires.2, wide (goal.at.decode_rows-requires c).Else-pixels-area)

pub slice_bounds-words-end : goal.slice_bounds-words-end
slice_bounds-words-end c =
    front-inside _ (band_words (told c.requires.0).bands) _ (words_are (goal.at.slice_bounds-words-end c).In_ok-words) (words-few (goal.at.slice_bounds-words-end c).In_ok-words)

pub slice_bounds-style-end : goal.slice_bounds-style-end
slice_bounds-style-end c =
    front_long _ (band_words (told c.requires.0).bands) _ (words_are (goal.at.slice_bounds-style-end c).In_ok-words) (words-few (goal.at.slice_bounds-style-end c).In_ok-words)

pub shown_of-requires : goal.shown_of-requires
shown_of-requires c =
    shows-sides _ c.requires.0 c.requires.1 _ _ (c.with_counts.ensures (told c.requires.0) c.requires.2)

pub returns : goal.returns
returns c =
    let t = told_stay_lem _ _ (told c.requires.0) nothing c.requires.2 _ (c.times_of.ensures ∙ times_by_delays c.args.c.start.0 c.delay_of-starts.ensures c.delay_of-stops.ensures) _ (ap answered c.in-Ok.is) in
    unit-shows _ c.requires.0 (blocks (goal.at.returns c).In_ok-words) _ _ _ (wide (goal.at.returns c).Else-pixels-area) (long (goal.at.returns c).Else-canvas-area) t.0 _
    (words_are (goal.at.returns c).In_ok-words) (words-fit (goal.at.returns c).In_ok-words) _ _ _ c.args.spu _ _ c.requires.2
    (c.with_counts.ensures (told c.requires.0) c.requires.2) (c.decode_rows.ensures c.requires.0 c.requires.1) (ap answered c.in_ok-counts.was)
    c.paint.ensures _ t.1 _ c.shown_of.ensures

pub returns-in_err-counts : goal.returns-in_err-counts
returns-in_err-counts c =
    let t = told_stay_lem _ _ (told c.requires.0) nothing c.requires.2 _ (c.times_of.ensures ∙ times_by_delays c.args.c.start.0 c.delay_of-starts.ensures c.delay_of-stops.ensures) _ (ap answered c.in-Ok.is) in
    painted_as (sym (handed_on c.from_residual-in_err-counts.result _ c.from_residual-in_err-counts.ensures))
    (unit-stops _ c.requires.0 (blocks (goal.at.returns-in_err-counts c).In_ok-words) _ _ _ (wide (goal.at.returns-in_err-counts c).Else-pixels-area) (long (goal.at.returns-in_err-counts c).Else-canvas-area) t.0 _ _ _
    (c.decode_rows.ensures c.requires.0 c.requires.1) (ap answered c.in_err-counts.was))
