-- The refusals of the code and their numbers in the table. Assumes nothing.
use mathlib.Core.Path.{◌≡◌, refl, sym, ap, ◌∙◌}
use Prim.Native.Nat.{ℕ}
use mathlib.Core.Bool.{cond}
use mathlib.Core.List.{List, [], ◌∷◌}
use lib.Dec.{eqb}
use Rattle.std.specs.Prelude.{Result, Ok, Err, IsErr, IsErrAnd}
use Rattle.std.proofs.lemmas.Result.{err_from_is_err_and}
use Rattle.outcome.specs.declared.Refusal.{Refusal}
use Rattle.outcome.specs.declared.Refusal.TheVariants.{HighByte, BadWidth, BadHeight, BadToken, NoTime, NoPosition, BadTime, LongTime, BadPosition, LargePosition, ShortCues, BadStream, NoCue, PastFile, NoUnit, ShortScratch, NoHead, BadHead, CutParameters, SmallSize, NoBandList, UnknownCommand, NoArea, ManyBands, ShortPixels, ShortCanvas, NoTopField, FieldRanOut, LongInstant, BadSide, NotAllIndices, BadIndex, LongUnit, ShortOutput}
use Rattle.outcome.specs.Outcome.{ok, refuse, refusals, InTable, Numbered, number_of, answered}
use Rattle.outcome.proofs.Laws.{ok-not-refuse, ok-injective, refuse-injective}
use Rattle.outcome.proofs.Numbers.{in_table}

-- the refusal of a number
abbrev refusal_at : ℕ → Refusal
refusal_at n =
    cond (eqb n 1) HighByte (
    cond (eqb n 2) BadWidth (
    cond (eqb n 3) BadHeight (
    cond (eqb n 4) BadToken (
    cond (eqb n 5) NoTime (
    cond (eqb n 6) NoPosition (
    cond (eqb n 7) BadTime (
    cond (eqb n 8) LongTime (
    cond (eqb n 9) BadPosition (
    cond (eqb n 41) LargePosition (
    cond (eqb n 10) ShortCues (
    cond (eqb n 32) BadStream (
    cond (eqb n 11) NoCue (
    cond (eqb n 12) PastFile (
    cond (eqb n 13) NoUnit (
    cond (eqb n 14) ShortScratch (
    cond (eqb n 15) NoHead (
    cond (eqb n 16) BadHead (
    cond (eqb n 17) CutParameters (
    cond (eqb n 18) SmallSize (
    cond (eqb n 19) NoBandList (
    cond (eqb n 20) UnknownCommand (
    cond (eqb n 21) NoArea (
    cond (eqb n 34) ManyBands (
    cond (eqb n 22) ShortPixels (
    cond (eqb n 24) ShortCanvas (
    cond (eqb n 25) NoTopField (
    cond (eqb n 26) FieldRanOut (
    cond (eqb n 33) LongInstant (
    cond (eqb n 27) BadSide (
    cond (eqb n 28) NotAllIndices (
    cond (eqb n 29) BadIndex (
    cond (eqb n 30) LongUnit (
    ShortOutput)))))))))))))))))))))))))))))))))

at_number : (e : Refusal) → refusal_at (number_of e) ≡ e
at_number HighByte = refl
at_number BadWidth = refl
at_number BadHeight = refl
at_number BadToken = refl
at_number NoTime = refl
at_number NoPosition = refl
at_number BadTime = refl
at_number LongTime = refl
at_number BadPosition = refl
at_number LargePosition = refl
at_number ShortCues = refl
at_number BadStream = refl
at_number NoCue = refl
at_number PastFile = refl
at_number NoUnit = refl
at_number ShortScratch = refl
at_number NoHead = refl
at_number BadHead = refl
at_number CutParameters = refl
at_number SmallSize = refl
at_number NoBandList = refl
at_number UnknownCommand = refl
at_number NoArea = refl
at_number ManyBands = refl
at_number ShortPixels = refl
at_number ShortCanvas = refl
at_number NoTopField = refl
at_number FieldRanOut = refl
at_number LongInstant = refl
at_number BadSide = refl
at_number NotAllIndices = refl
at_number BadIndex = refl
at_number LongUnit = refl
at_number ShortOutput = refl

-- no two refusals have one number
pub number-injective : (d e : Refusal) → number_of d ≡ number_of e → d ≡ e
number-injective d e h = sym (at_number d) ∙ ap refusal_at h ∙ at_number e

-- each number is in the table
pub number_in_table : (e : Refusal) → InTable (number_of e)
number_in_table HighByte = in_table 1 refl
number_in_table BadWidth = in_table 2 refl
number_in_table BadHeight = in_table 3 refl
number_in_table BadToken = in_table 4 refl
number_in_table NoTime = in_table 5 refl
number_in_table NoPosition = in_table 6 refl
number_in_table BadTime = in_table 7 refl
number_in_table LongTime = in_table 8 refl
number_in_table BadPosition = in_table 9 refl
number_in_table LargePosition = in_table 41 refl
number_in_table ShortCues = in_table 10 refl
number_in_table BadStream = in_table 32 refl
number_in_table NoCue = in_table 11 refl
number_in_table PastFile = in_table 12 refl
number_in_table NoUnit = in_table 13 refl
number_in_table ShortScratch = in_table 14 refl
number_in_table NoHead = in_table 15 refl
number_in_table BadHead = in_table 16 refl
number_in_table CutParameters = in_table 17 refl
number_in_table SmallSize = in_table 18 refl
number_in_table NoBandList = in_table 19 refl
number_in_table UnknownCommand = in_table 20 refl
number_in_table NoArea = in_table 21 refl
number_in_table ManyBands = in_table 34 refl
number_in_table ShortPixels = in_table 22 refl
number_in_table ShortCanvas = in_table 24 refl
number_in_table NoTopField = in_table 25 refl
number_in_table FieldRanOut = in_table 26 refl
number_in_table LongInstant = in_table 33 refl
number_in_table BadSide = in_table 27 refl
number_in_table NotAllIndices = in_table 28 refl
number_in_table BadIndex = in_table 29 refl
number_in_table LongUnit = in_table 30 refl
number_in_table ShortOutput = in_table 31 refl

-- and the table has no other: its numbers are those of all refusals, in its order
abbrev numbers_of : List Refusal → List ℕ
numbers_of [] = []
numbers_of (e ∷ es) = number_of e ∷ numbers_of es

pub all_numbers :
    numbers_of
    (HighByte ∷ BadWidth ∷ BadHeight ∷ BadToken ∷ NoTime ∷ NoPosition ∷ BadTime ∷ LongTime ∷ BadPosition ∷ LargePosition ∷ ShortCues ∷ BadStream ∷ NoCue ∷ PastFile ∷ NoUnit ∷ ShortScratch ∷ NoHead ∷ BadHead ∷ CutParameters ∷ SmallSize ∷ NoBandList ∷ UnknownCommand ∷ NoArea ∷ ManyBands ∷ ShortPixels ∷ ShortCanvas ∷ NoTopField ∷ FieldRanOut ∷ LongInstant ∷ BadSide ∷ NotAllIndices ∷ BadIndex ∷ LongUnit ∷ ShortOutput ∷ [])
    ≡ refusals
all_numbers = refl

-- two answers that say the same are the same
pub answered-injective : {A : Type 0} (r s : Result A Refusal) → answered r ≡ answered s → r ≡ s
answered-injective (Ok a) (Ok b) h = ap Ok (ok-injective h)
answered-injective (Ok a) (Err e) h = ok-not-refuse (sym h)
answered-injective (Err d) (Ok b) h = ok-not-refuse h
answered-injective (Err d) (Err e) h = ap Err (number-injective d e (refuse-injective h))

pub answered-ok : {A : Type 0} (r : Result A Refusal) {a : A} → answered r ≡ ok a → r ≡ Ok a
answered-ok r h = answered-injective r (Ok _) h

-- an answer refuses with a number of the table only
pub answered-numbered : {A : Type 0} (r : Result A Refusal) → Numbered (answered r)
answered-numbered (Ok a) = tt
answered-numbered (Err e) = number_in_table e

-- what a `?` hands on of an error
pub handed_on : {A : Type 0} (r : Result A Refusal) (e : Refusal) → IsErr r × IsErrAnd r (λ x. x ≡ e) → answered r ≡ refuse (number_of e)
handed_on r e h =
    let p = err_from_is_err_and r h.1 in
    ap answered p.1 ∙ ap (λ (y : Refusal). refuse (number_of y)) p.2
