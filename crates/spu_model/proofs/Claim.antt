-- The layer keeps its claim: what an answer says in the grammar's words. Assumes nothing.
use Prim.Native.Nat.{ℕ, ◌*◌, ◌<◌}
use mathlib.Core.Path.{◌≡◌, refl, sym, ◌∙◌, subst}
use mathlib.Core.List.{List}
use lib.ListN.{length}
use lib.Seq.{sets}
use lib.Dec.{leb}
use borrow.Author.Tests.{leb-true, le-leb}
use Rattle.outcome.specs.Outcome.{Res, ok, refuse, IsOk, short_pixels}
use Rattle.outcome.proofs.Laws.{ok-injective, ok-not-refuse, check-ok, and_then-ok, map_res-ok}
use Rattle.grammar.specs.Bytes.{byte}
use Rattle.grammar.specs.Bands.{band_words, record_words}
use Rattle.grammar.specs.Record.{told, width, height}
use Rattle.grammar.specs.Picture.{ListedUnit, IsUnit}
use Rattle.grammar.proofs.Limit.{most_words-hold}
use Rattle.bands_model.specs.Answers.{padded}
use Rattle.bands_model.proofs.Count.{padded-record}
use Rattle.control_model.specs.Few.{few_at}
use Rattle.control_model.specs.Answers.{spu_of}
use Rattle.spu_model.specs.Unit.{rows_at, listed_unit, counts_of, unit_at, unit_in}
use Rattle.spu_model.specs.Answers.{spu_answer, record_of, record_given, unit_map, Decoded}
use Rattle.spu_model.specs.Claim.{LongEnough, Recorded, GivesUnit, Says, Measures}
use Rattle.spu_model.specs.declared.Record.{Record}
use Rattle.control_model.specs.declared.Spu.{Spu}
use Rattle.spu_model.proofs.Grammar.{unit-iff, unit-unique}

-- a unit is found within a lent length exactly where it is found and the map is long enough
pub in_sound : (u : List ℕ) (n : ℕ) (l : ListedUnit) → unit_in u n ≡ ok l → (unit_at u ≡ ok l) × LongEnough l n
unfolding unit_in unit_at
in_sound u n l e =
    let a = and_then-ok (few_at u) _ e in
    let bs = a.0 in
    let b = check-ok (leb (width (told bs) * height (told bs)) n) short_pixels _ a.2 in
    let w = map_res-ok (listed_unit bs) (rows_at u (told bs)) b.1 in
    (rw a.1 b.1, subst (λ (k : ListedUnit). LongEnough k n) w.2 (leb-true _ _ b.0))

pub in-complete : (u : List ℕ) (n : ℕ) (l : ListedUnit) → unit_at u ≡ ok l → LongEnough l n → unit_in u n ≡ ok l
unfolding unit_in unit_at
in-complete u n l e h =
    let a = and_then-ok (few_at u) _ e in
    let bs = a.0 in
    let w = map_res-ok (listed_unit bs) (rows_at u (told bs)) a.2 in
    let k : LongEnough (listed_unit bs w.0) n = subst (λ (x : ListedUnit). LongEnough x n) (sym w.2) h in
    rw (a.1, le-leb (width (told bs) * height (told bs)) n k) a.2

-- the record of an answer is of what its unit lists
recorded : (l : ListedUnit) → Recorded (told l.blocks) l.rows (spu_of (told l.blocks) (counts_of l))
unfolding spu_of
recorded l =
    record {
      x1 = refl;
      y1 = refl;
      x2 = refl;
      y2 = refl;
      selected = refl;
      alpha = refl;
      started = refl;
      start_delay = refl;
      stopped = refl;
      stop_delay = refl;
      forced = refl;
      top = refl;
      bottom = refl;
      changed = refl;
      band_words = refl;
      codes = refl;
      clipped = refl;
    }

-- all words of a record
words-recorded : (u : List ℕ) → ((i : ℕ) → byte u i < 256) → (l : ListedUnit) → IsUnit u l
    → padded (band_words (told l.blocks).bands) ≡ record_words (told l.blocks).bands
words-recorded u small l i = padded-record (told l.blocks).bands (most_words-hold u small l.blocks i.chain i.few)

pub claim : (u : List ℕ) → ((i : ℕ) → byte u i < 256) → (px : List ℕ) (r : Res Record) (px' : List ℕ)
    → Decoded u px r px' → Says u px px' r
claim u small px r px' d = go (unit_in u (length px)) refl d.answer d.pixels
  where
    go : (x : Res ListedUnit) → unit_in u (length px) ≡ x → r ≡ record_given x
        → px' ≡ sets px 0 (unit_map x) → Says u px px' r
    go (ok l) q e f =
        let s = in_sound u (length px) l q in
        let i = (unit-iff u l).0 s.0 in
        let z : IsOk r = subst IsOk (sym e) tt in
        let g : GivesUnit l px (record_of (told l.blocks) (counts_of l)) px' =
        record {
          recorded = recorded l;
          bands = words-recorded u small l i;
          pixels = f;
        } in
        record {
          exactly_when = (λ h. (l, i, s.1), λ h. z);
          same = λ k h v t. subst (λ (x : ListedUnit). GivesUnit x px v px') (unit-unique u l k i h) (subst (λ (a : Record). GivesUnit l px a px') (ok-injective (sym e ∙ t)) g);
          as_found = λ h. absurd (h z);
        }
    go (refuse k) q e f =
        let y : IsOk r → ⊥ = λ h. subst IsOk e h in
        record {
          exactly_when = (λ h. absurd (y h), λ h. absurd (ok-not-refuse (sym q ∙ in-complete u (length px) h.0 ((unit-iff u h.0).1 h.1) h.2)));
          same = λ l h v t. absurd (ok-not-refuse (sym e ∙ t));
          as_found = λ h. f;
        }

pub measures : (u : List ℕ) (r : Res Spu) → r ≡ spu_answer (unit_at u) → Measures u r
measures u r d = go (unit_at u) refl d
  where
    go : (x : Res ListedUnit) → unit_at u ≡ x → r ≡ spu_answer x → Measures u r
    go (ok l) q e = subst (Measures u) (sym e) (l, (unit-iff u l).0 q, recorded l)
    go (refuse n) q e = subst (Measures u) (sym e) (λ l i. ok-not-refuse (sym q ∙ (unit-iff u l).1 i))

-- the equation with the claim, as the contract has both
pub claimed : {u : List ℕ} → ((i : ℕ) → byte u i < 256) → {px : List ℕ} {r : Res Record} {px' : List ℕ}
    → Decoded u px r px' → Decoded u px r px' × Says u px px' r
claimed {u} small {px} {r} {px'} d = (d, claim u small px r px' d)

pub measures_claimed : (u : List ℕ) {r : Res Spu} → r ≡ spu_answer (unit_at u)
    → (r ≡ spu_answer (unit_at u)) × Measures u r
measures_claimed u {r} d = (d, measures u r d)
