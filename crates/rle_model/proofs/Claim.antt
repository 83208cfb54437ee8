-- What a field's answer says in the grammar's words: it is accepted exactly where the grammar lists its rows and the map
-- holds them, and the numbers of codes and of clipped ones and every pixel are the listed rows'; a refusal says which of
-- the two failed. Assumes nothing.
use Prim.Native.Nat.{ℕ, ◌+◌, ◌-◌, ◌*◌, ◌≤◌, ◌<◌}
use native.Mathlib.Omega.{arith}
use mathlib.Core.Path.{◌≡◌, refl, sym, ap, ◌∙◌, subst}
use mathlib.Core.Logic.{inl, inr, ⊎_elim}
use mathlib.Core.List.{List, [], ◌∷◌}
use lib.ListN.{length}
use borrow.Author.Tests.{le-leb, lt-leb}
use Rattle.outcome.specs.Outcome.{Res, ok, refuse, listed, short_pixels}
use Rattle.outcome.proofs.Laws.{ok-not-refuse, le_or_lt}
use Rattle.grammar.specs.Rows.{Code, paints}
use Rattle.grammar.specs.Pixels.{codes_in, clipped_row, clipped_in}
use Rattle.rle_model.specs.Codes.{field_at}
use Rattle.rle_model.specs.Field.{rows_from, paint_field, decoded}
use Rattle.rle_model.specs.Answers.{plus, row_counts, field_counts, field_answer, Decoded, listed_counts}
use Rattle.rle_model.specs.Fields.{weave}
use Rattle.rle_model.specs.Claim.{Says}
use Rattle.rle_model.specs.declared.Counts.{Counts}
use Rattle.rle_model.proofs.Grammar.{field-iff}
use Rattle.rle_model.proofs.Loops.{counts_eq}
use Rattle.rle_model.proofs.Weave.{weave-counts}
use Rattle.rle_model.proofs.Refusals.{field-refuses}

-- the number of codes is how many the rows list
row-codes : (left : ℕ) (cs : List Code) → (row_counts left cs).codes ≡ length cs
unfolding row_counts
row-codes left [] = refl
row-codes left (c ∷ cs) = omega (arith, row-codes (left - paints left c) cs)

pub counts_codes : (w : ℕ) (rs : List (List Code)) → (field_counts w rs).codes ≡ codes_in rs
unfolding field_counts codes_in
counts_codes w [] = refl
counts_codes w (r ∷ rs) = omega (arith, row-codes w r, counts_codes w rs)

-- the number of clipped codes is how many of those overshoot
row-clipped : (left : ℕ) (cs : List Code) → (row_counts left cs).clipped ≡ clipped_row left cs
unfolding row_counts clipped_row
row-clipped left [] = refl
row-clipped left (c ∷ cs) = omega (arith, row-clipped (left - paints left c) cs)

pub counts_clipped : (w : ℕ) (rs : List (List Code)) → (field_counts w rs).clipped ≡ clipped_in w rs
unfolding field_counts clipped_in
counts_clipped w [] = refl
counts_clipped w (r ∷ rs) = omega (arith, row-clipped w r, counts_clipped w rs)

pub counts-listed : (w : ℕ) (rs : List (List Code)) → field_counts w rs ≡ listed_counts w rs
counts-listed w rs = counts_eq (field_counts w rs) (listed_counts w rs) (counts_codes w rs) (counts_clipped w rs)

-- rows of two fields woven count what both count, in the grammar's words
pub listed-weave : (w : ℕ) (a b : List (List Code)) → length b ≤ length a → length a ≤ length b + 1
    → listed_counts w (weave a b) ≡ plus (listed_counts w a) (listed_counts w b)
listed-weave w a b h l =
    sym (counts-listed w (weave a b)) ∙ sym (weave-counts w a b h l) ∙ (λ i. plus (counts-listed w a i) (counts-listed w b i))

-- ---- The claim

pub claim : (s : List ℕ) (w h start : ℕ) (px : List ℕ) (r : Res Counts) (px' : List ℕ) → Decoded s w h start px r px' → Says s w h start px px' r
unfolding decoded paint_field
claim s w h start px r px' d = ⊎_elim (λ l. go l (field_at s (length s) w (rows_from start h) 0) refl) short (le_or_lt (w * h) (length px))
  where
    told : (x : Res (List (List Code))) → decoded s w h start px ≡ x → (px' ≡ paint_field w (start * w) (listed x) px → Says s w h start px px' (field_answer w x)) → Says s w h start px px' r
    told x q f =
        subst (Says s w h start px px') (sym (d.answer ∙ ap (field_answer w) q))
        (f (d.pixels ∙ ap (λ (a : Res (List (List Code))). paint_field w (start * w) (listed a) px) q))

    short : length px < w * h → Says s w h start px px' r
    short l = told (refuse short_pixels) (rw (lt-leb (w * h) (length px) l)) (λ f. (f, inl (refl, l)))

    go : w * h ≤ length px → (x : Res (List (List Code))) → field_at s (length s) w (rows_from start h) 0 ≡ x → Says s w h start px px' r
    go l (ok rs) q =
        let i = (field-iff s (length s) w (rows_from start h) 0 rs).0 q in
        told (ok rs) (rw (le-leb (w * h) (length px) l, q)) (λ f. (rs, record { all = i.0; rows = i.1 }, l, counts_codes w rs, counts_clipped w rs, f))
    go l (refuse n) q =
        told (refuse n) (rw (le-leb (w * h) (length px) l, q))
        (λ f. (
          f,
          inr (
            field-refuses s (length s) w (rows_from start h) 0 n q,
            λ rs i. ok-not-refuse (sym q ∙ (field-iff s (length s) w (rows_from start h) 0 rs).1 (i.all, i.rows)),
          ),
        ))

-- the equation with the claim, as the contract has both
pub claimed : {s : List ℕ} {w h start : ℕ} {px : List ℕ} {r : Res Counts} {px' : List ℕ} → Decoded s w h start px r px' → Decoded s w h start px r px' × Says s w h start px px' r
claimed {s} {w} {h} {start} {px} {r} {px'} d = (d, claim s w h start px r px' d)
