-- `chg_colcon::parse_chg_colcon_payload` meets its contract: counted and stored in an array of its own, and kept only where the bands are not
-- too many. Assumes nothing.
use native.Mathlib.Omega.{arith}
use mathlib.Core.Path.{◌≡◌, sym, ap, ◌∙◌}
use lib.ListN.{length}
use Rattle.std.proofs.lemmas.Result.{err_from_is_err_and}
use Rattle.outcome.specs.Outcome.{IsOk, listed, answered}
use Rattle.bands_model.specs.Bands.{bands_of}
use Rattle.bands_model.proofs.Claim.{claimed}
use Rattle.bands_model.proofs.Stored.{counted, stored-over, stored-none, stored-many, stored-kept}
use Rattle.chg_colcon.proofs.parse_chg_colcon_payload.Goals.{In_ok-n}
use Rattle.chg_colcon.proofs.parse_chg_colcon_payload.Goals as goal

-- the list is there, and n words long
there : (c : In_ok-n) → IsOk (bands_of c.args.payload.now) × (length (listed (bands_of c.args.payload.now)) ≡ c.in_ok-n.n)
there c = counted _ _ (sym c.read_list.ensures.answer ∙ ap answered c.in_ok-n.was)

pub returns-in_err-n : goal.returns-in_err-n
returns-in_err-n c =
    let p = err_from_is_err_and c.from_residual.result c.from_residual.ensures.1 in
    rw (p.1, p.2) (claimed (λ i. (c.type_inv.payload i).fits) (stored-none _ _ _ (sym c.read_list.ensures.answer ∙ ap answered c.in_err-n.was)))

pub returns-then-n-gt-MOST_WORDS : goal.returns-then-n-gt-MOST_WORDS
returns-then-n-gt-MOST_WORDS c =
    claimed (λ i. (c.type_inv.payload i).fits) (stored-over _ _ (λ i. (c.type_inv.payload i).fits) _ (sym c.read_list.ensures.answer ∙ ap answered c.in_ok-n.was) c.if-n-gt-MOST_WORDS.true)

pub returns-then-count_bands-gt-MOST_BANDS : goal.returns-then-count_bands-gt-MOST_BANDS
returns-then-count_bands-gt-MOST_BANDS c =
    let k = there (goal.at.returns-then-count_bands-gt-MOST_BANDS c).In_ok-n in
    claimed (λ i. (c.type_inv.payload i).fits)
    (stored-many _ _ k.0 _ (sym k.1) (omega (arith, c.if-n-gt-MOST_WORDS.false)) _ (c.read_list.ensures.words k.0) _ c.count_bands.ensures c.if-count_bands-gt-MOST_BANDS.true)

pub returns : goal.returns
returns c =
    let k = there (goal.at.returns c).In_ok-n in
    claimed (λ i. (c.type_inv.payload i).fits)
    (stored-kept _ _ k.0 _ (sym k.1) (omega (arith, c.if-n-gt-MOST_WORDS.false)) _ (c.read_list.ensures.words k.0) _ c.count_bands.ensures c.if-count_bands-gt-MOST_BANDS.false)
