-- `rle::decode_rle_field` meets its contract: the map is long enough or it is refused. Assumes nothing.
use mathlib.Core.Path.{sym, ◌∙◌}
use Rattle.rle_model.proofs.Loops.{decoded-short}
use Rattle.rle_model.proofs.Claim.{claimed}
use Rattle.rle.proofs.decode_rle_field.Goals as goal

pub returns-then-holds : goal.returns-then-holds
returns-then-holds c = claimed c.decode_rows.ensures

pub returns : goal.returns
returns c = claimed (decoded-short _ _ _ _ _ (sym c.holds.ensures ∙ c.if-holds.false))
