-- The laws by which the goals of this crate close with no answer. Assumes nothing.
use Rattle.control_model.proofs.Fill.{order_changes}

-- a byte of 7 or more that is read is a colour change
pub ruleset changes = order_changes
