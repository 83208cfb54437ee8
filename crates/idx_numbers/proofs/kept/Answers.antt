-- `idx_numbers::kept` meets its contract: std finds the last byte that is no blank. Assumes nothing.
use Rattle.std.proofs.Common.{rules}
use Rattle.grammar.specs.IndexParts.{blank}
use Rattle.idx_numbers_model.proofs.Loops.{kept_last, kept_none}
use Rattle.idx_numbers.proofs.kept.Goals as goal

pub returns-in-Some : goal.returns-in-Some
returns-in-Some c = kept_last blank c.args.s.now c.in-Some.last (search rules) (search rules) (search rules)

pub returns-in-None : goal.returns-in-None
returns-in-None c = kept_none blank c.args.s.now (search rules)
