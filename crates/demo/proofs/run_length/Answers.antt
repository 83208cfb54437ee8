-- `demo::run_length` meets its contract: the pixels before another colour. Assumes nothing.
use mathlib.Core.Path.{◌≡◌, ◌∙◌}
use native.Mathlib.Omega.{arith}
use Rattle.grammar.specs.Bytes.{byte}
use Rattle.demo_model.specs.Codes.{lead}
use Rattle.demo_model.proofs.Ink.{lead-le, lead-prefix, lead-some}
use Rattle.demo.proofs.run_length.Goals as goal

pub returns : goal.returns
returns c =
    let e : c.leading.result ≡ lead (byte c.args.row.now 0) c.args.row.now = c.leading.ensures ∙ lead-prefix _ _ in
    (e, omega (arith, e, lead-some c.args.row.now c.requires), omega (arith, e, lead-le (byte c.args.row.now 0) c.args.row.now))
