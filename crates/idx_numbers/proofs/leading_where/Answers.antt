-- `idx_numbers::leading_where` meets its contract: std finds the first byte that does not pass. Assumes nothing.
use mathlib.Core.Path.{◌≡◌, refl, sym, ◌∙◌}
use mathlib.Core.Bool.{Bool, true, false}
use borrow.Author.Tests.{tests}
use Rattle.std.proofs.Common.{rules, Bor, ℕ}
use Rattle.std.proofs.lemmas.Fn.{says_at}
use Rattle.std.proofs.lemmas.Iterator.{YieldsList-from_slice, IsFirst-from_position}
use Rattle.idx_numbers_model.proofs.Loops.{first_front}
use Rattle.idx_numbers.proofs.leading_where.Goals as goal

pub returns : goal.returns
returns g c = λ p h.
    let k : (y : Bor ℕ) (r : Bool) → g.F.Fn.post c.args.passes (y, tt) r → r ≡ p y.now = λ y r m. h y.now r (says_at g.F.Fn m refl) in
    c.unwrap_or.ensures
    ∙ sym (first_front p c.args.s.now c.position.result
    (IsFirst-from_position _ _ _ (λ b. p b ≡ false) (λ b. p b ≡ true) c.position.ensures.ran (YieldsList-from_slice c.args.s.now (cc)) (λ x q m. search (rules, tests, k)) (λ x q m. search (rules, tests, k))))
