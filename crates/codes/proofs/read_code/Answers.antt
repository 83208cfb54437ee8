-- `codes::read_code` meets its contract: with the lengths tried so far too short, the code found from the next length on is the code. Assumes nothing.
use Prim.Native.Nat.{ℕ, zero, suc, ◌+◌, ◌*◌, ◌-◌, ◌^◌, ◌≤◌, ◌<◌}
use mathlib.Core.Path.{◌≡◌, refl, sym, ap, ◌∙◌}
use mathlib.Core.Bool.{Bool}
use mathlib.Core.List.{List}
use native.Mathlib.Omega.{arith}
use borrow.Author.Tests.{lt-ltb, le-ltb}
use lib.ListN.{length}
use Rattle.outcome.specs.Outcome.{answered, ok, refuse, field_ran_out}
use Rattle.outcome.proofs.Refusals.{handed_on}
use Rattle.grammar.specs.Bytes.{nibble, nibbles}
use Rattle.grammar.specs.Rows.{code, overshoots}
use Rattle.rle_model.specs.Codes.{code_at, made}
use Rattle.rle_model.specs.CodeAnswers.{code_found, code_answer, code_end}
use Rattle.rle_model.proofs.Grammar.{nibble-lt}
use Rattle.rle_model.proofs.CodeLoops.{nibbles-step, pow_step, pow_most, code-short, code-hit, code-last, code-next, hit_clips, last-clips}
use Rattle.rle_model.proofs.Nibbles.{is-nibble, ran_out}
use Rattle.codes.proofs.read_code.Goals.{In_ok-nibble, In_err-nibble}
use Rattle.codes.proofs.read_code.Goals as goal

pub loop-before-init : goal.loop-before-init
unfolding code_at nibbles
loop-before-init c =
    (refl, record { few = omega arith; place = omega arith; inside = λ h. absurd (omega (arith, h)); number = refl; power = refl; small = omega arith; goes = λ h. refl; last = λ h. absurd (omega (arith, h)) })

-- the nibble that was read is inside the field, and the field's, and the reader stands behind it
read : (c : In_ok-nibble)
    → (c.args.reader.now.pos + c.loop-before.before < 2 * length c.args.reader.now.buf.now)
    × (c.in_ok-nibble.nibble ≡ nibble c.args.reader.now.buf.now (c.args.reader.now.pos + c.loop-before.before))
    × (c.read.new.self.pos ≡ c.args.reader.now.pos + c.loop-before.before + 1)
read c =
    let i = c.loop-before.invariant in
    let r = is-nibble _ _ _ (sym (ap answered c.in_ok-nibble.was) ∙ rw (i.0, i.1.place) at c.read.ensures.0) in
    (r.0, r.1, rw (i.0, i.1.place, lt-ltb _ _ r.0) at c.read.ensures.2)

-- where the field ran out the code did, and the reader stays
ended : (p b n : ℕ) → 2 * n ≤ p + b → (0 < b → p + b ≤ 2 * n) → p + b ≡ p + (2 * n - p)
ended p zero n h f = omega (arith, h)
ended p (suc b) n h f = omega (arith, h, f (omega arith))

short : (c : In_err-nibble)
    → (code_at c.args.reader.now.buf.now (length c.args.reader.now.buf.now) c.args.reader.now.pos ≡ refuse field_ran_out)
    × (c.read.new.self.pos ≡ c.args.reader.now.pos + (2 * length c.args.reader.now.buf.now - c.args.reader.now.pos))
short c =
    let i = c.loop-before.invariant in
    let f = c.args.reader.now.buf.now in
    let p = c.args.reader.now.pos in
    let o = ran_out f (p + c.loop-before.before) _ (sym (ap answered c.in_err-nibble.was) ∙ rw (i.0, i.1.place) at c.read.ensures.0) in (
      sym (i.1.goes (omega (arith, c.loop-before-test.true))) ∙ code-short _ _ _ _ (omega (arith, o.0)),
      (rw (i.0, i.1.place, le-ltb _ _ o.0) at c.read.ensures.2) ∙ ended _ _ _ o.0 (λ h. omega (arith, i.1.inside h, i.1.place)),
    )

pub returns-in_err-nibble-clause-code : goal.returns-in_err-nibble-clause-code
returns-in_err-nibble-clause-code c =
    let i = c.loop-before.invariant in
    let o = ran_out c.args.reader.now.buf.now (c.args.reader.now.pos + c.loop-before.before) _ (sym (ap answered c.in_err-nibble.was) ∙ rw (i.0, i.1.place) at c.read.ensures.0) in
    handed_on c.from_residual.result _ c.from_residual.ensures ∙ ap refuse o.1 ∙ ap (code_answer _) (sym (short (goal.at.returns-in_err-nibble-clause-code c).In_err-nibble).0)

pub returns-in_err-nibble-clause-place : goal.returns-in_err-nibble-clause-place
returns-in_err-nibble-clause-place c =
    let s = short (goal.at.returns-in_err-nibble-clause-place c).In_err-nibble in
    s.1 ∙ ap (code_end _ _) (sym s.0)

pub overflow_mul-value : goal.overflow_mul-value
overflow_mul-value c = omega (arith, c.loop-before.invariant.1.small, c.loop-before.invariant.1.power, c.loop-before-test.true, pow_most c.loop-before.before (omega (arith, c.loop-before-test.true)))

pub overflow_add-value : goal.overflow_add-value
overflow_add-value c =
    let i = c.loop-before.invariant.1 in
    omega (arith, i.small, i.power, pow_most c.loop-before.before (omega (arith, c.loop-before-test.true)), (read (goal.at.overflow_add-value c).In_ok-nibble).1, nibble-lt c.args.reader.now.buf.now (c.args.reader.now.pos + c.loop-before.before))

pub overflow_mul-least : goal.overflow_mul-least
overflow_mul-least c = omega (arith, c.loop-before.invariant.1.power, pow_most c.loop-before.before (omega (arith, c.loop-before-test.true)))

-- the answer of a code that is there
got : (f : List ℕ) (left at k v : ℕ) (c : Bool) → code_at f (length f) at ≡ ok (made f at k) → v ≡ nibbles f at k → c ≡ overshoots left (code at k v)
    → ok (code_found k v c) ≡ code_answer left (code_at f (length f) at)
got f left at k v c a e o =
    ap (λ (d : Bool). ok (code_found k v d)) o
    ∙ ap (λ (x : ℕ). ok (code_found k x (overshoots left (code at k x)))) e
    ∙ ap (code_answer left) (sym a)

-- the code of the nibbles read so far and the next
hit : (c : goal.Then-least-value)
    → code_at c.args.reader.now.buf.now (length c.args.reader.now.buf.now) c.args.reader.now.pos ≡ ok (made c.args.reader.now.buf.now c.args.reader.now.pos (c.loop-before.before + 1))
hit c =
    let i = c.loop-before.invariant.1 in
    let r = read (goal.at.returns-then-least-value-clause-code c).In_ok-nibble in
    let n = nibbles-step c.args.reader.now.buf.now c.args.reader.now.pos c.loop-before.before in
    sym (i.goes (omega (arith, c.loop-before-test.true))) ∙ code-hit _ _ _ _ (omega (arith, r.0)) (omega (arith, n, pow_step c.loop-before.before, r.1, i.number, i.power, c.if-least-value.true))

pub returns-then-least-value-clause-code : goal.returns-then-least-value-clause-code
returns-then-least-value-clause-code c =
    let i = c.loop-before.invariant.1 in
    let r = read (goal.at.returns-then-least-value-clause-code c).In_ok-nibble in
    let n = nibbles-step c.args.reader.now.buf.now c.args.reader.now.pos c.loop-before.before in
    got _ _ _ _ _ _ (hit c) (omega (arith, n, r.1, i.number))
    (sym (hit_clips _ _ (c.loop-before.before + 1) _ (omega (arith, c.loop-before-test.true)) (omega (arith, pow_step c.loop-before.before, i.power, c.if-least-value.true))))

pub returns-then-least-value-clause-place : goal.returns-then-least-value-clause-place
returns-then-least-value-clause-place c =
    let r = read (goal.at.returns-then-least-value-clause-place c).In_ok-nibble in
    let e : c.read.new.self.pos ≡ c.args.reader.now.pos + (c.loop-before.before + 1) = omega (arith, r.2) in
    e ∙ ap (code_end _ _) (sym (hit c))

pub loop-before-preserved : goal.loop-before-preserved
loop-before-preserved c =
    let i = c.loop-before.invariant in
    let r = read (goal.at.loop-before-preserved c).In_ok-nibble in
    let n = nibbles-step c.args.reader.now.buf.now c.args.reader.now.pos c.loop-before.before in
    let q = pow_step c.loop-before.before in
    let m : nibbles c.args.reader.now.buf.now c.args.reader.now.pos (c.loop-before.before + 1) ≡ c.loop-before.value * 16 + c.in_ok-nibble.nibble = omega (arith, n, r.1, i.1.number) in (
      c.read.ensures.1 ∙ i.0,
      record {
        few = omega (arith, c.loop-before-test.true);
        place = omega (arith, r.2);
        inside = λ h. omega (arith, r.0, r.2);
        number = sym m;
        power = omega (arith, q, i.1.power);
        small = omega (arith, c.if-least-value.false);
        goes = λ h. sym (code-next _ _ _ _ h (omega (arith, r.0)) (omega (arith, m, q, i.1.power, c.if-least-value.false))) ∙ i.1.goes (omega (arith, h));
        last = λ h.
            sym (i.1.goes (omega (arith, h))) ∙ code-last _ _ _ _ h (omega (arith, r.0))
            ∙ ap (λ (k : ℕ). ok (made c.args.reader.now.buf.now c.args.reader.now.pos k)) h;
      },
    )

pub returns-clause-code : goal.returns-clause-code
returns-clause-code c =
    let i = c.loop-before.invariant.1 in
    let e : c.loop-before.before ≡ 4 = omega (arith, i.few, c.loop-before-test.false) in
    let b : c.loop-before.value < 4 ^ c.loop-before.before = omega (arith, i.small, i.power) in
    let s : c.loop-before.value < 4 ^ 4 = rw e at b in
    got _ _ _ _ _ _ (i.last e) (rw e at i.number) (sym (last-clips _ _ 4 _ refl s))
