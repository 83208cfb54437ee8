-- Both times of a cue, case by case, and whether they stay as a condition. Assumes nothing.
use Prim.Native.Nat.{ℕ, ◌^◌}
use native.Mathlib.Omega.{arith}
use mathlib.Core.Path.{◌≡◌, refl, sym, ap, ◌∙◌}
use mathlib.Core.Logic.{◌↔◌}
use mathlib.Core.Bool.{Bool, true, false, cond, ◌&&◌}
use Rattle.std.specs.Prelude.{Option, Some as some, None as none}
use Rattle.std.specs.Option.{option_and}
use lib.IntN.{ℤ}
use lib.Signed.{mag}
use borrow.Author.Tests.{lt-ltb, ltb-true}
use Rattle.outcome.specs.Outcome.{Res, ok, refuse, check, map_res, long_instant}
use Rattle.outcome.proofs.Laws.{clash, ok-not-refuse, ok-injective, refuse-injective, map_res-ok, map_res-refuse}
use Rattle.grammar.specs.Record.{given, delay_of}
use Rattle.grammar.specs.Index.{Stays}
use Rattle.grammar.specs.Times.{show_time, hide_time, TimeStays}
use Rattle.clock_model.specs.Sums.{checked, pick, stays}
use Rattle.clock_model.specs.Clock.{time_stays, times_stay, in_time}
use Rattle.clock_model.specs.Answers.{micros, delayed, delay_in, micros_in, instant, instant_if, times_of, times_answer}
use Rattle.clock_model.specs.declared.Ticks.{Ticks}
use Rattle.clock_model.specs.declared.Micros.{Micros}
use Rattle.clock_model.specs.declared.Times.{Times}

-- ---- Times that stay

-- a number
pub stays-is : (z : ℤ) → stays z ≡ true → Stays z
stays-is z e = ltb-true (mag z) (2 ^ 63) e

pub is-stays : (z : ℤ) → Stays z → stays z ≡ true
is-stays z h = lt-ltb (mag z) (2 ^ 63) h

-- a time, where there is one
time-is : (o : Option ℤ) → time_stays o ≡ true → TimeStays o
time-is none e = tt
time-is (some z) e = stays-is z e

is-time : (o : Option ℤ) → TimeStays o → time_stays o ≡ true
is-time none h = refl
is-time (some z) h = is-stays z h

both : (a b : Bool) → (a && b) ≡ true → (a ≡ true) × (b ≡ true)
both true b e = (refl, e)
both false b e = absurd (clash true refl (sym e))

-- the test is the grammar's condition
pub stay_iff : (z : ℤ) (starts stops : Option ℕ)
    → (times_stay z starts stops ≡ true) ↔ (TimeStays (show_time z starts) × TimeStays (hide_time z starts stops))
unfolding times_stay
stay_iff z starts stops = (to, from)
  where
    to : times_stay z starts stops ≡ true → TimeStays (show_time z starts) × TimeStays (hide_time z starts stops)
    to e =
        let g = both (time_stays (show_time z starts)) (time_stays (hide_time z starts stops)) e in
        (time-is (show_time z starts) g.0, time-is (hide_time z starts stops) g.1)

    from : TimeStays (show_time z starts) × TimeStays (hide_time z starts stops) → times_stay z starts stops ≡ true
    from h = rw (is-time (show_time z starts) h.0, is-time (hide_time z starts stops) h.1)

-- a delay as a record holds it is what was told
pub delayed-is : (o : Option ℕ) → delayed (given o) (delay_of o) ≡ o
delayed-is none = refl
delayed-is (some d) = refl

-- ---- A sum, as the code has it

-- it stays, or it leaves
sum_is : (v y : ℤ) → checked v ≡ some y → (stays v ≡ true) × (y ≡ v)
unfolding checked
sum_is v y e = go (stays v) refl e
  where
    go : (t : Bool) → stays v ≡ t → pick t (some v) none ≡ some y → (stays v ≡ true) × (y ≡ v)
    go true q f = (q, cc f)
    go false q f = let z : ◌≡◌ {A = ℕ} 0 1 = cc f in absurd (omega arith)

sum_over : (v : ℤ) → checked v ≡ none → stays v ≡ false
unfolding checked
sum_over v e = go (stays v) refl e
  where
    go : (t : Bool) → stays v ≡ t → pick t (some v) none ≡ none → stays v ≡ false
    go true q f = let z : ◌≡◌ {A = ℕ} 0 1 = cc f in absurd (omega arith)
    go false q f = q

instant-is : (o : Option ℤ) (m : Micros) → instant o ≡ ok m → o ≡ some m.0
instant-is none m e = ok-not-refuse e
instant-is (some z) m e = let q : micros z ≡ m = ok-injective e in ap (λ (x : Micros). some x.0) q

instant-over : (o : Option ℤ) (n : ℕ) → instant o ≡ refuse n → (o ≡ none) × (n ≡ long_instant)
instant-over none n e = (refl, sym (refuse-injective e))
instant-over (some z) n e = ok-not-refuse (sym e)

-- a time that there may be
if-ok : (o : Option ℤ) (a : Option Micros) → instant_if o ≡ ok a → (time_stays o ≡ true) × (micros_in o ≡ a)
if-ok none a e = (refl, ok-injective e)
if-ok (some z) a e =
    let p = map_res-ok some (instant (checked z)) e in
    let g = sum_is z p.0.0 (instant-is _ p.0 p.1) in
    (g.0, rw (← g.1) p.2)

if-refuse : (o : Option ℤ) (n : ℕ) → instant_if o ≡ refuse n → (time_stays o ≡ false) × (n ≡ long_instant)
if-refuse none n e = ok-not-refuse (sym e)
if-refuse (some z) n e =
    let g = instant-over (checked z) n (map_res-refuse some (instant (checked z)) e) in
    (sum_over z g.0, g.1)

-- ---- The answer, by the two times

-- without a start there is no delay after which it is hidden
hidden-after : (z : ℤ) (starts stops : Option Ticks) → show_time z (delay_in (option_and starts stops)) ≡ hide_time z (delay_in starts) (delay_in stops)
hidden-after z none stops = refl
hidden-after z (some t) stops = refl

module _ (z : ℤ) (starts stops : Option Ticks) where
  pub show_leaves : (n : ℕ) → instant_if (show_time z (delay_in starts)) ≡ refuse n
      → refuse n ≡ times_answer z (delay_in starts) (delay_in stops)
  unfolding times_answer times_stay
  show_leaves n o = let g = if-refuse _ n o in rw (g.0, g.1)

  module _ (a : Option Micros) (e : instant_if (show_time z (delay_in starts)) ≡ ok a) where
    pub hide_leaves : (n : ℕ) → instant_if (show_time z (delay_in (option_and starts stops))) ≡ refuse n
        → refuse n ≡ times_answer z (delay_in starts) (delay_in stops)
    unfolding times_answer times_stay
    hide_leaves n o = let f = if-ok _ a e in let g = if-refuse _ n (ap instant_if (sym (hidden-after z starts stops)) ∙ o) in rw (f.0, g.0, g.1)

    pub shown-hidden : (b : Option Micros) → instant_if (show_time z (delay_in (option_and starts stops))) ≡ ok b
        → ok (record { show = a; hide = b }) ≡ times_answer z (delay_in starts) (delay_in stops)
    unfolding times_answer times_stay
    shown-hidden b o = let f = if-ok _ a e in let g = if-ok _ b (ap instant_if (sym (hidden-after z starts stops)) ∙ o) in rw (f.0, g.0, ← f.1, ← g.1)

-- ---- What an answer says of the times

module _ (z : ℤ) (starts stops : Option ℕ) where
  abbrev times : Times
  times = times_of (show_time z starts) (hide_time z starts stops)

  pub times_are : (t : Times) → times_answer z starts stops ≡ ok t → (times_stay z starts stops ≡ true) × (t ≡ times)
  unfolding times_answer
  times_are t e = go (times_stay z starts stops) refl e
    where
      go : (s : Bool) → times_stay z starts stops ≡ s
          → cond s (ok times) (refuse long_instant) ≡ ok t
          → (times_stay z starts stops ≡ true) × (t ≡ times)
      go true q f = (q, cc f)
      go false q f = let n : ◌≡◌ {A = ℕ} 0 1 = cc f in absurd (omega arith)

  pub times-leave : (n : ℕ) → times_answer z starts stops ≡ refuse n
      → (times_stay z starts stops ≡ false) × (n ≡ long_instant)
  unfolding times_answer
  times-leave n e = go (times_stay z starts stops) refl e
    where
      go : (s : Bool) → times_stay z starts stops ≡ s
          → cond s (ok times) (refuse long_instant) ≡ refuse n
          → (times_stay z starts stops ≡ false) × (n ≡ long_instant)
      go true q f = let n : ◌≡◌ {A = ℕ} 0 1 = cc f in absurd (omega arith)
      go false q f = (q, cc f)

-- ---- The check of times: of what is made of a value, and of one that is made from it
pub time-through : {A B : Type 0} (f : A → B) (stay : B → Bool) (r : Res A)
    → in_time stay (map_res f r) ≡ map_res f (in_time (λ a. stay (f a)) r)
time-through f stay (refuse n) = refl
time-through f stay (ok a) = go (stay (f a))
  where
    go : (t : Bool) → check t long_instant (ok (f a)) ≡ map_res f (check t long_instant (ok a))
    go true = refl
    go false = refl
