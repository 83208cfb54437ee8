-- The body of a PES is the same in the packet's own bytes and in the file. Assumes nothing.
use Prim.Native.Nat.{ℕ, ◌+◌, ◌-◌, ◌/◌, ◌≤◌, ◌<◌}
use native.Mathlib.Omega.{arith}
use mathlib.Core.Path.{◌≡◌, refl, sym, ap, ◌∙◌, subst}
use mathlib.Core.Bool.{true, false}
use mathlib.Core.Logic.{⊎_elim}
use mathlib.Core.List.{List}
use lib.Seq.{slice}
use lib.Dec.{eqb, leb, ltb}
use Rattle.outcome.specs.Outcome.{Res, ok, refuse, check, map_res, no_unit}
use Rattle.outcome.proofs.Laws.{ok-not-refuse, check-refuse, and_then-refuse, either}
use Rattle.grammar.specs.Bytes.{byte}
use Rattle.grammar.specs.Packets.{IsBody}
use Rattle.grammar.proofs.PacketParts.{byte-slice, body-after, body_moves}
use Rattle.ps_model.specs.OnePacket.{leading, stamp_at, header1_at, header_at, body_at}
use Rattle.ps_model.proofs.PacketGrammar.{body_iff}

-- ---- A body is refused with 13

pub body_refuses : (f : List ℕ) (a e n : ℕ) → body_at f a e ≡ refuse n → n ≡ no_unit
unfolding body_at header_at header1_at
body_refuses f a e n q =
    ⊎_elim (λ x. x)
    (λ x. ⊎_elim header (λ y. ⊎_elim (λ z. z) (λ z. ok-not-refuse (sym z)) (check-refuse (leb y.0 e) no_unit (ok y.0) y.2)) (and_then-refuse (header_at f a e) (λ (b : ℕ). check (leb b e) no_unit (ok b)) x))
    (check-refuse (ltb a e) no_unit _ q)
  where
    header : header_at f a e ≡ refuse n → n ≡ no_unit
    header r = ⊎_elim two one (either (eqb (byte f a / 64) 2))
      where
        two : eqb (byte f a / 64) 2 ≡ true → n ≡ no_unit
        two t = ⊎_elim (λ z. z) (λ z. ok-not-refuse (sym z)) (check-refuse (leb (a + 3) e) no_unit _ (rw t at r))

        one : eqb (byte f a / 64) 2 ≡ false → n ≡ no_unit
        one t =
            ⊎_elim (λ z. z)
            (λ z. ⊎_elim (λ y. y) (λ y. ok-not-refuse (sym y)) (check-refuse (ltb (stamp_at f a (leading 16 f a)) e) no_unit _ z))
            (check-refuse (ltb (a + leading 16 f a) e) no_unit _ (rw t at r))

-- ---- The body by places of the file

module _ (f : List ℕ) (a e : ℕ) (h : a ≤ e) where
  pub body_file : body_at f a e ≡ map_res (λ (b : ℕ). a + b) (body_at (slice a e f) 0 (e - a))
  body_file = go (body_at (slice a e f) 0 (e - a)) refl
    where
      whole : a + (e - a) ≡ e
      whole = omega arith

      zero-plus : (n : ℕ) → 0 + n ≡ n
      zero-plus n = omega arith

      -- the packet's own bytes
      own : (i : ℕ) → i < e - a → byte (slice a e f) (0 + i) ≡ byte f (a + i)
      own i l = rw (zero-plus i) (byte-slice f a e i (omega arith))

      go : (r : Res ℕ) → body_at (slice a e f) 0 (e - a) ≡ r → body_at f a e ≡ map_res (λ (b : ℕ). a + b) r
      go (ok b) q =
          let i = (body_iff (slice a e f) 0 (e - a) b).0 q in
          let j : IsBody (slice a e f) 0 (0 + (e - a)) (0 + b) = rw (zero-plus (e - a), zero-plus b) i in
          let k = body_moves (slice a e f) 0 f a (e - a) b (λ i u v. own i v) j in
          (body_iff f a e (a + b)).1 (subst (λ (x : ℕ). IsBody f a x (a + b)) whole k)
      go (refuse n) q = back (body_at f a e) refl
        where
          back : (r : Res ℕ) → body_at f a e ≡ r → r ≡ refuse n
          back (refuse m) p = ap refuse (body_refuses f a e m p ∙ sym (body_refuses (slice a e f) 0 (e - a) n q))
          back (ok b) p =
              let i = (body_iff f a e b).0 p in
              let l = body-after f a e b i in
              let y : a + (b - a) ≡ b = omega arith in
              let j : IsBody f a (a + (e - a)) (a + (b - a)) = rw (whole, y) i in
              let k = body_moves f a (slice a e f) 0 (e - a) (b - a) (λ i u v. sym (own i v)) j in
              let m : IsBody (slice a e f) 0 (e - a) (b - a) = rw (zero-plus (e - a), zero-plus (b - a)) at k in
              ok-not-refuse (sym q ∙ (body_iff (slice a e f) 0 (e - a) (b - a)).1 m)
