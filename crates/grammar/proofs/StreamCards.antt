-- Two files of two languages that differ in the other language alone, as closed terms. Assumes nothing.
use Prim.Native.Nat.{ℕ, zero, suc, ◌+◌, ◌/◌, ◌≤◌, ◌<◌}
use native.Mathlib.Omega.{arith}
use mathlib.Core.Path.{◌≡◌, refl, sym, ap, subst}
use mathlib.Core.Bool.{false}
use mathlib.Core.Logic.{inl, inr}
use Rattle.std.specs.Prelude.{Some as some, None as none}
use mathlib.Core.List.{List, [], ◌∷◌, ◌++◌}
use lib.ListN.{length}
use Rattle.grammar.specs.Bytes.{byte, word}
use Rattle.grammar.specs.Packets.{Packet, stream_id, IsBody}
use Rattle.grammar.specs.Streams.{Walk, InOthers, Alike}
use Rattle.grammar.proofs.UniqueParts.{never}
use Rattle.grammar.proofs.UniquePackets.{body_unique}
use Rattle.grammar.proofs.PacketParts.{body-after}

-- two bytes of a unit of four under id 20, a byte of another under id 21, and the other two of the first
abbrev front : List ℕ
front =
    0x00 ∷ 0x00 ∷ 0x01 ∷ 0xBD ∷ 0x00 ∷ 0x06 ∷ 0x80 ∷ 0x00 ∷ 0x00 ∷ 0x20 ∷ 0x00 ∷ 0x04
    ∷ 0x00 ∷ 0x00 ∷ 0x01 ∷ 0xBD ∷ 0x00 ∷ 0x05 ∷ 0x80 ∷ 0x00 ∷ 0x00 ∷ 0x21 ∷ []

abbrev back : List ℕ
back = 0x00 ∷ 0x00 ∷ 0x01 ∷ 0xBD ∷ 0x00 ∷ 0x06 ∷ 0x80 ∷ 0x00 ∷ 0x00 ∷ 0x20 ∷ 0x00 ∷ 0x04 ∷ []

abbrev languages : ℕ → List ℕ
languages x = front ++ x ∷ back

abbrev walked : List Packet
walked =
    record { place = 0; code = 0xBD; end = 12; kept = some (record { place = 10; bytes = 0x00 ∷ 0x04 ∷ [] }) }
    ∷ record { place = 12; code = 0xBD; end = 23; kept = none }
    ∷ record { place = 23; code = 0xBD; end = 35; kept = some (record { place = 33; bytes = 0x00 ∷ 0x04 ∷ [] }) }
    ∷ []

module _ (x : ℕ) where
  abbrev f : List ℕ
  f = languages x

  body_of : (at e b : ℕ) → at < e → b ≤ e → at + 3 ≤ e → byte f at / 64 ≡ 2 → b ≡ at + 3 + byte f (at + 2)
      → IsBody f at e b
  body_of at e b l m h k d = record { some_byte = l; within = m; header = inl (record { bits = k; three = h; body = d }) }

  first_body : IsBody f 6 12 9
  first_body = body_of 6 12 9 (omega arith) (omega arith) (omega arith) refl refl

  second-body : IsBody f 18 23 21
  second-body = body_of 18 23 21 (omega arith) (omega arith) (omega arith) refl refl

  third_body : IsBody f 29 35 32
  third_body = body_of 29 35 32 (omega arith) (omega arith) (omega arith) refl refl

  walk : Walk (stream_id 0) f 0 [] walked
  unfolding Walk word
  walk = (
    λ h. omega (arith, h.two),
    refl,
    record {
      prefix_0 = refl;
      prefix_1 = refl;
      prefix_2 = refl;
      code_is = refl;
      inside = omega arith;
      kind = inr (
          inl (
          record {
            code_is = refl;
            end_is = refl;
            start = 9;
            body = first_body;
            keeps = (omega arith, refl, record { place_is = refl; bytes_are = refl });
          }
          )
          );
    },
    (
      λ h. omega (arith, h.enough),
      refl,
      record {
        prefix_0 = refl;
        prefix_1 = refl;
        prefix_2 = refl;
        code_is = refl;
        inside = omega arith;
        kind = inr (
            inl (
            record {
              code_is = refl;
              end_is = refl;
              start = 21;
              body = second-body;
              keeps = λ l t. never false t refl;
            }
            )
            );
      },
      (
        λ h. omega (arith, h.enough),
        refl,
        record {
          prefix_0 = refl;
          prefix_1 = refl;
          prefix_2 = refl;
          code_is = refl;
          inside = omega arith;
          kind = inr (
              inl (
              record {
                code_is = refl;
                end_is = refl;
                start = 32;
                body = third_body;
                keeps = (omega arith, refl, record { place_is = refl; bytes_are = refl });
              }
              )
              );
        },
        inl (record { two = omega arith; enough = omega arith }),
      ),
    ),
  )

  -- the byte behind id 21 is free for stream 0
  free : InOthers 0 f walked 22
  free =
      inr
      (inl
      (record {
        code_is = refl;
        start = 21;
        body = second-body;
        other = λ e. omega (arith, e);
        after = omega arith;
        inside = omega arith;
      }))

  -- and the id itself is not
  id_counts : InOthers 0 f walked 21 → ⊥
  id_counts (inl o) = omega (arith, o.inside)
  id_counts (inr (inl o)) =
      let z : o.start ≡ 21 = body_unique f 18 23 o.start 21 o.body second-body in
      omega (arith, o.after)
  id_counts (inr (inr (inl o))) = let z = body-after f 29 35 o.start o.body in omega (arith, o.after)
  id_counts (inr (inr (inr o))) = o

-- lists that differ at one place alone
one_apart : (a b : List ℕ) (x y i : ℕ) → (i ≡ length a → ⊥) → byte (a ++ x ∷ b) i ≡ byte (a ++ y ∷ b) i
one_apart [] b x y zero h = absurd (h refl)
one_apart [] b x y (suc i) h = refl
one_apart (c ∷ a) b x y zero h = refl
one_apart (c ∷ a) b x y (suc i) h = one_apart a b x y i (λ e. h (ap suc e))

pub languages-alike : (x y : ℕ)
    → Walk (stream_id 0) (languages x) 0 [] walked × Alike 0 (languages x) (languages y) walked
languages-alike x y = (
  walk x,
  record {
    as_long = refl;
    elsewhere = λ i o. one_apart front back x y i (λ e. o (subst (InOthers 0 (languages x) walked) (sym e) (free x)));
  },
)
