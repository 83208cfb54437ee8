-- The packets that are walked from a place on, and what in them belongs to other streams (FORMAT 2.11). Conditions on a
-- finished list, as elsewhere. "Other" is said by the byte, and not through a test of ids. Assumes nothing: these are
-- definitions.
use Rattle.std.specs.Prelude.{ℕ, ◌+◌, ◌<◌, ◌≡◌, Bool, ◌⊎◌, List, [], ◌∷◌, ◌++◌, length}
use Rattle.grammar.specs.Bytes.{byte}
use Rattle.grammar.specs.Packets.{Packet, IsBody, IsPacket, kept_bytes, Complete}

-- packets from `at` on, k kept before them, up to the one that completes a unit, or else up to the place where no
-- packet stands
unfoldable pub Walk : (ℕ → Bool) → List ℕ → ℕ → List ℕ → List Packet → Type 0
Walk id f at k [] = Complete k ⊎ ((p : Packet) → p.place ≡ at → IsPacket id f p → ⊥)
Walk id f at k (p ∷ ps) =
    (Complete k → ⊥) × (p.place ≡ at) × IsPacket id f p × Walk id f p.end (k ++ kept_bytes p.kept) ps

-- i is a place after the id byte of the packet p, and that byte is not the id of stream s
pub record AfterId (s : ℕ) (f : List ℕ) (p : Packet) (i : ℕ) : Type 0 where
  pub code_is : p.code ≡ 0xBD
  pub start : ℕ
  pub body : IsBody f (p.place + 6) p.end start
  pub other : byte f start ≡ 0x20 + s → ⊥
  pub after : start < i
  pub inside : i < p.end

-- i is such a place of one of these packets
abbrev pub InOthers : ℕ → List ℕ → List Packet → ℕ → Type 0
InOthers s f [] i = ⊥
InOthers s f (p ∷ ps) i = AfterId s f p i ⊎ InOthers s f ps i

-- f and g are equally long, and differ at such places of these packets alone
pub record Alike (s : ℕ) (f g : List ℕ) (ps : List Packet) : Type 0 where
  pub as_long : length f ≡ length g
  pub elsewhere : (i : ℕ) → (InOthers s f ps i → ⊥) → byte f i ≡ byte g i
