-- Where a unit stands in the file: bare, or in the packets of a program stream (FORMAT 2). Conditions on a finished list of packets; they
-- find none. Fields have the names of ISO/IEC 13818-1 and 11172-1. Assumes nothing: these are definitions.
use Rattle.std.specs.Prelude.{ℕ, ◌+◌, ◌/◌, ◌%◌, ◌≤◌, ◌<◌, ◌≡◌, Bool, true, cond, ◌⊎◌, List, [], ◌∷◌, ◌++◌, length, take, eqb}
use Rattle.std.specs.Prelude.{Option, Some as some, None as none}
use Rattle.std.proofs.Math.Seq.{slice}
use Rattle.grammar.specs.Bytes.{byte, word}
pub use Rattle.grammar.specs.Parts.{Part}

-- p is the part of f from a up to e
pub record IsPart (f : List ℕ) (a e : ℕ) (p : Part) : Type 0 where
  pub place_is : p.place ≡ a
  pub bytes_are : p.bytes ≡ slice a e f

-- a packet: where its start code stands, its stream_id, the place after it, and what it keeps of a unit
pub record Packet : Type 0 where
  pub place : ℕ
  pub code : ℕ
  pub end : ℕ
  pub kept : Option Part

-- ---- The header of a PES packet

-- every stuffing_byte at the front, 16 at most: n of them stand at a, and no further one where n is below 16 (FORMAT 2.5)
pub record Stuffing (f : List ℕ) (a n : ℕ) : Type 0 where
  pub most : n ≤ 16
  pub each : (i : ℕ) → i < n → byte f (a + i) ≡ 0xFF
  pub no_more : n < 16 → byte f (a + n) ≡ 0xFF → ⊥

-- the bytes of STD_buffer_scale and STD_buffer_size, where the top bits are 01 (FORMAT 2.5)
abbrev pub buffer_size : ℕ → ℕ
buffer_size x = cond (eqb (x / 64) 1) 2 0

-- the bytes of a PTS (top nibble 2), of a PTS and a DTS (3), or of the byte that says there is neither (FORMAT 2.5)
abbrev pub stamp_size : ℕ → ℕ
stamp_size x = cond (eqb (x / 16) 2) 5 (cond (eqb (x / 16) 3) 10 (cond (eqb x 0x0F) 1 0))

-- in the form of 13818-1: top bits 10, and PES_header_data_length in the third byte (FORMAT 2.4)
pub record Header2 (f : List ℕ) (a e b : ℕ) : Type 0 where
  pub bits : byte f a / 64 ≡ 2
  pub three : a + 3 ≤ e
  pub body : b ≡ a + 3 + byte f (a + 2)

-- in the form of 11172-1: stuffing, buffer size, stamps, and a byte before each of the tests (FORMAT 2.5)
pub record Header1 (f : List ℕ) (a e b : ℕ) : Type 0 where
  pub bits : byte f a / 64 ≡ 2 → ⊥
  pub count : ℕ
  pub stuffing : Stuffing f a count
  pub size_byte : a + count < e
  pub stamp : ℕ
  pub stamp_is : stamp ≡ a + count + buffer_size (byte f (a + count))
  pub stamp_byte : stamp < e
  pub body : b ≡ stamp + stamp_size (byte f stamp)

-- the body of the PES from a up to e starts at b
pub record IsBody (f : List ℕ) (a e b : ℕ) : Type 0 where
  pub some_byte : a < e
  pub within : b ≤ e
  pub header : Header2 f a e b ⊎ Header1 f a e b

-- ---- Packets

-- the test for one id
abbrev pub is_id : ℕ → ℕ → Bool
is_id n x = eqb x n

-- the greatest subpicture stream, and the test for the id of stream s (FORMAT 2.6)
abbrev pub top_stream : ℕ
top_stream = 31

abbrev pub stream_id : ℕ → ℕ → Bool
stream_id s = is_id (0x20 + s)

-- the place after a packet that has a PES_packet_length
abbrev pub length_end : List ℕ → ℕ → ℕ
length_end f p = p + 6 + word f (p + 4)

-- what a private_stream_1 packet keeps: what follows its id, if its body has one that passes the test (FORMAT 2.6)
abbrev pub Keeps : (ℕ → Bool) → List ℕ → ℕ → ℕ → Option Part → Type 0
Keeps id f b e none = b < e → id (byte f b) ≡ true → ⊥
Keeps id f b e (some p) = (b < e) × (id (byte f b) ≡ true) × IsPart f (b + 1) e p

-- a pack_start_code in the form of 13818-1 (top bits 01), with its pack_stuffing_length, or of 11172-1 (top nibble 2) (FORMAT 2.3)
abbrev pub IsPack : List ℕ → Packet → Type 0
IsPack f p =
    (p.code ≡ 0xBA) × (p.kept ≡ none)
    × (((byte f (p.place + 4) / 64 ≡ 1) × (p.end ≡ p.place + 14 + byte f (p.place + 13) % 8)) ⊎ ((byte f (p.place + 4) / 16 ≡ 2) × (p.end ≡ p.place + 12)))

-- a private_stream_1 packet
pub record IsPrivate (id : ℕ → Bool) (f : List ℕ) (p : Packet) : Type 0 where
  pub code_is : p.code ≡ 0xBD
  pub end_is : p.end ≡ length_end f p.place
  pub start : ℕ
  pub body : IsBody f (p.place + 6) p.end start
  pub keeps : Keeps id f start p.end p.kept

-- any other packet but MPEG_program_end_code (FORMAT 2.7)
pub record IsOther (f : List ℕ) (p : Packet) : Type 0 where
  pub not_end : p.code ≡ 0xB9 → ⊥
  pub not_pack : p.code ≡ 0xBA → ⊥
  pub not_private : p.code ≡ 0xBD → ⊥
  pub end_is : p.end ≡ length_end f p.place
  pub keeps_nothing : p.kept ≡ none

-- a whole packet of the file: packet_start_code_prefix, stream_id and what that asks for (FORMAT 2.2)
pub record IsPacket (id : ℕ → Bool) (f : List ℕ) (p : Packet) : Type 0 where
  pub prefix_0 : byte f p.place ≡ 0
  pub prefix_1 : byte f (p.place + 1) ≡ 0
  pub prefix_2 : byte f (p.place + 2) ≡ 1
  pub code_is : p.code ≡ byte f (p.place + 3)
  pub inside : p.end ≤ length f
  pub kind : IsPack f p ⊎ (IsPrivate id f p ⊎ IsOther f p)

-- the bytes that packets keep, joined
abbrev pub kept_bytes : Option Part → List ℕ
kept_bytes none = []
kept_bytes (some p) = p.bytes

unfoldable pub joined : List Packet → List ℕ
joined [] = []
joined (p ∷ ps) = kept_bytes p.kept ++ joined ps

-- two bytes, and as many as their word says: a whole unit (FORMAT 2.8)
pub record Complete (k : List ℕ) : Type 0 where
  pub two : 2 ≤ length k
  pub enough : word k 0 ≤ length k

-- packets from `at` on, k kept before them: a whole unit after the last of them, and not before it (FORMAT 2.8)
unfoldable pub Packets : (ℕ → Bool) → List ℕ → ℕ → List ℕ → List Packet → Type 0
Packets id f at k [] = Complete k
Packets id f at k (p ∷ ps) =
    (Complete k → ⊥) × (p.place ≡ at) × IsPacket id f p × Packets id f p.end (k ++ kept_bytes p.kept) ps

-- ---- The unit

-- four bytes are there, and the first word counts four bytes or more, which fit (FORMAT 2.1)
pub record Bare (f : List ℕ) (at : ℕ) : Type 0 where
  pub four : at + 4 ≤ length f
  pub least : 4 ≤ word f at
  pub fits : at + word f at ≤ length f

-- how a unit stands in the file
pub data Form : Type 0 where
  bare : (unit : Part) → Form
  packets : (list : List Packet) → Form

-- the unit's bytes
unfoldable pub unit_of : Form → List ℕ
unit_of (bare p) = p.bytes
unit_of (packets ps) = take (word (joined ps) 0) (joined ps)

-- the unit at `at` stands in this form
abbrev pub IsForm : (ℕ → Bool) → List ℕ → ℕ → Form → Type 0
IsForm id f at (bare p) = Bare f at × IsPart f at (at + word f at) p
IsForm id f at (packets ps) = (Bare f at → ⊥) × Packets id f at [] ps

-- how much scratch a form takes: only packets take any (FORMAT 2.9)
abbrev pub scratch_for : Form → ℕ
scratch_for (bare u) = 0
scratch_for (packets ps) = length (unit_of (packets ps))
