-- The unit of a cue, found in scratch of 65,536 bytes or in the file, and its line. Assumes nothing.
use Prim.Native.Nat.{ℕ, zero, suc, ◌+◌, ◌-◌, ◌≤◌, ◌<◌}
use native.Mathlib.Omega.{arith}
use mathlib.Core.Path.{◌≡◌, refl, sym, ap, ◌∙◌, subst}
use mathlib.Core.Logic.{◌⊎◌, inl, inr}
use mathlib.Core.Bool.{Bool, true, false}
use Rattle.std.specs.Prelude.{Option, Some as some, None as none}
use mathlib.Core.List.{List, [], ◌∷◌, ◌++◌}
use lib.IntN.{ℤ}
use lib.ListN.{length, take, drop}
use lib.Seq.{sets, slice}
use mir.Syntax.{w8}
use mir.Val.{Fits}
use borrow.Author.Tests.{le-leb}
use Rattle.outcome.specs.Outcome.{Res, ok, refuse, and_then, map_res, long_instant}
use Rattle.outcome.proofs.Laws.{ok-injective, refuse-injective, ok-not-refuse, and_then-ok, check-ok, map_res-ok, part_slice}
use Rattle.grammar.specs.Bytes.{byte, word}
use Rattle.grammar.specs.Packets.{Packet, Part, kept_bytes, joined, Packets, IsPack, IsPrivate, IsOther, IsPacket, Keeps, Form, bare, packets, IsForm, unit_of, scratch_for, stream_id}
use Rattle.grammar.specs.Record.{told, width}
use Rattle.grammar.specs.Picture.{ListedUnit}
use Rattle.clock_model.specs.Clock.{told_stay, unit_in_time}
use Rattle.clock_model.specs.Answers.{delay_in, delayed, times_answer}
use Rattle.clock_model.specs.declared.Ticks.{Ticks}
use Rattle.std.specs.Bool.{then_some}
use Rattle.clock_model.specs.declared.Times.{Times}
use Rattle.control_model.specs.Few.{few_at}
use Rattle.control_model.proofs.Few.{few_iff}
use Rattle.control_model.proofs.Clock.{told_stay_lem, told-leave}
use Rattle.control_model.specs.Answers.{spu_of}
use Rattle.control_model.specs.declared.Spu.{Spu}
use Rattle.ps_model.specs.Packets.{form_at}
use Rattle.ps_model.specs.Unit as PsUnit
use Rattle.ps_model.specs.Answers.{form_stored, unit_given, unit_stored, unit_part, Extracted}
use Rattle.ps_model.specs.declared.UnitAt.{UnitAt}
use Rattle.ps_model.proofs.Grammar.{form_iff}
use Rattle.ps_model.proofs.Claim.{stream_sound, unit-there}
use Rattle.spu_model.specs.Unit.{rows_at, listed_unit, unit_at, counts_of}
use Rattle.spu_model.specs.Answers.{spu_answer}
use Rattle.spu_model.proofs.Loops.{known}
use Rattle.listing_model.specs.Lines.{shown_line, refused_line}
use Rattle.listing_model.specs.Title.{list_stream, shown_at, unit_for, timed_for, line_of}
use Rattle.listing_model.specs.Answers.{Put, record_shown, unit_line, position_line}
use Rattle.listing_model.proofs.Laws.{put_as}
use Rattle.rle_model.specs.Answers.{nothing, listed_counts}

-- ---- A unit that packets give has at most 65,535 bytes

-- every one is a byte
unfoldable Small : List ℕ → Type 0
Small [] = Unit {0}
Small (b ∷ s) = (b < 256) × Small s

small-byte : (s : List ℕ) → Small s → (i : ℕ) → byte s i < 256
unfolding Small
small-byte [] h i = omega arith
small-byte (b ∷ s) h zero = h.0
small-byte (b ∷ s) h (suc i) = small-byte s h.1 i

small_all : (s : List ℕ) → ((i : ℕ) → byte s i < 256) → Small s
unfolding Small
small_all [] h = tt
small_all (b ∷ s) h = (h 0, small_all s (λ i. h (suc i)))

small-append : (a b : List ℕ) → Small a → Small b → Small (a ++ b)
unfolding Small
small-append [] b h k = k
small-append (x ∷ a) b h k = (h.0, small-append a b h.1 k)

small-take : (n : ℕ) (s : List ℕ) → Small s → Small (take n s)
unfolding Small
small-take zero s h = tt
small-take (suc n) [] h = tt
small-take (suc n) (b ∷ s) h = (h.0, small-take n s h.1)

small-drop : (n : ℕ) (s : List ℕ) → Small s → Small (drop n s)
unfolding Small
small-drop zero s h = h
small-drop (suc n) [] h = tt
small-drop (suc n) (b ∷ s) h = small-drop n s h.1

small-slice : (a e : ℕ) (s : List ℕ) → Small s → Small (slice a e s)
small-slice a e s h = subst Small (part_slice a e s) (small-take (e - a) (drop a s) (small-drop a s h))

-- what a packet keeps
small-none : (k : Option Part) → k ≡ none → Small (kept_bytes k)
unfolding Small
small-none none e = tt
small-none (some p) e = absurd (let z : ◌≡◌ {A = ℕ} 0 1 = cc in omega arith)

short-take : (n : ℕ) (s : List ℕ) → length (take n s) ≤ n
short-take zero s = omega arith
short-take (suc n) [] = omega arith
short-take (suc n) (b ∷ s) = omega (arith, short-take n s)

small_word : (s : List ℕ) → Small s → word s 0 ≤ 65535
unfolding word
small_word s q = omega (arith, small-byte s q 0, small-byte s q (0 + 1))

module _ (id : ℕ → Bool) (f : List ℕ) (h : Small f) where
  small-keeps : (b e : ℕ) (k : Option Part) → Keeps id f b e k → Small (kept_bytes k)
  unfolding Small
  small-keeps b e none q = tt
  small-keeps b e (some p) q = subst Small (sym q.2.bytes_are) (small-slice (b + 1) e f h)

  small-kept : (p : Packet) → IsPacket id f p → Small (kept_bytes p.kept)
  small-kept p i = go i.kind
    where
      go : IsPack f p ⊎ (IsPrivate id f p ⊎ IsOther f p) → Small (kept_bytes p.kept)
      go (inl q) = small-none p.kept q.1
      go (inr (inl q)) = small-keeps q.start p.end p.kept q.keeps
      go (inr (inr q)) = small-none p.kept q.keeps_nothing

  small-joined : (at : ℕ) (k : List ℕ) (ps : List Packet) → Packets id f at k ps → Small (joined ps)
  unfolding Small joined Packets
  small-joined at k [] q = tt
  small-joined at k (p ∷ ps) q = small-append (kept_bytes p.kept) (joined ps) (small-kept p q.2) (small-joined p.end (k ++ kept_bytes p.kept) ps q.3)

  scratch-small : (p : ℕ) (m : Form) → IsForm id f p m → scratch_for m ≤ 65535
  unfolding unit_of
  scratch-small p (bare u) q = omega arith
  scratch-small p (packets ps) q = omega (arith, short-take (word (joined ps) 0) (joined ps), small_word (joined ps) (small-joined p [] ps q.1))

  -- so 65,536 bytes of scratch are enough
  scratch_open : (p n : ℕ) → 65535 ≤ n → PsUnit.unit_at id f p n ≡ form_at id f p
  unfolding PsUnit.unit_at
  scratch_open p n l = go (form_at id f p) refl
    where
      go : (r : Res Form) → form_at id f p ≡ r → PsUnit.with_scratch n r ≡ r
      go (refuse k) e = refl
      go (ok m) e = rw (le-leb (scratch_for m) n (omega (arith, scratch-small p m ((form_iff id f p m).0 e).1)))

-- ---- The record of a unit

-- what is shown has a size
shows-sides : (u : List ℕ) (r : Res Spu) (s : Spu) → r ≡ spu_answer (unit_at u) → r ≡ ok s
    → (s.x1 ≤ s.x2) × (s.y1 ≤ s.y2)
unfolding unit_at spu_of
shows-sides u r s d q = go (unit_at u) refl (sym q ∙ d)
  where
    go : (x : Res ListedUnit) → unit_at u ≡ x → ok s ≡ spu_answer x → (s.x1 ≤ s.x2) × (s.y1 ≤ s.y2)
    go (refuse m) g f = let z : ◌≡◌ {A = ℕ} 0 1 = cc in absurd (omega arith)
    go (ok l) g f =
        let a = and_then-ok (few_at u) _ g in
        let bs = a.0 in
        let m = map_res-ok (listed_unit bs) (rows_at u (told bs)) a.2 in
        let y = known u (spu_of (told bs) nothing) (bs, ((few_iff u bs).0 a.1).0, refl) in
        let t : s ≡ spu_of (told bs) (listed_counts (width (told bs)) m.0) = let z : s ≡ spu_of (told l.blocks) (counts_of l) = cc in z ∙ ap (λ (v : ListedUnit). spu_of (told v.blocks) (counts_of v)) (sym m.2) in
        (subst (λ (v : Spu). v.x1 ≤ v.x2) (sym t) y.wide, subst (λ (v : Spu). v.y1 ≤ v.y2) (sym t) y.high)

-- a delay that stands, as the code hands it on
then_delayed : (b : Bool) (t : Ticks) → delay_in (then_some b t) ≡ delayed b t.0
then_delayed true t = refl
then_delayed false t = refl

module _ (z : ℤ) (u : List ℕ) (r : Res Spu) (d : r ≡ spu_answer (unit_at u)) where
  -- a unit that is refused
  pub unit-refused : (m : ℕ) → r ≡ refuse m → refuse m ≡ spu_answer (unit_in_time z (unit_at u))
  unit-refused m q = go (unit_at u) (sym q ∙ d)
    where
      go : (x : Res ListedUnit) → refuse m ≡ spu_answer x → refuse m ≡ spu_answer (unit_in_time z x)
      go (ok l) f = ok-not-refuse f
      go (refuse j) f = f

  -- one that is not, by its times
  module _ (s : Spu) (q : r ≡ ok s) (a b : Option Ticks) (ea : a ≡ then_some s.started s.start_delay_raw) (eb : b ≡ then_some s.stopped s.stop_delay_raw)
      (t : Res Times) (g : t ≡ times_answer z (delay_in a) (delay_in b)) where
    by-record : t ≡ times_answer z (delayed s.started s.start_delay_raw.0) (delayed s.stopped s.stop_delay_raw.0)
    by-record =
        g
        ∙ (λ i. times_answer z (delay_in (ea i)) (delay_in (eb i)))
        ∙ (λ i. times_answer z (then_delayed s.started s.start_delay_raw i) (then_delayed s.stopped s.stop_delay_raw i))

    pub unit-late : (j : ℕ) → t ≡ refuse j → refuse j ≡ spu_answer (unit_in_time z (unit_at u))
    unit-late j h = go (unit_at u) (sym q ∙ d)
      where
        go : (m : Res ListedUnit) → ok s ≡ spu_answer m → refuse j ≡ spu_answer (unit_in_time z m)
        go (refuse m) f = ok-not-refuse (sym f)
        go (ok m) f =
            let i = told-leave z s (told m.blocks) (counts_of m) (ok-injective f) t by-record j h in
            rw i.0 (ap refuse i.1)

    pub unit-in-time : (x : Times) → t ≡ ok x → ok s ≡ spu_answer (unit_in_time z (unit_at u))
    unit-in-time x h = go (unit_at u) (sym q ∙ d)
      where
        go : (m : Res ListedUnit) → ok s ≡ spu_answer m → ok s ≡ spu_answer (unit_in_time z m)
        go (refuse m) f = ok-not-refuse (sym f)
        go (ok m) f =
            rw (told_stay_lem z s (told m.blocks) (counts_of m) (ok-injective f) t by-record x h).0 f

-- ---- The record and the line of a position

module _ (f : List ℕ) (bytes : (i : ℕ) → Fits w8 (byte f i)) (p : ℕ) (s s' : List ℕ) (long : length s ≡ 65536) (r : Res UnitAt) (d : Extracted f p list_stream s r s') where
  open_form : PsUnit.stream_unit list_stream f p (length s) ≡ form_at (stream_id list_stream) f p
  unfolding PsUnit.stream_unit
  open_form = scratch_open (stream_id list_stream) f (small_all f (λ i. (bytes i).fits)) p (length s) (omega arith)

  unit-found : ((k : ℕ) → r ≡ refuse k → ⊥) → unit_at (unit_part f s' p r) ≡ unit_for f p
  unfolding unit_for
  unit-found o = go (PsUnit.stream_unit list_stream f p (length s)) refl d.answer d.scratch
    where
      go : (x : Res Form) → PsUnit.stream_unit list_stream f p (length s) ≡ x → r ≡ unit_given x
          → s' ≡ sets s 0 (unit_stored x)
          → unit_at (unit_part f s' p r) ≡ and_then (form_at (stream_id list_stream) f p) (λ m. unit_at (unit_of m))
      go (refuse k) e g q = absurd (o k g)
      go (ok m) e g q =
          let t = stream_sound f p list_stream (length s) m e in
          let i = (form_iff (stream_id list_stream) f p m).0 t.1 in
          let u : unit_part f s' p r ≡ unit_of m =
          ap (λ (x : List ℕ). unit_part f x p r) q
          ∙ ap (unit_part f (sets s 0 (form_stored m)) p) g
          ∙ unit-there (stream_id list_stream) f p s m i.1 t.2 in
          rw t.1 (ap unit_at u)

  unit-none : (k : ℕ) → r ≡ refuse k → refuse k ≡ unit_for f p
  unfolding unit_for
  unit-none k q = go (form_at (stream_id list_stream) f p) refl (sym q ∙ d.answer ∙ ap unit_given open_form)
    where
      go : (x : Res Form) → form_at (stream_id list_stream) f p ≡ x
          → refuse k ≡ unit_given (form_at (stream_id list_stream) f p)
          → refuse k ≡ and_then (form_at (stream_id list_stream) f p) (λ m. unit_at (unit_of m))
      go (ok (bare u)) e g = absurd (let w : ◌≡◌ {A = ℕ} 0 1 = cc in omega arith)
      go (ok (packets ps)) e g = absurd (let w : ◌≡◌ {A = ℕ} 0 1 = cc in omega arith)
      go (refuse j) e g = let w : k ≡ j = cc in rw e (ap refuse w)

-- what is left in scratch
pub scratch-kept : (f : List ℕ) (bytes : (i : ℕ) → Fits w8 (byte f i)) (p : ℕ) (s s' : List ℕ) (r : Res UnitAt)
    → length s ≡ 65536 → Extracted f p list_stream s r s'
    → s' ≡ sets s 0 (unit_stored (form_at (stream_id list_stream) f p))
scratch-kept f bytes p s s' r long d = d.scratch ∙ ap (λ (x : Res Form). sets s 0 (unit_stored x)) (open_form f bytes p s s' long r d)

pub found-record : (z : ℤ) (v : Res Spu) (f : List ℕ) (bytes : (i : ℕ) → Fits w8 (byte f i)) (p : ℕ) (s s' : List ℕ) (m : UnitAt)
    → length s ≡ 65536
    → Extracted f p list_stream s (ok m) s' → v ≡ spu_answer (unit_in_time z (unit_at (unit_part f s' p (ok m)))) → v ≡ spu_answer (timed_for z f p)
unfolding timed_for
found-record z v f bytes p s s' m long d q =
    q ∙ ap (λ (x : Res ListedUnit). spu_answer (unit_in_time z x)) (unit-found f bytes p s s' long (ok m) d (λ k e. ok-not-refuse (sym e)))

pub none-record : (z : ℤ) (f : List ℕ) (bytes : (i : ℕ) → Fits w8 (byte f i)) (p : ℕ) (s s' : List ℕ) (r : Res UnitAt) (m : ℕ)
    → length s ≡ 65536
    → Extracted f p list_stream s r s' → r ≡ refuse m → refuse m ≡ spu_answer (timed_for z f p)
unfolding timed_for
none-record z f bytes p s s' r m long d h = rw (sym (unit-none f bytes p s s' long r d m h))

module _ (n : ℕ) (z : ℤ) (o : Option ℕ) (f : List ℕ) (p : ℕ) {l l' : List ℕ} {at k v : ℕ} where
  pub shows-position : (y : ℤ) → y ≡ z → (s : Spu) → ok s ≡ spu_answer (timed_for z f p)
      → Put k l at (shown_line n (record_shown y o s)) v l' → Put k l at (position_line n z o f p) v l'
  unfolding spu_of shown_line
  shows-position y e s d q = put_as (go (timed_for z f p) d) q
    where
      go : (m : Res ListedUnit) → ok s ≡ spu_answer m → shown_line n (record_shown y o s) ≡ line_of n (map_res (shown_at z o) m)
      go (refuse m) g = ok-not-refuse (sym g)
      go (ok m) g =
          ap (λ (i : Spu). shown_line n (record_shown y o i)) (ok-injective g)
          ∙ ap (λ (i : ℤ). shown_line n (record_shown i o (spu_of (told m.blocks) (counts_of m)))) e

  pub refused-line : (m : ℕ) → refuse m ≡ spu_answer (timed_for z f p) → Put k l at (refused_line n m) v l' → Put k l at (position_line n z o f p) v l'
  refused-line m d q = put_as (go (timed_for z f p) d) q
    where
      go : (x : Res ListedUnit) → refuse m ≡ spu_answer x → refused_line n m ≡ line_of n (map_res (shown_at z o) x)
      go (ok x) g = ok-not-refuse g
      go (refuse j) g = ap (refused_line n) (refuse-injective g)

-- ---- The line of a unit, and of a position by its unit

module _ (n : ℕ) (z : ℤ) (o : Option ℕ) {l l' : List ℕ} {at k : ℕ} where
  -- a unit that is not refused, by its times
  module _ (u : List ℕ) (r : Res Spu) (s : Spu) (d : r ≡ spu_answer (unit_at u)) (q : r ≡ ok s)
      (t : Res Times)
      (g : t ≡ times_answer z (delayed s.started s.start_delay_raw.0) (delayed s.stopped s.stop_delay_raw.0)) where
    pub shows-line : (y : ℤ) → y ≡ z → (v : ℕ) (x : Times) → t ≡ ok x
        → Put k l at (shown_line n (record_shown y o s)) v l' → Put k l at (unit_line n z o u) v l'
    unfolding spu_of shown_line
    shows-line y e v x h p = put_as (go (unit_at u) (sym q ∙ d)) p
      where
        go : (m : Res ListedUnit) → ok s ≡ spu_answer m
            → shown_line n (record_shown y o s) ≡ line_of n (map_res (shown_at z o) (unit_in_time z m))
        go (refuse m) f = ok-not-refuse (sym f)
        go (ok m) f =
            let w : s ≡ spu_of (told m.blocks) (counts_of m) = ok-injective f in
            rw (told_stay_lem z s (told m.blocks) (counts_of m) w t g x h).0
            (ap (λ (i : Spu). shown_line n (record_shown y o i)) w ∙ ap (λ (i : ℤ). shown_line n (record_shown i o (spu_of (told m.blocks) (counts_of m)))) e)

    pub late-line : (j v : ℕ) → t ≡ refuse j → Put k l at (refused_line n j) v l' → Put k l at (unit_line n z o u) v l'
    late-line j v h p = put_as (go (unit_at u) (sym q ∙ d)) p
      where
        go : (m : Res ListedUnit) → ok s ≡ spu_answer m
            → refused_line n j ≡ line_of n (map_res (shown_at z o) (unit_in_time z m))
        go (refuse m) f = ok-not-refuse (sym f)
        go (ok m) f =
            let i = told-leave z s (told m.blocks) (counts_of m) (ok-injective f) t g j h in
            rw i.0 (ap (refused_line n) i.1)

  pub refuses-line : (u : List ℕ) (r : Res Spu) (m v : ℕ) → r ≡ spu_answer (unit_at u) → r ≡ refuse m
      → Put k l at (refused_line n m) v l' → Put k l at (unit_line n z o u) v l'
  refuses-line u r m v d q p = put_as (go (unit_at u) (sym q ∙ d)) p
    where
      go : (x : Res ListedUnit) → refuse m ≡ spu_answer x
          → refused_line n m ≡ line_of n (map_res (shown_at z o) (unit_in_time z x))
      go (ok i) f = ok-not-refuse f
      go (refuse j) f = ap (refused_line n) (refuse-injective f)

  -- of the unit's bytes
  pub part-line : (u w : List ℕ) (v : ℕ) → u ≡ w → Put k l at (unit_line n z o u) v l' → Put k l at (unit_line n z o w) v l'
  part-line u w v q p = put_as (ap (unit_line n z o) q) p

pub found-line : (n : ℕ) (z : ℤ) (o : Option ℕ) {l l' : List ℕ} {at k : ℕ} (v : ℕ) (f : List ℕ) (bytes : (i : ℕ) → Fits w8 (byte f i)) (p : ℕ) (s s' : List ℕ) (r : Res UnitAt)
    → length s ≡ 65536
    → Extracted f p list_stream s r s' → ((j : ℕ) → r ≡ refuse j → ⊥) → Put k l at (unit_line n z o (unit_part f s' p r)) v l' → Put k l at (position_line n z o f p) v l'
unfolding timed_for
found-line n z o v f bytes p s s' r long d h q =
    put_as (ap (λ (x : Res ListedUnit). line_of n (map_res (shown_at z o) (unit_in_time z x))) (unit-found f bytes p s s' long r d h)) q

-- and what is shown there has a size
pub position-sides : (z : ℤ) (f : List ℕ) (p : ℕ) (s : Spu) → ok s ≡ spu_answer (timed_for z f p) → (s.x1 ≤ s.x2) × (s.y1 ≤ s.y2)
unfolding timed_for unit_for
position-sides z f p s d = go (timed_for z f p) refl d
  where
    go : (x : Res ListedUnit) → timed_for z f p ≡ x → ok s ≡ spu_answer x → (s.x1 ≤ s.x2) × (s.y1 ≤ s.y2)
    go (refuse m) e g = ok-not-refuse (sym g)
    go (ok l) e g =
        let a = and_then-ok (unit_for f p) _ e in
        let b = check-ok (told_stay z (told (a.0).blocks)) long_instant (ok a.0) a.2 in
        let c = and_then-ok (form_at (stream_id list_stream) f p) _ a.1 in
        shows-sides (unit_of c.0) (ok s) s (g ∙ ap spu_answer (sym (c.2 ∙ b.1))) refl
