-- Other streams change nothing: two files that differ in packets of other streams on a walk alone have the same walk,
-- the same forms of a unit and the same readings. From the grammar alone; only one file's walk is named. Assumes
-- nothing.
use Prim.Native.Nat.{ℕ, ◌+◌, ◌≤◌, ◌<◌}
use native.Mathlib.Omega.{arith}
use mathlib.Core.Path.{◌≡◌, sym, ap, ap₂, ◌∙◌, subst}
use mathlib.Core.Logic.{◌⊎◌, inl, inr, ⊎_elim, ◌↔◌}
use Rattle.std.specs.Prelude.{Option, Some as some, None as none}
use mathlib.Core.List.{List, [], ◌∷◌, ◌++◌}
use lib.ListN.{length}
use lib.Seq.{ext_get_or}
use borrow.Author.Tests.{eqb-true}
use Rattle.grammar.specs.Bytes.{byte}
use Rattle.grammar.specs.Index.{ListedText, IsText}
use Rattle.grammar.specs.IndexCues.{Cue, cues_of, cue_at}
use Rattle.grammar.specs.Packets.{Part, Packet, stream_id, IsBody, length_end, Keeps, IsPack, IsPrivate, IsOther, IsPacket, kept_bytes, Complete, Packets, Form, bare, packets, IsForm}
use Rattle.grammar.specs.Reading.{Wanted, wanted_id, Reading, IsReading}
use Rattle.grammar.specs.Streams.{Walk, AfterId, InOthers, Alike}
use Rattle.grammar.proofs.UniqueIndex.{text_unique}
use Rattle.grammar.proofs.UniquePackets.{body_unique, packet-unique}
use Rattle.grammar.proofs.PacketParts.{body-after, packet-longer, not-bare, slice-same, word_same, body_same}

-- ---- A packet is found by its bytes but those after another stream's id

module _ (s : ℕ) (f g : List ℕ) (n : length f ≡ length g) (p : Packet) (x : IsPacket (stream_id s) f p)
    (h : (i : ℕ) → p.place ≤ i → i < p.end → (AfterId s f p i → ⊥) → byte f i ≡ byte g i) where
  -- the first six bytes are never after an id
  front : (i : ℕ) → i < 6 → byte f (p.place + i) ≡ byte g (p.place + i)
  front i l =
      let m = packet-longer (stream_id s) f p x in
      h (p.place + i) (omega arith) (omega arith)
      (λ o. let z = body-after f (p.place + 6) p.end o.start o.body in let y = o.after in omega arith)

  front-0 : byte f p.place ≡ byte g p.place
  front-0 = let z : p.place + 0 ≡ p.place = omega arith in rw z at (front 0 (omega arith))

  end_same : length_end f p.place ≡ length_end g p.place
  end_same =
      let z : p.place + 4 + 1 ≡ p.place + 5 = omega arith in
      ap (λ (w : ℕ). p.place + 6 + w) (word_same f g (p.place + 4) (front 4 (omega arith)) (rw z (front 5 (omega arith))))

  -- nor is a byte up to the id itself
  upto : (b : ℕ) → IsBody f (p.place + 6) p.end b → (i : ℕ) → p.place + 6 ≤ i → i ≤ b → i < p.end
      → byte f i ≡ byte g i
  upto b t i l m k =
      h i (omega arith) k
      (λ o. let u : o.start ≡ b = body_unique f (p.place + 6) p.end o.start b o.body t in let v = o.after in omega arith)

  private_same : IsPrivate (stream_id s) f p → IsPrivate (stream_id s) g p
  private_same y =
      record {
        code_is = y.code_is;
        end_is = y.end_is ∙ end_same;
        start = y.start;
        body = body_same f g (p.place + 6) p.end y.start (upto y.start y.body) y.body;
        keeps = kept p.kept y.keeps;
      }
    where
      starts : p.place + 6 ≤ y.start
      starts = body-after f (p.place + 6) p.end y.start y.body

      id_same : y.start < p.end → byte f y.start ≡ byte g y.start
      id_same l = upto y.start y.body y.start starts (omega arith) l

      -- what the named stream keeps is not free
      own : byte f y.start ≡ 0x20 + s → (i : ℕ) → y.start + 1 ≤ i → i < p.end → byte f i ≡ byte g i
      own e i a b =
          let l = starts in
          h i (omega arith) b
          (λ o.
          let u : o.start ≡ y.start = body_unique f (p.place + 6) p.end o.start y.start o.body y.body in
          o.other (ap (byte f) u ∙ e))

      kept : (k : Option Part) → Keeps (stream_id s) f y.start p.end k → Keeps (stream_id s) g y.start p.end k
      kept none z = λ l t. z l (rw (id_same l) t)
      kept (some k) z = (
        z.0,
        rw (← id_same z.0) z.1,
        record {
          place_is = z.2.place_is;
          bytes_are = z.2.bytes_are ∙ slice-same f g (y.start + 1) p.end n x.inside (own (eqb-true _ _ z.1));
        },
      )

  kind_same : IsPack f p ⊎ (IsPrivate (stream_id s) f p ⊎ IsOther f p)
      → IsPack g p ⊎ (IsPrivate (stream_id s) g p ⊎ IsOther g p)
  kind_same (inl y) =
      let c = y.0 in
      let m = packet-longer (stream_id s) f p x in
      inl (
        y.0,
        y.1,
        ⊎_elim
            (λ z.
            let e = z.1 in
            let d = h (p.place + 13) (omega arith) (omega arith) (λ o. let v = o.code_is in omega arith) in
            inl (rw (← front 4 (omega arith)) z.0, rw (← d) z.1))
            (λ z. inr (rw (← front 4 (omega arith)) z.0, z.1)) y.2,
      )
  kind_same (inr (inl y)) = inr (inl (private_same y))
  kind_same (inr (inr y)) =
      inr
      (inr
      (record {
        not_end = y.not_end;
        not_pack = y.not_pack;
        not_private = y.not_private;
        end_is = y.end_is ∙ end_same;
        keeps_nothing = y.keeps_nothing;
      }))

  packet-same : IsPacket (stream_id s) g p
  packet-same =
      let i = x.inside in
      record {
        prefix_0 = sym front-0 ∙ x.prefix_0;
        prefix_1 = sym (front 1 (omega arith)) ∙ x.prefix_1;
        prefix_2 = sym (front 2 (omega arith)) ∙ x.prefix_2;
        code_is = x.code_is ∙ front 3 (omega arith);
        inside = omega arith;
        kind = kind_same x.kind;
      }

  -- and what is free in one is free in the other
  free_same : (i : ℕ) → AfterId s f p i → AfterId s g p i
  free_same i o =
      let a = o.after in
      let e = o.inside in
      let b = body-after f (p.place + 6) p.end o.start o.body in
      record {
        code_is = o.code_is;
        start = o.start;
        body = body_same f g (p.place + 6) p.end o.start (upto o.start o.body) o.body;
        other = λ q. o.other (upto o.start o.body o.start b (omega arith) (omega arith) ∙ q);
        after = o.after;
        inside = o.inside;
      }

-- ---- The walk

module _ (s : ℕ) (f g : List ℕ) (n : length f ≡ length g) where
  -- what is free in the packets of a walk is not before its start
  others-after : (at : ℕ) (k : List ℕ) (ps : List Packet) (i : ℕ) → Walk (stream_id s) f at k ps → InOthers s f ps i
      → at ≤ i
  unfolding Walk
  others-after at k [] i w o = absurd o
  others-after at k (p ∷ ps) i w (inl o) =
      let q = w.1 in
      let z = body-after f (p.place + 6) p.end o.start o.body in
      let y = o.after in
      omega arith
  others-after at k (p ∷ ps) i w (inr o) =
      let q = w.1 in
      let l = packet-longer (stream_id s) f p w.2 in
      let z = others-after p.end (k ++ kept_bytes p.kept) ps i w.3 o in
      omega arith

  -- the bytes of the first packet of a walk, and of the packets after it
  module _ (at : ℕ) (k : List ℕ) (p : Packet) (ps : List Packet)
      (w : (Complete k → ⊥) × (p.place ≡ at) × IsPacket (stream_id s) f p × Walk (stream_id s) f p.end (k ++ kept_bytes p.kept) ps)
      (h : (i : ℕ) → at ≤ i → (InOthers s f (p ∷ ps) i → ⊥) → byte f i ≡ byte g i) where
    first_alike : (i : ℕ) → p.place ≤ i → i < p.end → (AfterId s f p i → ⊥) → byte f i ≡ byte g i
    first_alike i a b o =
        let q = w.1 in
        h i (omega arith) (⊎_elim o (λ r. let z = others-after p.end (k ++ kept_bytes p.kept) ps i w.3 r in omega arith))

    rest-alike : (i : ℕ) → p.end ≤ i → (InOthers s f ps i → ⊥) → byte f i ≡ byte g i
    rest-alike i a o =
        let q = w.1 in
        let l = packet-longer (stream_id s) f p w.2 in
        h i (omega arith) (⊎_elim (λ r. let z = r.inside in omega arith) o)

  -- the walk is the same in both
  walk_from : (at : ℕ) (k : List ℕ) (ps : List Packet) → Walk (stream_id s) f at k ps
      → ((i : ℕ) → at ≤ i → (InOthers s f ps i → ⊥) → byte f i ≡ byte g i) → Walk (stream_id s) g at k ps
  unfolding Walk
  walk_from at k [] (inl c) h = inl c
  walk_from at k [] (inr stop) h =
      inr (λ p q x. stop p q (packet-same s g f (sym n) p x (λ i a b o. sym (h i (omega arith) (λ z. z)))))
  walk_from at k (p ∷ ps) w h = (
    w.0,
    w.1,
    packet-same s f g n p w.2 (first_alike at k p ps w h),
    walk_from p.end (k ++ kept_bytes p.kept) ps w.3 (rest-alike at k p ps w h),
  )

  others-from : (at : ℕ) (k : List ℕ) (ps : List Packet) (i : ℕ) → Walk (stream_id s) f at k ps
      → ((j : ℕ) → at ≤ j → (InOthers s f ps j → ⊥) → byte f j ≡ byte g j) → InOthers s f ps i → InOthers s g ps i
  unfolding Walk
  others-from at k [] i w h o = absurd o
  others-from at k (p ∷ ps) i w h (inl o) = inl (free_same s f g n p w.2 (first_alike at k p ps w h) i o)
  others-from at k (p ∷ ps) i w h (inr o) = inr (others-from p.end (k ++ kept_bytes p.kept) ps i w.3 (rest-alike at k p ps w h) o)

  -- the same packets complete a unit
  packets-same : (at : ℕ) (k : List ℕ) (ps qs : List Packet) → Walk (stream_id s) f at k ps → Walk (stream_id s) g at k ps
      → Packets (stream_id s) f at k qs → Packets (stream_id s) g at k qs
  unfolding Walk Packets
  packets-same at k [] [] w v h = h
  packets-same at k [] (q ∷ qs) (inl c) v h = absurd (h.0 c)
  packets-same at k [] (q ∷ qs) (inr stop) v h = absurd (stop q h.1 h.2)
  packets-same at k (p ∷ ps) [] w v h = absurd (w.0 h)
  packets-same at k (p ∷ ps) (q ∷ qs) w v h =
      let e : p ≡ q = packet-unique (stream_id s) f p q (w.1 ∙ sym h.1) w.2 h.2 in (
        h.0,
        h.1,
        subst (IsPacket (stream_id s) g) e v.2,
        subst (λ (x : Packet). Packets (stream_id s) g x.end (k ++ kept_bytes x.kept) qs) e
            (packets-same p.end (k ++ kept_bytes p.kept) ps qs w.3 v.3
            (subst (λ (x : Packet). Packets (stream_id s) f x.end (k ++ kept_bytes x.kept) qs) (sym e) h.3)),
      )

module _ (s : ℕ) (f g : List ℕ) (p : ℕ) (ps : List Packet) (w : Walk (stream_id s) f p [] ps) (a : Alike s f g ps) where
  pub walk_same : Walk (stream_id s) g p [] ps
  walk_same = walk_from s f g a.as_long p [] ps w (λ i l o. a.elsewhere i o)

  -- what is said of one file holds of the other
  pub alike-back : Alike s g f ps
  alike-back =
      record {
        as_long = sym a.as_long;
        elsewhere = λ i o. sym (a.elsewhere i (λ t. o (others-from s f g a.as_long p [] ps i w (λ j l r. a.elsewhere j r) t)));
      }

-- a unit in this form in one is one in the other
form_to : (s : ℕ) (f g : List ℕ) (p : ℕ) (ps : List Packet) → Walk (stream_id s) f p [] ps → Alike s f g ps → (m : Form)
    → IsForm (stream_id s) f p m → IsForm (stream_id s) g p m
unfolding Walk
form_to s f g p [] w a m h =
    subst (λ (e : List ℕ). IsForm (stream_id s) e p m) (ext_get_or 0 f g a.as_long (λ i l. a.elsewhere i (λ o. o))) h
form_to s f g p (r ∷ ps) w a (bare u) h = absurd (not-bare (stream_id s) f r w.2 (rw w.1 h.0))
form_to s f g p (r ∷ ps) w a (packets qs) h =
    let v = walk_same s f g p (r ∷ ps) w a in
    (λ b. not-bare (stream_id s) g r v.2 (rw v.1 b), packets-same s f g a.as_long p [] (r ∷ ps) qs w v h.1)

pub forms_same : (s : ℕ) (f g : List ℕ) (p : ℕ) (ps : List Packet) → Walk (stream_id s) f p [] ps → Alike s f g ps
    → (m : Form) → IsForm (stream_id s) f p m ↔ IsForm (stream_id s) g p m
forms_same s f g p ps w a m = (
  form_to s f g p ps w a m,
  form_to s g f p ps (walk_same s f g p ps w a) (alike-back s f g p ps w a) m,
)

-- ---- Readings

module _ (text : List ℕ) (q : Wanted) (t : ListedText) (c : Cue) (so : IsText text t) (e : cue_at (cues_of t) q.cue ≡ some c) where
  -- a reading is of that cue
  at-cue : (f : List ℕ) (x : Reading) (h : IsReading text f q x) → h.at ≡ c
  at-cue f x h =
      let l : x.text ≡ t = text_unique text x.text t h.text_is so in
      let z : some h.at ≡ some c = sym h.listed ∙ ap₂ (λ (y : ListedText) (m : ℕ). cue_at (cues_of y) m) l h.cue_is ∙ e in
      cc z

  reading-to : (f g : List ℕ) (ps : List Packet) → Walk (wanted_id q) f c.position [] ps → Alike q.stream f g ps
      → (x : Reading) → IsReading text f q x → IsReading text g q x
  reading-to f g ps w a x h =
      let z = at-cue f x h in
      let n = a.as_long in
      let l = h.before_end in
      record {
        text_is = h.text_is;
        cue_is = h.cue_is;
        stream_is = h.stream_is;
        at = h.at;
        listed = h.listed;
        before_end = omega arith;
        form_is = form_to q.stream f g h.at.position ps (rw z w) a x.form h.form_is;
        unit_is = h.unit_is;
        show_stays = h.show_stays;
        hide_stays = h.hide_stays;
      }

  -- each reading of either file is one of the other
  pub readings_same : (f g : List ℕ) (ps : List Packet) → Walk (wanted_id q) f c.position [] ps
      → Alike q.stream f g ps → (x : Reading) → IsReading text f q x ↔ IsReading text g q x
  readings_same f g ps w a x = (
    reading-to f g ps w a x,
    reading-to g f ps (walk_same q.stream f g c.position ps w a) (alike-back q.stream f g c.position ps w a) x,
  )
