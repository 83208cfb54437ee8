-- Other streams change nothing of a unit: files that differ in packets of other streams on a walk alone give the same
-- unit, or the same refusal; and every place has a walk. Assumes nothing.
use Prim.Native.Nat.{ℕ, zero, suc, ◌+◌, ◌-◌, ◌<◌}
use native.Mathlib.Omega.{arith}
use mathlib.Core.Path.{◌≡◌, refl, sym, ap, ◌∙◌}
use mathlib.Core.Bool.{Bool, true, false, cond}
use mathlib.Core.Logic.{◌⊎◌, inl, inr}
use mathlib.Core.List.{List, [], ◌∷◌, ◌++◌}
use lib.ListN.{length}
use lib.Dec.{leb, ltb}
use Rattle.outcome.specs.Outcome.{Res, ok, refuse, check, bad_stream, no_unit, past_file}
use Rattle.outcome.proofs.Laws.{ok-not-refuse, either, clash}
use Rattle.grammar.specs.Packets.{Packet, kept_bytes, Form, stream_id, top_stream}
use Rattle.grammar.specs.Streams.{Walk, Alike}
use Rattle.grammar.proofs.PacketParts.{packet-longer}
use Rattle.grammar.proofs.Streams.{forms_same}
use Rattle.ps_model.specs.OnePacket.{packet_at}
use Rattle.ps_model.specs.Packets.{complete, form_at}
use Rattle.ps_model.specs.Unit.{with_scratch, unit_at, stream_unit}
use Rattle.ps_model.proofs.PacketGrammar.{packet-sound, packet-complete}
use Rattle.ps_model.proofs.Grammar.{complete-sound, complete-complete, form_iff}
use Rattle.ps_model.proofs.Refusals.{form_refused}

module _ (s : ℕ) (f g : List ℕ) (p : ℕ) (ps : List Packet) (w : Walk (stream_id s) f p [] ps) (a : Alike s f g ps) where
  -- the same unit in the same form, or the same refusal
  pub form_same : form_at (stream_id s) f p ≡ form_at (stream_id s) g p
  form_same = go (form_at (stream_id s) f p) (form_at (stream_id s) g p) refl refl
    where
      go : (x y : Res Form) → form_at (stream_id s) f p ≡ x → form_at (stream_id s) g p ≡ y → x ≡ y
      go (ok m) y e d =
          let h = (form_iff (stream_id s) f p m).0 e in
          let l : p < length g = rw (← a.as_long) h.0 in
          sym ((form_iff (stream_id s) g p m).1 (l, (forms_same s f g p ps w a m).0 h.1)) ∙ d
      go (refuse n) (ok m) e d =
          let h = (form_iff (stream_id s) g p m).0 d in
          let l : p < length f = rw a.as_long h.0 in
          ok-not-refuse (sym e ∙ (form_iff (stream_id s) f p m).1 (l, (forms_same s f g p ps w a m).1 h.1))
      go (refuse n) (refuse k) e d =
          ap refuse
          (form_refused (stream_id s) f p n e
          ∙ ap (λ (m : ℕ). cond (ltb p m) no_unit past_file) a.as_long
          ∙ sym (form_refused (stream_id s) g p k d))

  pub stream_same : (n : ℕ) → stream_unit s f p n ≡ stream_unit s g p n
  unfolding stream_unit unit_at
  stream_same n = ap (λ (x : Res Form). check (leb s top_stream) bad_stream (with_scratch n x)) form_same

-- ---- Every place has a walk, so that the law speaks of every file and position

module _ (id : ℕ → Bool) (f : List ℕ) where
  walk_fuel : (m at : ℕ) (k : List ℕ) → length f - at < m → (ps : List Packet) × Walk id f at k ps
  unfolding Walk
  walk_fuel zero at k h = absurd (omega arith)
  walk_fuel (suc m) at k h = go (λ a l b. walk_fuel m a l b) (either (complete k)) (packet_at id f at) refl
    where
      go : ((a : ℕ) (l : List ℕ) → length f - a < m → (ps : List Packet) × Walk id f a l ps)
          → (complete k ≡ true) ⊎ (complete k ≡ false) → (r : Res Packet) → packet_at id f at ≡ r
          → (ps : List Packet) × Walk id f at k ps
      go more (inl t) r e = ([], inl (complete-sound k t))
      go more (inr t) (refuse n) e = ([], inr (λ p q x. ok-not-refuse (sym e ∙ (rw q at (packet-complete id f p x)))))
      go more (inr t) (ok p) e =
          let x = packet-sound id f at p e in
          let q = x.0 in
          let l = packet-longer id f p x.1 in
          let i = x.1.inside in
          let w = more p.end (k ++ kept_bytes p.kept) (omega arith) in
          (p ∷ w.0, (λ c. clash (complete k) (complete-complete k c) t, x.0, x.1, w.1))

  pub walk_there : (at : ℕ) → (ps : List Packet) × Walk id f at [] ps
  walk_there at = walk_fuel (length f - at + 1) at [] (omega arith)
