-- The cue table, and the first line of a title. Assumes nothing.
use Prim.Native.Nat.{ℕ, zero, suc, ◌+◌, ◌≤◌, ◌<◌, min}
use native.Mathlib.Omega.{arith}
use native.Mathlib.Numerals.{add-one}
use mathlib.Core.Path.{◌≡◌, refl, sym, ap, ◌∙◌}
use mathlib.Core.Bool.{Bool, true, false}
use Rattle.std.specs.Prelude.{Option, Some as some, None as none}
use mathlib.Core.List.{List, [], ◌∷◌, ◌++◌, map}
use lib.IntN.{ℤ, pos, ◌-ℤ◌}
use lib.ListN.{length, get_or, drop}
use lib.Seq.{sets, sets-eq, length-sets}
use borrow.Author.Tests.{le-leb, lt-leb}
use Rattle.outcome.specs.Outcome.{Res, ok, refuse, listed_by, no_cue}
use Rattle.outcome.proofs.Laws.{ok-injective, refuse-injective, ok-not-refuse}
use Rattle.grammar.specs.Index.{ListedText}
use Rattle.grammar.specs.IndexCues.{Cue, cues_of, cue_at, duration_of, clip}
use Rattle.idx_model.specs.Text.{idx_of}
use Rattle.idx_model.specs.Answers.{starts_of, positions_of, idx_with, idx_answer, IdxRead}
use Rattle.idx_model.specs.declared.IdxAnswer.{IdxAnswer}
use Rattle.idx_model.proofs.Picks.{cue-out, last-duration, next-duration, text_open}
use Rattle.idx_model.proofs.Grammar.{room_iff}
use Rattle.grammar.specs.Packets.{stream_id}
use Rattle.ps_model.specs.Packets.{form_at}
use Rattle.ps_model.specs.Answers.{unit_stored}
use Rattle.listing_model.specs.Lines.{refused_line, cues_line, index_line, file_line}
use Rattle.listing_model.specs.Title.{list_stream, form_for, shown_for, cue_line, readable}
use Rattle.listing_model.specs.Answers.{Put, position_line, table_of, Headed}
use Rattle.listing_model.specs.declared.Head.{Head}
use Rattle.listing_model.proofs.Laws.{put_as, written}

-- ---- A cue of the table
abbrev entry : ℤ → ℕ → Cue
entry z p = record { start = z; position = p }

pub table-length : (zs : List ℤ) (ps : List ℕ) (k : ℕ) → length (table_of zs ps k) ≡ min k (min (length zs) (length ps))
unfolding table_of
table-length zs ps zero = omega arith
table-length [] ps (suc k) = omega arith
table-length (z ∷ zs) [] (suc k) = omega arith
table-length (z ∷ zs) (p ∷ ps) (suc k) = omega (arith, table-length zs ps k)

table_at : (zs : List ℤ) (ps : List ℕ) (k n : ℕ) → n < length (table_of zs ps k) → cue_at (table_of zs ps k) n ≡ some (entry (get_or zs n (pos 0)) (get_or ps n 0))
unfolding table_of cue_at
table_at zs ps zero n h = absurd (omega arith)
table_at [] ps (suc k) n h = absurd (omega arith)
table_at (z ∷ zs) [] (suc k) n h = absurd (omega arith)
table_at (z ∷ zs) (p ∷ ps) (suc k) zero h = refl
table_at (z ∷ zs) (p ∷ ps) (suc k) (suc n) h = table_at zs ps k n (omega arith)

-- the line of cue n, from its times and its position
module _ (zs : List ℤ) (ps : List ℕ) (k : ℕ) (f : List ℕ) (n size : ℕ) (sized : size ≡ min k (min (length zs) (length ps))) where
  pub line-none : size ≤ n → refused_line n no_cue ≡ cue_line (table_of zs ps k) f n
  unfolding shown_for
  line-none h = rw (cue-out (table_of zs ps k) n (omega (arith, table-length zs ps k)))

  -- and what is left in scratch
  pub form-none : size ≤ n → (s : List ℕ) → s ≡ sets s 0 (unit_stored (form_for (table_of zs ps k) f n))
  unfolding form_for
  form-none h s = rw (cue-out (table_of zs ps k) n (omega (arith, table-length zs ps k)))

  pub form-some : n < size → (s s' : List ℕ) → s' ≡ sets s 0 (unit_stored (form_at (stream_id list_stream) f (get_or ps n 0))) → s' ≡ sets s 0 (unit_stored (form_for (table_of zs ps k) f n))
  unfolding form_for
  form-some h s s' e = rw (table_at zs ps k n (omega (arith, table-length zs ps k))) e

  line-some : (o : Option ℕ) → n < size → duration_of (table_of zs ps k) n ≡ o → position_line n (get_or zs n (pos 0)) o f (get_or ps n 0) ≡ cue_line (table_of zs ps k) f n
  unfolding shown_for
  line-some o h d = rw (table_at zs ps k n (omega (arith, table-length zs ps k)), d)

  module _ (z y : ℤ) (v : ℕ) (ez : z ≡ get_or zs n (pos 0)) (ev : v ≡ get_or ps n 0) (h : n < size) where
    same : (o : Option ℕ) → position_line n z o f v ≡ position_line n (get_or zs n (pos 0)) o f (get_or ps n 0)
    same o = ap (λ (x : ℤ). position_line n x o f v) ez ∙ ap (position_line n (get_or zs n (pos 0)) o f) ev

    pub line-last : size ≤ n + 1 → position_line n z none f v ≡ cue_line (table_of zs ps k) f n
    line-last i = same none ∙ line-some none h (last-duration (table_of zs ps k) n (omega (arith, table-length zs ps k)))

    pub line-next : n + 1 < size → y ≡ get_or zs (n + 1) (pos 0) → (d : ℕ) → d ≡ clip (y -ℤ z) → position_line n z (some d) f v ≡ cue_line (table_of zs ps k) f n
    line-next i ey d e =
        let a = table_at zs ps k n (omega (arith, table-length zs ps k)) in
        let c = table_at zs ps k (n + 1) (omega (arith, table-length zs ps k)) in
        let q = next-duration (table_of zs ps k) n (entry (get_or zs n (pos 0)) (get_or ps n 0)) (entry (get_or zs (n + 1) (pos 0)) (get_or ps (n + 1) 0)) a (ap (cue_at (table_of zs ps k)) (sym (add-one n)) ∙ c) in
        let g : d ≡ clip (get_or zs (n + 1) (pos 0) -ℤ get_or zs n (pos 0)) = e ∙ ap (λ (x : ℤ). clip (x -ℤ z)) ey ∙ ap (λ (x : ℤ). clip (get_or zs (n + 1) (pos 0) -ℤ x)) ez in
        same (some d) ∙ line-some (some d) h (q ∙ ap some (sym g))

-- ---- The table that an index fills
length-starts : (cs : List Cue) → length (map (λ (c : Cue). c.start) cs) ≡ length cs
length-starts [] = refl
length-starts (c ∷ cs) = ap suc (length-starts cs)

length-positions : (cs : List Cue) → length (map (λ (c : Cue). c.position) cs) ≡ length cs
length-positions [] = refl
length-positions (c ∷ cs) = ap suc (length-positions cs)

table-front : (cs : List Cue) (zs : List ℤ) (ps : List ℕ) → table_of (map (λ (c : Cue). c.start) cs ++ zs) (map (λ (c : Cue). c.position) cs ++ ps) (length cs) ≡ cs
unfolding table_of
table-front [] zs ps = refl
table-front (c ∷ cs) zs ps = ap (λ (x : List Cue). c ∷ x) (table-front cs zs ps)

table-stored : (cs : List Cue) (zs : List ℤ) (ps : List ℕ) → length cs ≤ length zs → length cs ≤ length ps
    → table_of (sets zs 0 (map (λ (c : Cue). c.start) cs)) (sets ps 0 (map (λ (c : Cue). c.position) cs)) (length cs) ≡ cs
table-stored cs zs ps h i =
    let a = sets-eq (map (λ (c : Cue). c.start) cs) zs 0 (omega (arith, length-starts cs)) in
    let b = sets-eq (map (λ (c : Cue). c.position) cs) ps 0 (omega (arith, length-positions cs)) in
    rw (a, b) (table-front cs (drop (0 + length (map (λ (c : Cue). c.start) cs)) zs) (drop (0 + length (map (λ (c : Cue). c.position) cs)) ps))

-- ---- The first line
module _ (there : Bool) (text file l : List ℕ) where
  -- a file is missing or too long
  pub head-none : readable there text file ≡ false → (r : Head) (l' : List ℕ) (zs : List ℤ) (ps : List ℕ) → (Put 210 l 0 file_line r.size l') × (r.cues ≡ 0) → Headed there text file zs ps l r zs ps l'
  unfolding table_of
  head-none e r l' zs ps p =
      record {
        line = rw e (written (omega arith) p.0);
        count = rw e p.1;
        table = rw (e, p.1);
        starts_are = rw e;
        positions_are = rw e;
        starts_long = refl;
        positions_long = refl;
      }

  module _ (e : readable there text file ≡ true) (small : length text ≤ 65536) (zs : List ℤ) (ps : List ℕ) (lz : length zs ≡ 65537) (lp : length ps ≡ 65537)
      (a : Res IdxAnswer) (zs' : List ℤ) (ps' : List ℕ) (d : IdxRead text zs ps a zs' ps') where
    opened : idx_with zs ps text ≡ idx_of text
    opened = text_open text (min (length zs) (length ps)) (omega arith)

    kept-starts : length zs' ≡ length zs
    kept-starts = ap length d.stored.starts_are ∙ length-sets zs 0 (starts_of (listed_by (idx_with zs ps text) cues_of))

    kept-positions : length ps' ≡ length ps
    kept-positions = ap length d.stored.positions_are ∙ length-sets ps 0 (positions_of (listed_by (idx_with zs ps text) cues_of))

    -- the index is refused
    pub head-refused : (k : ℕ) → a ≡ refuse k → (r : Head) (l' : List ℕ) → (Put 210 l 0 (index_line k) r.size l') × (r.cues ≡ 0) → Headed there text file zs ps l r zs' ps' l'
    unfolding idx_answer table_of
    head-refused k h r l' p = go (idx_of text) refl (sym h ∙ d.answer ∙ ap idx_answer opened)
      where
        go : (x : Res ListedText) → idx_of text ≡ x → refuse k ≡ idx_answer (idx_of text) → Headed there text file zs ps l r zs' ps' l'
        go (ok index) q g = ok-not-refuse (g ∙ ap idx_answer q)
        go (refuse n) q g =
            let w : k ≡ n = refuse-injective (g ∙ ap idx_answer q) in
            record {
              line = rw (e, q) (written (omega arith) (put_as (ap index_line w) p.0));
              count = rw (e, q) p.1;
              table = rw (e, q, p.1);
              starts_are =
                  rw (e, q)
                  (d.stored.starts_are ∙ ap (λ (y : Res ListedText). sets zs 0 (starts_of (listed_by y cues_of))) (opened ∙ q));
              positions_are =
                  rw (e, q)
                  (d.stored.positions_are
                  ∙ ap (λ (y : Res ListedText). sets ps 0 (positions_of (listed_by y cues_of))) (opened ∙ q));
              starts_long = kept-starts;
              positions_long = kept-positions;
            }

    -- it is accepted
    pub head-counted : (b : IdxAnswer) → a ≡ ok b → (r : Head) (l' : List ℕ) → (Put 210 l 0 (cues_line b.cues) r.size l') × (r.cues ≡ b.cues) → Headed there text file zs ps l r zs' ps' l'
    unfolding idx_answer
    head-counted b h r l' p = go (idx_of text) refl (sym h ∙ d.answer ∙ ap idx_answer opened)
      where
        go : (x : Res ListedText) → idx_of text ≡ x → ok b ≡ idx_answer (idx_of text) → Headed there text file zs ps l r zs' ps' l'
        go (refuse n) q g = ok-not-refuse (sym (g ∙ ap idx_answer q))
        go (ok index) q g =
            let w : b.cues ≡ length (cues_of index) = ap (λ (c : IdxAnswer). c.cues) (ok-injective (g ∙ ap idx_answer q)) in
            let found : idx_with zs ps text ≡ ok index = opened ∙ q in
            let room = ((room_iff (min (length zs) (length ps)) text index).0 found).1 in
            let s : zs' ≡ sets zs 0 (starts_of (cues_of index)) =
            d.stored.starts_are ∙ ap (λ (y : Res ListedText). sets zs 0 (starts_of (listed_by y cues_of))) found in
            let t : ps' ≡ sets ps 0 (positions_of (cues_of index)) =
            d.stored.positions_are ∙ ap (λ (y : Res ListedText). sets ps 0 (positions_of (listed_by y cues_of))) found in
            record {
              line = rw (e, q) (written (omega arith) (put_as (ap cues_line w) p.0));
              count = rw (e, q) (p.1 ∙ w);
              table = rw (e, q, p.1, w, s, t) (table-stored (cues_of index) zs ps (omega arith) (omega arith));
              starts_are = rw (e, q) s;
              positions_are = rw (e, q) t;
              starts_long = kept-starts;
              positions_long = kept-positions;
            }

-- both files can be read, or one of them cannot
pub not_there : (there : Bool) (text file : List ℕ) → there ≡ false → readable there text file ≡ false
not_there there text file e = rw e

pub long_text : (there : Bool) (text file : List ℕ) → there ≡ true → 65536 < length text → readable there text file ≡ false
long_text there text file e h = rw (e, lt-leb (length text) 65536 h)

pub long_file : (there : Bool) (text file : List ℕ) → there ≡ true → length text ≤ 65536 → 65536 < length file → readable there text file ≡ false
long_file there text file e h i = rw (e, le-leb (length text) 65536 h, lt-leb (length file) 65536 i)

pub can-read : (there : Bool) (text file : List ℕ) → there ≡ true → length text ≤ 65536 → length file ≤ 65536 → readable there text file ≡ true
can-read there text file e h i = rw (e, le-leb (length text) 65536 h, le-leb (length file) 65536 i)
