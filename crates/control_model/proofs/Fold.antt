-- What the reader's fold makes of commands is what they tell together. Assumes nothing.
use Prim.Native.Nat.{ℕ}
use mathlib.Core.Path.{◌≡◌, refl, sym, ◌∙◌}
use mathlib.Core.Bool.{Bool, true, false, ◌||◌}
use Rattle.std.specs.Prelude.{Option, Some as some, None as none}
use mathlib.Core.List.{List, [], ◌∷◌, ◌++◌, append_assoc, append-nil}
use lib.ListN.{get_or}
use Rattle.grammar.specs.Control.{Order, forced_start, start, stop, selectors, alphas, area, offsets, colours, Command, Block}
use Rattle.grammar.specs.Bands.{Band}
use Rattle.grammar.specs.Record.{Area, Offsets, Told, Timed, commands_in, commands_of, or_earlier, first_delay, last_delay, last_numbers, stands, area_from, offsets_from, first_start, last_stop, all_bands, told}
use Rattle.control_model.specs.Fold.{untold, first, tell, tell_block, tell_chain}

tell_all : Told → List Timed → Told
tell_all t [] = t
tell_all t (c ∷ cs) = tell_all (tell c.delay c.order t) cs

-- the first of two, and the last
abbrev or_first : Option ℕ → Option ℕ → Option ℕ
or_first (some d) o = some d
or_first none o = o

abbrev or_later : Option ℕ → Option ℕ → Option ℕ
or_later o (some d) = some d
or_later o none = o

abbrev made : Area → ℕ → ℕ → Option ℕ → Option ℕ → Bool → Offsets → Bool → List Band → Told
made a s l b e f o c bs = record { at = a; selected = s; alpha = l; starts = b; stops = e; forced = f; fields = o; changed = c; bands = bs }

-- what is told after t and the commands cs
abbrev after : Told → List Timed → Told
after t cs =
    record {
      at = area_from (last_numbers 5 (t.at.x1 ∷ t.at.x2 ∷ t.at.y1 ∷ t.at.y2 ∷ []) cs);
      selected = get_or (last_numbers 3 (t.selected ∷ []) cs) 0 0;
      alpha = get_or (last_numbers 4 (t.alpha ∷ []) cs) 0 0;
      starts = or_first t.starts (first_start cs);
      stops = or_later t.stops (last_stop cs);
      forced = t.forced || stands 0 cs;
      fields = offsets_from (last_numbers 6 (t.fields.top ∷ t.fields.bottom ∷ []) cs);
      changed = t.changed || stands 7 cs;
      bands = t.bands ++ all_bands cs;
    }

or_none_lem : (o : Option ℕ) → or_first o none ≡ o
or_none_lem (some d) = refl
or_none_lem none = refl

or-false : (t : Bool) → (t || false) ≡ t
or-false true = refl
or-false false = refl

or-true : (t u : Bool) → (t || (true || u)) ≡ (true || u)
or-true true u = refl
or-true false u = refl

later-false : (s o : Option ℕ) (d : ℕ) → or_later s o ≡ or_later s (or_earlier o d false)
later-false s (some e) d = refl
later-false s none d = refl

later-true : (s o : Option ℕ) (d : ℕ) → or_later (some d) o ≡ or_later s (or_earlier o d true)
later-true s (some e) d = refl
later-true s none d = refl

first_some : (s o : Option ℕ) (d : ℕ) → or_first (first s d) o ≡ or_first s (some d)
first_some (some e) o d = refl
first_some none o d = refl

step : (d : ℕ) (o : Order) (t : Told) (cs : List Timed) → after (tell d o t) cs ≡ after t (record { delay = d; order = o } ∷ cs)
unfolding first_delay last_delay last_numbers stands all_bands
step d forced_start t cs = let r = after t cs in λ i. made r.at r.selected r.alpha (first_some t.starts (first_start cs) d i) (later-false t.stops (last_stop cs) d i) (sym (or-true t.forced (stands 0 cs)) i) r.fields r.changed r.bands
step d start t cs = let r = after t cs in λ i. made r.at r.selected r.alpha (first_some t.starts (first_start cs) d i) (later-false t.stops (last_stop cs) d i) r.forced r.fields r.changed r.bands
step d stop t cs = let r = after t cs in λ i. made r.at r.selected r.alpha r.starts (later-true t.stops (last_stop cs) d i) r.forced r.fields r.changed r.bands
step d (selectors w) t cs = let r = after t cs in λ i. made r.at (get_or (last_numbers 3 (w ∷ []) cs) 0 0) r.alpha r.starts (later-false t.stops (last_stop cs) d i) r.forced r.fields r.changed r.bands
step d (alphas w) t cs = let r = after t cs in λ i. made r.at r.selected (get_or (last_numbers 4 (w ∷ []) cs) 0 0) r.starts (later-false t.stops (last_stop cs) d i) r.forced r.fields r.changed r.bands
step d (area a b c e) t cs = let r = after t cs in λ i. made (area_from (last_numbers 5 (a ∷ b ∷ c ∷ e ∷ []) cs)) r.selected r.alpha r.starts (later-false t.stops (last_stop cs) d i) r.forced r.fields r.changed r.bands
step d (offsets a b) t cs = let r = after t cs in λ i. made r.at r.selected r.alpha r.starts (later-false t.stops (last_stop cs) d i) r.forced (offsets_from (last_numbers 6 (a ∷ b ∷ []) cs)) r.changed r.bands
step d (colours s bs) t cs = let r = after t cs in λ i. made r.at r.selected r.alpha r.starts (later-false t.stops (last_stop cs) d i) r.forced r.fields (sym (or-true t.changed (stands 7 cs)) i) (append_assoc t.bands bs (all_bands cs) i)

all_after : (cs : List Timed) (t : Told) → tell_all t cs ≡ after t cs
unfolding tell_all first_delay last_delay last_numbers stands all_bands
all_after [] t = λ i. made t.at t.selected t.alpha (sym (or_none_lem t.starts) i) t.stops (sym (or-false t.forced) i) t.fields (sym (or-false t.changed) i) (sym (append-nil t.bands) i)
all_after (c ∷ cs) t = all_after cs (tell c.delay c.order t) ∙ step c.delay c.order t cs

block-all : (d : ℕ) (cs : List Command) (rest : List Timed) (t : Told) → tell_all t (commands_in d cs rest) ≡ tell_all (tell_block d cs t) rest
unfolding tell_all commands_in tell_block
block-all d [] rest t = refl
block-all d (c ∷ cs) rest t = block-all d cs rest (tell d c.order t)

chain-all : (bs : List Block) (t : Told) → tell_all t (commands_of bs) ≡ tell_chain bs t
unfolding tell_all commands_of tell_chain
chain-all [] t = refl
chain-all (b ∷ bs) t = block-all b.delay b.commands (commands_of bs) t ∙ chain-all bs (tell_block b.delay b.commands t)

-- after nothing the last stop is that of the commands
nothing_stops : (o : Option ℕ) → or_later none o ≡ o
nothing_stops (some d) = refl
nothing_stops none = refl

-- the fold over a chain is what its commands tell together
pub folded : (bs : List Block) → tell_chain bs untold ≡ told bs
unfolding untold told
folded bs =
    let cs = commands_of bs in
    sym (chain-all bs untold) ∙ all_after cs untold ∙ (let r = after untold cs in λ i. made r.at r.selected r.alpha (first_start cs) (nothing_stops (last_stop cs) i) (stands 0 cs) r.fields (stands 7 cs) (all_bands cs))
