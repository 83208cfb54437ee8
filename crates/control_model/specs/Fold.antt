-- What commands tell, one after the other, as the reader takes them; `proofs/Fold.antt` shows that it is what they tell together (FORMAT 3.6).
-- Assumes nothing: these are definitions.
use Rattle.std.specs.Prelude.{ℕ, true, false, List, [], ◌∷◌, ◌++◌}
use Rattle.std.specs.Prelude.{Option, Some as some, None as none}
use Rattle.grammar.specs.Control.{Order, forced_start, start, stop, selectors, alphas, area, offsets, colours, Command, Block}
use Rattle.grammar.specs.Record.{Told}

-- before the first command (FORMAT 3.6)
unfoldable pub untold : Told
untold =
    record {
      at = record { x1 = 0; x2 = 0; y1 = 0; y2 = 0 };
      selected = 0;
      alpha = 0;
      starts = none;
      stops = none;
      forced = false;
      fields = record { top = 0; bottom = 0 };
      changed = false;
      bands = [];
    }

-- the first start counts
abbrev pub first : Option ℕ → ℕ → Option ℕ
first none d = some d
first (some s) d = some s

-- a command of a block with delay d: of starts the first counts, bands are joined, and of the rest the last (FORMAT 3.6)
abbrev pub tell : ℕ → Order → Told → Told
tell d forced_start t =
    record { at = t.at; selected = t.selected; alpha = t.alpha; starts = first t.starts d; stops = t.stops; forced = true; fields = t.fields; changed = t.changed; bands = t.bands }
tell d start t =
    record { at = t.at; selected = t.selected; alpha = t.alpha; starts = first t.starts d; stops = t.stops; forced = t.forced; fields = t.fields; changed = t.changed; bands = t.bands }
tell d stop t =
    record { at = t.at; selected = t.selected; alpha = t.alpha; starts = t.starts; stops = some d; forced = t.forced; fields = t.fields; changed = t.changed; bands = t.bands }
tell d (selectors w) t =
    record { at = t.at; selected = w; alpha = t.alpha; starts = t.starts; stops = t.stops; forced = t.forced; fields = t.fields; changed = t.changed; bands = t.bands }
tell d (alphas w) t =
    record { at = t.at; selected = t.selected; alpha = w; starts = t.starts; stops = t.stops; forced = t.forced; fields = t.fields; changed = t.changed; bands = t.bands }
tell d (area a b c e) t =
    record { at = record { x1 = a; x2 = b; y1 = c; y2 = e }; selected = t.selected; alpha = t.alpha; starts = t.starts; stops = t.stops; forced = t.forced; fields = t.fields; changed = t.changed; bands = t.bands }
tell d (offsets a b) t =
    record { at = t.at; selected = t.selected; alpha = t.alpha; starts = t.starts; stops = t.stops; forced = t.forced; fields = record { top = a; bottom = b }; changed = t.changed; bands = t.bands }
tell d (colours s bs) t =
    record { at = t.at; selected = t.selected; alpha = t.alpha; starts = t.starts; stops = t.stops; forced = t.forced; fields = t.fields; changed = true; bands = t.bands ++ bs }

-- the commands of a block, in turn
unfoldable pub tell_block : ℕ → List Command → Told → Told
tell_block d [] t = t
tell_block d (c ∷ cs) t = tell_block d cs (tell d c.order t)

-- the blocks of a chain, in turn: what one told stands in the next
unfoldable pub tell_chain : List Block → Told → Told
tell_chain [] t = t
tell_chain (b ∷ bs) t = tell_chain bs (tell_block b.delay b.commands t)
