-- What each answer of the code means: the record of what was told, or the number of the refusal. Assumes nothing: these are definitions.
use Rattle.std.specs.Prelude.{ℕ, ◌+◌, List, length}
use Rattle.outcome.specs.Outcome.{Res, ok, refuse}
use Rattle.grammar.specs.Bands.{band_words}
use Rattle.grammar.specs.Control.{Order, size_of, Command, Block}
use Rattle.grammar.specs.Record.{Told, given, delay_of}
use Rattle.clock_model.specs.Answers.{ticks}
use Rattle.control_model.specs.Fold.{untold, tell, tell_block, tell_chain}
use Rattle.control_model.specs.Chain.{control_at}
use Rattle.control_model.specs.declared.Spu.{Spu}
use Rattle.control_model.specs.declared.AfterCommand.{AfterCommand}
use Rattle.rle_model.specs.declared.Counts.{Counts}
use Rattle.rle_model.specs.Answers.{nothing}

-- the record of what was told, with what rows count: a delay that was not told is 0 (FORMAT 3.6)
unfoldable pub spu_of : Told → Counts → Spu
spu_of t n =
    record {
      x1 = t.at.x1;
      y1 = t.at.y1;
      x2 = t.at.x2;
      y2 = t.at.y2;
      palette_sel = t.selected;
      alpha = t.alpha;
      started = given t.starts;
      start_delay_raw = ticks (delay_of t.starts);
      stopped = given t.stops;
      stop_delay_raw = ticks (delay_of t.stops);
      forced_display = t.forced;
      top_rle_off = t.fields.top;
      bot_rle_off = t.fields.bottom;
      saw_chg_colcon = t.changed;
      band_words = length (band_words t.bands);
      codes = n.codes;
      clipped = n.clipped;
    }

abbrev pub after_command : ℕ → Spu → Res AfterCommand
after_command a s = ok (record { at = a; spu = s })

-- of an order whose parameters start at p, in a block of delay d, after t was told
abbrev pub order_answer : ℕ → ℕ → Told → Res Order → Res AfterCommand
order_answer d p t (ok o) = after_command (p + size_of o) (spu_of (tell d o t) nothing)
order_answer d p t (refuse n) = refuse n

-- of the commands of a block
abbrev pub commands_answer : ℕ → Told → Res (List Command) → Res Spu
commands_answer d t (ok cs) = ok (spu_of (tell_block d cs t) nothing)
commands_answer d t (refuse n) = refuse n

-- of the blocks of a chain
abbrev pub chain_answer : Told → Res (List Block) → Res Spu
chain_answer t (ok bs) = ok (spu_of (tell_chain bs t) nothing)
chain_answer t (refuse n) = refuse n

-- of a unit
abbrev pub control_answer : List ℕ → Res Spu
control_answer u = chain_answer untold (control_at u)
