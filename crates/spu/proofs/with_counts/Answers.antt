-- `spu::with_counts` meets its contract: one value is another. Assumes nothing.
use mathlib.Core.Path.{ap}
use Rattle.control_model.specs.Answers.{spu_of}
use Rattle.control_model.specs.declared.Spu.{Spu}
use Rattle.spu.proofs.with_counts.Goals as goal

pub returns : goal.returns
unfolding spu_of
returns c = λ t e. ap (λ (s : Spu). record { x1 = s.x1; y1 = s.y1; x2 = s.x2; y2 = s.y2; palette_sel = s.palette_sel; alpha = s.alpha; started = s.started; start_delay_raw = s.start_delay_raw; stopped = s.stopped; stop_delay_raw = s.stop_delay_raw; forced_display = s.forced_display; top_rle_off = s.top_rle_off; bot_rle_off = s.bot_rle_off; saw_chg_colcon = s.saw_chg_colcon; band_words = s.band_words; codes = c.args.counts.codes; clipped = c.args.counts.clipped }) e
