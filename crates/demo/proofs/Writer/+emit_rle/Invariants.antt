-- `demo::Writer::emit_rle` ends: each call has a shorter run to write.
use Rattle.demo.proofs.Writer.+emit_rle.Given as goal

abbrev pub decreases-emit_rle : goal.decreases-emit_rle
decreases-emit_rle l = l.run
