-- `demo::Writer::emit_code` ends: each call has a nibble fewer to write.
use Rattle.demo.proofs.Writer.+emit_code.Given as goal

abbrev pub decreases-emit_code : goal.decreases-emit_code
decreases-emit_code l = l.size
