-- `ps::extract_spu` meets its contract: a stream above the greatest, past the file, bare, or joined. Assumes nothing.
use mathlib.Core.Path.{sym, ◌∙◌}
use Rattle.grammar.specs.Packets.{stream_id}
use Rattle.ps_model.proofs.Claim.{claimed}
use Rattle.ps_model.proofs.Unit.{unit-past, unit-bare, unit_joined_lem, stream_high, stream_low}
use Rattle.ps.proofs.extract_spu.Goals as goal

pub returns-then-stream-gt-TOP_STREAM : goal.returns-then-stream-gt-TOP_STREAM
returns-then-stream-gt-TOP_STREAM c =
    claimed (stream_high c.args.file.now c.args.position c.args.stream c.args.scratch.now c.if-stream-gt-TOP_STREAM.true)

pub returns-then-file-position : goal.returns-then-file-position
returns-then-file-position c =
    claimed (stream_low c.args.file.now c.args.position c.args.stream c.args.scratch.now c.if-stream-gt-TOP_STREAM.false _ _
    (unit-past (stream_id c.args.stream) c.args.file.now c.args.position c.args.scratch.now c.if-file-position.true))

pub returns-in-Some : goal.returns-in-Some
returns-in-Some c =
    claimed (stream_low c.args.file.now c.args.position c.args.stream c.args.scratch.now c.if-stream-gt-TOP_STREAM.false _ _
    (unit-bare (stream_id c.args.stream) c.args.file.now c.args.position c.args.scratch.now c.if-file-position.false _ (sym c.in-Some.is ∙ c.bare_size.ensures)))

pub returns : goal.returns
returns c =
    let l = c.if-stream-gt-TOP_STREAM.false in
    claimed (stream_low c.args.file.now c.args.position c.args.stream c.args.scratch.now l _ _
    (unit_joined_lem (stream_id c.args.stream) c.args.file.now c.args.position c.args.scratch.now c.if-file-position.false (sym c.in_default.is ∙ c.bare_size.ensures) _ _ c.extract_spu_from_ps.ensures))
