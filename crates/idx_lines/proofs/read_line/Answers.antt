-- `idx_lines::read_line` meets its contract: by the word at its start. Assumes nothing.
use Rattle.grammar.specs.Index.{size_word, palette_word, timestamp_word}
use Rattle.idx_lines_model.proofs.Words.{word_in, line-timestamp, line-palette, line-size, line_other}
use Rattle.idx_lines.proofs.read_line.Goals as goal

pub returns-then-is_timestamp : goal.returns-then-is_timestamp
returns-then-is_timestamp c =
    line-timestamp c.args.l.now c.args.palette.now _ c.is_timestamp.ensures c.if-is_timestamp.true c.parse_timestamp.result c.parse_timestamp.ensures

pub returns-then-starts : goal.returns-then-starts
returns-then-starts c =
    line-palette c.args.l.now c.args.palette.now _ c.is_timestamp.ensures c.if-is_timestamp.false _ c.starts.ensures c.if-starts.true c.parse_palette.result _ c.parse_palette.ensures

pub returns-then-starts-2 : goal.returns-then-starts-2
returns-then-starts-2 c =
    line-size c.args.l.now c.args.palette.now _ c.is_timestamp.ensures c.if-is_timestamp.false _ c.starts.ensures c.if-starts.false _ c.starts-2.ensures c.if-starts-2.true c.parse_size.result c.parse_size.ensures

pub returns : goal.returns
returns c =
    line_other c.args.l.now c.args.palette.now _ c.is_timestamp.ensures c.if-is_timestamp.false _ c.starts.ensures c.if-starts.false _ c.starts-2.ensures c.if-starts-2.false

pub slice_bounds-parse_timestamp-count : goal.slice_bounds-parse_timestamp-count
slice_bounds-parse_timestamp-count c = word_in timestamp_word c.args.l.now _ c.is_timestamp.ensures c.if-is_timestamp.true

pub slice_bounds-parse_timestamp-start : goal.slice_bounds-parse_timestamp-start
slice_bounds-parse_timestamp-start c = word_in timestamp_word c.args.l.now _ c.is_timestamp.ensures c.if-is_timestamp.true

pub slice_bounds-parse_palette-count : goal.slice_bounds-parse_palette-count
slice_bounds-parse_palette-count c = word_in palette_word c.args.l.now _ c.starts.ensures c.if-starts.true

pub slice_bounds-parse_palette-start : goal.slice_bounds-parse_palette-start
slice_bounds-parse_palette-start c = word_in palette_word c.args.l.now _ c.starts.ensures c.if-starts.true

pub slice_bounds-parse_size-count : goal.slice_bounds-parse_size-count
slice_bounds-parse_size-count c = word_in size_word c.args.l.now _ c.starts-2.ensures c.if-starts-2.true

pub slice_bounds-parse_size-start : goal.slice_bounds-parse_size-start
slice_bounds-parse_size-start c = word_in size_word c.args.l.now _ c.starts-2.ensures c.if-starts-2.true
