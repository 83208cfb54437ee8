-- What each answer means, and what the map holds afterwards (FORMAT 3.6, 4.5, 5.8, 5.9). Assumes nothing: these are
-- definitions.
use Rattle.std.specs.Prelude.{ℕ, ◌≡◌, List, [], length, cond, Option, Some as some, None as none}
use Rattle.std.proofs.lemmas.List.Edits.{sets}
use Rattle.outcome.specs.Outcome.{Res, ok, refuse, listed}
use Rattle.grammar.specs.Bands.{band_words}
use Rattle.grammar.specs.Pixels.{index_map}
use Rattle.grammar.specs.Control.{length_word, control_word}
use Rattle.grammar.specs.Record.{Told, told, width, height}
use Rattle.grammar.specs.Picture.{top_end, ListedUnit}
use Rattle.bands_model.specs.Answers.{padded}
use Rattle.control_model.specs.Answers.{spu_of}
use Rattle.control_model.specs.declared.Spu.{Spu}
use Rattle.rle_model.specs.Answers.{field_answer}
use Rattle.rle_model.specs.declared.Counts.{Counts}
use Rattle.rle_model.specs.declared.Span.{Span}
use Rattle.spu_model.specs.Unit.{has_bottom, rows_at, unit_in, counts_of}
use Rattle.spu_model.specs.declared.Layout.{Layout}
use Rattle.spu_model.specs.declared.Record.{Record}

abbrev pub span : ℕ → ℕ → Span
span a b = record { from = a; to = b }

-- the bottom field, if there is one, of a unit whose control blocks start at C (FORMAT 3.8)
abbrev pub bottom_span : ℕ → ℕ → Option Span
bottom_span C b = cond (has_bottom C b) (some (span b C)) none

-- the layout of a unit u whose commands told t (FORMAT 3.7, 3.8)
abbrev pub layout_of : List ℕ → Told → Layout
layout_of u t =
    record {
      width = width t;
      height = height t;
      end = length_word u;
      top = span t.fields.top (top_end (control_word u) t.fields);
      bottom = bottom_span (control_word u) t.fields.bottom;
    }

-- the record of what the blocks tell, with what the rows count
abbrev pub spu_answer : Res ListedUnit → Res Spu
spu_answer (ok l) = ok (spu_of (told l.blocks) (counts_of l))
spu_answer (refuse n) = refuse n

-- the same with the bands in it: their words, and 0 after them
abbrev pub record_of : Told → Counts → Record
record_of t n = record { spu = spu_of t n; bands = padded (band_words t.bands) }

-- or the number of the refusal
abbrev pub record_given : Res ListedUnit → Res Record
record_given (ok l) = ok (record_of (told l.blocks) (counts_of l))
record_given (refuse n) = refuse n

-- the index map of what is listed; none on a refusal
abbrev pub unit_map : Res ListedUnit → List ℕ
unit_map (ok l) = index_map (width (told l.blocks)) l.rows
unit_map (refuse n) = []

-- what decoding the rows of a unit u whose commands told t leaves
pub record RowsDecoded (u : List ℕ) (t : Told) (px : List ℕ) (r : Res Counts) (px' : List ℕ) : Type 0 where
  pub answer : r ≡ field_answer (width t) (rows_at u t)
  pub pixels : px' ≡ sets px 0 (index_map (width t) (listed (rows_at u t)))

-- what decoding a unit leaves: on a refusal nothing is stored
pub record Decoded (u px : List ℕ) (r : Res Record) (px' : List ℕ) : Type 0 where
  pub answer : r ≡ record_given (unit_in u (length px))
  pub pixels : px' ≡ sets px 0 (unit_map (unit_in u (length px)))
