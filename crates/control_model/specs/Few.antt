-- The limit of bands, and the bands of a unit in an array (FORMAT 3.7, 4.5). Assumes nothing: these are definitions.
use Rattle.std.specs.Prelude.{ℕ, List, leb, length}
use Rattle.outcome.specs.Outcome.{Res, ok, check, and_then, map_res, many_bands}
use Rattle.grammar.specs.Bands.{band_words, most_bands}
use Rattle.grammar.specs.Control.{Block}
use Rattle.grammar.specs.Record.{told}
use Rattle.bands_model.specs.Answers.{padded}
use Rattle.control_model.specs.Chain.{control_at}

-- the blocks of a unit whose bands, those of all its colour changes, are not too many: 15 to 21, then 34
unfoldable pub few_at : List ℕ → Res (List Block)
few_at u = and_then (control_at u) (λ bs. check (leb (length (told bs).bands) most_bands) many_bands (ok bs))

-- their words, and 0 after them
abbrev pub bands_given : Res (List Block) → Res (List ℕ)
bands_given r = map_res (λ bs. padded (band_words (told bs).bands)) r
