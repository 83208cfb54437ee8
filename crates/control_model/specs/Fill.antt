-- The words of a unit's bands, command by command and block by block, as they are stored (FORMAT 3.6, 4.5). Assumes nothing: these are definitions.
use Rattle.std.specs.Prelude.{ℕ, ◌+◌, ◌≡◌, List, [], ◌∷◌, ◌++◌, length}
use Rattle.std.proofs.lemmas.List.Edits.{sets}
use Rattle.outcome.specs.Outcome.{listed}
use Rattle.grammar.specs.Bands.{band_words}
use Rattle.grammar.specs.Control.{Order, size_of, Command, Block}
use Rattle.grammar.specs.Record.{told}
use Rattle.control_model.specs.Fold.{untold, tell}
use Rattle.control_model.specs.Chain.{control_at}
use Rattle.control_model.specs.declared.Place.{Place}

-- of an order: those of a colour change, and none of another
unfoldable pub order_words : Order → List ℕ
order_words o = band_words (tell 0 o untold).bands

unfoldable pub block_words : List Command → List ℕ
block_words [] = []
block_words (c ∷ cs) = order_words c.order ++ block_words cs

unfoldable pub chain_words : List Block → List ℕ
chain_words [] = []
chain_words (b ∷ bs) = block_words b.commands ++ chain_words bs

-- of a whole unit
abbrev pub unit_words : List ℕ → List ℕ
unit_words u = band_words (told (listed (control_at u))).bands

-- what storing the words of an order leaves, whose parameters start at p: the places after both
pub record OrderFilled (o : Order) (p to : ℕ) (ws : List ℕ) (r : Place) (ws' : List ℕ) : Type 0 where
  pub next : r.at ≡ p + size_of o
  pub place : r.to ≡ to + length (order_words o)
  pub words : ws' ≡ sets ws to (order_words o)

-- what storing words vs leaves: the place after them
pub record Filled (vs : List ℕ) (to : ℕ) (ws : List ℕ) (r : ℕ) (ws' : List ℕ) : Type 0 where
  pub place : r ≡ to + length vs
  pub words : ws' ≡ sets ws to vs
