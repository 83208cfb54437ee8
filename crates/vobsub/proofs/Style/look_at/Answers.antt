-- `vobsub::Style::look_at` meets its contract: by what the bands give. Assumes nothing.
use mathlib.Core.Path.{◌≡◌, refl}
use Rattle.std.specs.Prelude.{Option, Some, None}
use Rattle.std.specs.Option.{unwrap_or}
use Rattle.bands_model.specs.declared.Four.{Four}
use Rattle.vobsub_model.specs.Paint.{look_is, word_look, SameLook}
use Rattle.vobsub_model.proofs.Painting.{look-found, look_none}
use Rattle.vobsub.proofs.Style.look_at.Goals as goal

pub returns : goal.returns
returns c = rw c.unwrap_or.ensures (go c.chg_colcon_lookup.result refl)
  where
    go : (o : Option Four) → c.chg_colcon_lookup.result ≡ o
        → SameLook (unwrap_or o c.args.self.now.own) (word_look c.args.self.now.words.now (look_is c.args.self.now.own.selectors c.args.self.now.own.alphas) c.args.place.x c.args.place.y)
    go (Some four) e = look-found _ _ _ _ _ c.chg_colcon_lookup.ensures _ e
    go None e = look_none _ _ _ _ _ c.chg_colcon_lookup.ensures e
