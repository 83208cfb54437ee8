-- That a picture may be written has one proof at most, as a ghost field wants it. Assumes nothing.
use Rattle.std.specs.Prelude.{ℕ, ◌*◌, ◌≤◌, ◌≡◌, List, [], ◌∷◌, length}
use Rattle.std.specs.Coded.{×_prop, Unit-prop, le_prop}
use mathlib.Core.Path.{ap}
use Rattle.std.proofs.Math.Nat.{ℕ_set}
use Rattle.demo_model.specs.Unit.{Four}
use Rattle.demo_model.specs.Answers.{Sound}

pub Four-prop : (px : List ℕ) → IsProp (Four px)
unfolding Four
Four-prop [] = Unit-prop
Four-prop (x ∷ px) = ×_prop le_prop (Four-prop px)

module _ (w h : ℕ) (px : List ℕ) where
  -- the same as a tuple
  abbrev Parts : Type 0
  Parts = (1 ≤ w) × ((w ≤ 4096) × ((1 ≤ h) × ((h ≤ 4096) × ((length px ≡ w * h) × Four px))))

  parts : Sound w h px → Parts
  parts a = (a.wide, (a.w_most, (a.high, (a.h_most, (a.all, a.colours)))))

  joined : Parts → Sound w h px
  joined t = record { wide = t.0; w_most = t.1.0; high = t.1.1.0; h_most = t.1.1.1.0; all = t.1.1.1.1.0; colours = t.1.1.1.1.1 }

  parts-prop : IsProp Parts
  parts-prop = ×_prop le_prop (×_prop le_prop (×_prop le_prop (×_prop le_prop (×_prop (ℕ_set _ _) (Four-prop px)))))

  pub Sound-prop : IsProp (Sound w h px)
  unfolding parts joined
  Sound-prop a b = ap joined (parts-prop (parts a) (parts b))
