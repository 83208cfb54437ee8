-- `control::with_order` meets its contract: by the command's byte. Assumes nothing.
use native.Mathlib.Omega.{arith}
use mathlib.Core.Path.{ap}
use Rattle.control.specs.CommandBytes.{byte_of}
use Rattle.grammar.specs.Control.{selectors, alphas}
use Rattle.control_model.proofs.Told.{told-as, size-as, given-one, given-two}
use Rattle.control_model.specs.Chain.{plain_at}
use Rattle.control.proofs.with_order.Goals as goal

pub returns-in-ForcedStart : goal.returns-in-ForcedStart
unfolding plain_at
returns-in-ForcedStart c = λ t e. told-as _ _ 0 _ _ t _ (ap byte_of c.in-ForcedStart.is) (c.with_forced_start.ensures t e)

pub returns-in-Start : goal.returns-in-Start
unfolding plain_at
returns-in-Start c = λ t e. told-as _ _ 1 _ _ t _ (ap byte_of c.in-Start.is) (c.with_start.ensures t e)

pub returns-in-Stop : goal.returns-in-Stop
unfolding plain_at
returns-in-Stop c = λ t e. told-as _ _ 2 _ _ t _ (ap byte_of c.in-Stop.is) (c.with_stop.ensures t e)

pub word_at-requires : goal.word_at-requires
unfolding plain_at
word_at-requires c = size-as _ _ _ 3 _ (ap byte_of c.in-Selectors.is) c.requires.1

pub returns-in-Selectors : goal.returns-in-Selectors
unfolding plain_at
returns-in-Selectors c =
    λ t e. told-as _ _ 3 _ _ t _ (ap byte_of c.in-Selectors.is) (given-one selectors c.args.delay _ _ c.word_at.ensures t (c.with_selectors.ensures t c.args.delay e))

pub word_at-requires-in-Alphas : goal.word_at-requires-in-Alphas
unfolding plain_at
word_at-requires-in-Alphas c = size-as _ _ _ 4 _ (ap byte_of c.in-Alphas.is) c.requires.1

pub returns-in-Alphas : goal.returns-in-Alphas
unfolding plain_at
returns-in-Alphas c =
    λ t e. told-as _ _ 4 _ _ t _ (ap byte_of c.in-Alphas.is) (given-one alphas c.args.delay _ _ c.word_at-in-Alphas.ensures t (c.with_alphas.ensures t c.args.delay e))

pub with_area_at-requires : goal.with_area_at-requires
unfolding plain_at
with_area_at-requires c = size-as _ _ _ 5 _ (ap byte_of c.in-Area.is) c.requires.1

pub returns-in-Area : goal.returns-in-Area
unfolding plain_at
returns-in-Area c = λ t e. told-as _ _ 5 _ _ t _ (ap byte_of c.in-Area.is) (c.with_area_at.ensures t c.args.delay e)

pub word_at-requires-in-Offsets : goal.word_at-requires-in-Offsets
unfolding plain_at
word_at-requires-in-Offsets c =
    let h = size-as c.args.unit.now c.args.p _ 6 _ (ap byte_of c.in-Offsets.is) c.requires.1 in omega arith

pub word_at-requires-in-Offsets-2 : goal.word_at-requires-in-Offsets-2
unfolding plain_at
word_at-requires-in-Offsets-2 c =
    let h = size-as c.args.unit.now c.args.p _ 6 _ (ap byte_of c.in-Offsets.is) c.requires.1 in omega arith

pub returns-in-Offsets : goal.returns-in-Offsets
unfolding plain_at
returns-in-Offsets c =
    λ t e. told-as c.args.unit.now c.args.p 6 _ c.args.delay t _ (ap byte_of c.in-Offsets.is) (given-two c.args.delay _ _ _ _ c.word_at-in-Offsets.ensures c.word_at-in-Offsets-2.ensures t (c.with_offsets.ensures t c.args.delay e))
