-- `chg_colcon::put3` meets its contract: three stores one after the other. Assumes nothing.
use Rattle.chg_colcon.proofs.put3.Goals as goal

pub returns : goal.returns
returns c = cc
