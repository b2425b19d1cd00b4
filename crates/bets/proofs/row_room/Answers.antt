-- `bets::row_room` meets its contract. Assumes nothing.
use mathlib.Core.Path.{refl}
use Rattle.columns.specs.Wiping.{zeros}
use Rattle.bets.proofs.row_room.Goals as goal

pub returns : goal.returns
unfolding zeros
returns c = refl
