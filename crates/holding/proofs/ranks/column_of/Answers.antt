-- `holding::ranks::column_of` meets its contract. Assumes nothing.
use Rattle.holding.specs.Ranks.{ranked}
use Rattle.holding.proofs.ranks.column_of.Goals as goal

pub returns : goal.returns
returns c = ranked _ c.checked_sub.ensures
