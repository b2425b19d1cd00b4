-- `bets::try_limit` meets its contract. Assumes nothing.
use Rattle.bets.proofs.RowBack.{limit_gives}
use Rattle.bets.proofs.try_limit.Goals as goal

pub returns : goal.returns
returns c = limit_gives _ c.min-count.ensures _ _ _ _ _ _ _ _ c.row_room-row.ensures c.copy_bets.ensures c.try_row.ensures
