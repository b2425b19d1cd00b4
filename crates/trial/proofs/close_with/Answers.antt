-- `trial::close_with` meets its contract. Assumes nothing.
use Rattle.trial.specs.Trial.{close_size, close_list, close_short, close_play, close_done}
use Rattle.trial.proofs.close_with.Goals as goal

pub pool_rows-requires : goal.pool_rows-requires
pool_rows-requires c = record { w_value = c.requires.close_asks.blank; min_level_le_k = c.requires.close_asks.level; start_len = c.requires.start_len; end_len = c.requires.end_len }

pub list_groups-groups-requires : goal.list_groups-groups-requires
list_groups-groups-requires c =
    let l = close_list c.args.index c.requires.close_asks c.pool_rows.ensures in
    record { w_len = close_size c.args.index c.requires.close_asks c.pool_rows.ensures; count_le_m = l.0; m_le_link_bound = l.1 }

pub returns-then-room-groups : goal.returns-then-room-groups
returns-then-room-groups c = close_short c.args.index c.requires.close_asks c.pool_rows.ensures c.list_groups-groups.ensures c.if-room-groups.true

pub play-limit-requires : goal.play-limit-requires
play-limit-requires c = (_, _, _, _, close_play c.args.index c.requires.close_asks c.pool_rows.ensures c.list_groups-groups.ensures c.requires.own_value)

pub returns : goal.returns
returns c =
    let played = close_play c.args.index c.requires.close_asks c.pool_rows.ensures c.list_groups-groups.ensures c.requires.own_value in
    close_done c.args.index c.requires.close_asks c.pool_rows.ensures c.list_groups-groups.ensures c.if-room-groups.false (c.play-limit.ensures _ _ _ _ played)
