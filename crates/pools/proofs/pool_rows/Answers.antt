-- `pools::pool_rows` meets its contract. Assumes nothing.
use native.Mathlib.Omega.{arith}
use Rattle.pools.specs.Held.{tops_asks, links_asks, names_asks, pack_asks, pools_done}
use Rattle.pools.proofs.pool_rows.Goals as goal

pub find_tops-requires : goal.find_tops-requires
find_tops-requires c = tops_asks c.args.index.shape c.requires.min_level_le_k c.requires.w_value

pub load_links-requires : goal.load_links-requires
load_links-requires c = links_asks c.args.index.shape c.requires.min_level_le_k c.requires.w_value c.find_tops.ensures

pub lists-requires : goal.lists-requires
lists-requires c = record { name_asks = (_, names_asks c.args.index.shape c.requires.min_level_le_k c.requires.w_value c.find_tops.ensures c.load_links.ensures); start_len = c.requires.start_len; next_len = c.requires.end_len }

pub pack-requires : goal.pack-requires
pack-requires c = pack_asks c.args.index.shape c.requires.min_level_le_k c.requires.w_value c.find_tops.ensures c.load_links.ensures (c.lists.ensures.0 _ (names_asks c.args.index.shape c.requires.min_level_le_k c.requires.w_value c.find_tops.ensures c.load_links.ensures)) (omega (arith, c.lists.auto.next, c.requires.end_len))

pub returns : goal.returns
returns c = pools_done c.args.index.shape c.requires.min_level_le_k c.requires.w_value c.find_tops.ensures c.load_links.ensures (c.lists.ensures.0 _ (names_asks c.args.index.shape c.requires.min_level_le_k c.requires.w_value c.find_tops.ensures c.load_links.ensures)) c.pack.ensures
