-- `counting::held_with` meets its contract. Assumes nothing.
use native.Mathlib.Omega.{arith}
use Rattle.stored.specs.Rows.{shape_sized, sized_few}
use Rattle.counting.specs.Gives.{links_chain, accounts_asks, all_held}
use Rattle.counting.proofs.held_with.Goals as goal

pub wipe_all-requires : goal.wipe_all-requires
wipe_all-requires c = record { w_len = c.requires.w_len; from_le_until = omega arith; until_bound = omega arith; m_le_link_bound = omega (arith, (sized_few (shape_sized c.args.index.shape)).1) }

pub chain_links-requires : goal.chain_links-requires
chain_links-requires c = links_chain c.args.index.shape c.requires.w_len c.wipe_all.ensures c.requires.head_value

pub count_accounts-requires : goal.count_accounts-requires
count_accounts-requires c = accounts_asks c.args.index.shape c.requires.w_len c.wipe_all.ensures c.chain_links.ensures

pub wipe_all-requires-2 : goal.wipe_all-requires-2
wipe_all-requires-2 c = record { w_len = c.count_accounts.ensures.rounds.size_is; from_le_until = omega arith; until_bound = omega arith; m_le_link_bound = omega (arith, (sized_few (shape_sized c.args.index.shape)).1) }

pub returns : goal.returns
returns c = all_held c.args.index.shape c.requires.w_len c.wipe_all.ensures c.chain_links.ensures c.count_accounts.ensures c.wipe_all-2.ensures
