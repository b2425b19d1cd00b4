-- `counting::count_all` meets its contract. Assumes nothing.
use native.Mathlib.Omega.{arith}
use mathlib.Core.Path.{◌∙◌}
use Rattle.stored.specs.Rows.{shape_sized, sized_few}
use Rattle.counting.specs.Gives.{links_asks, all-counted}
use Rattle.counting.proofs.count_all.Goals as goal

pub wipe-requires : goal.wipe-requires
wipe-requires c = record { w_len = c.count_held.ensures.length_is ∙ c.requires; c_bound = omega arith; m_le_link_bound = omega (arith, (sized_few (shape_sized c.args.index.shape)).1) }

pub count_links-requires : goal.count_links-requires
count_links-requires c = links_asks c.args.index.shape c.requires c.count_held.ensures c.wipe.ensures

pub wipe-requires-2 : goal.wipe-requires-2
wipe-requires-2 c = record { w_len = c.count_links.ensures.rounds.size_is; c_bound = omega arith; m_le_link_bound = omega (arith, (sized_few (shape_sized c.args.index.shape)).1) }

pub returns : goal.returns
returns c = all-counted c.args.index.shape c.requires c.count_held.ensures c.wipe.ensures c.count_links.ensures c.wipe-2.ensures
