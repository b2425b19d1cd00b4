-- `holding::marks::hold_with` meets its contract. Assumes nothing.
use native.Mathlib.Omega.{arith}
use mathlib.Core.Path.{◌∙◌}
use Rattle.holding.specs.Turns.{hold_few, hold_columns, hold_some, hold_mark, hold_gives}
use Rattle.holding.proofs.marks.hold_with.Goals as goal

pub rank_named-d-requires : goal.rank_named-d-requires
rank_named-d-requires c = record { n_in_bounds = omega (arith, c.requires.max_accounts_in_bounds, (hold_few c.args.index.shape c.requires.hold_asks).2); n_le_max_accounts = (hold_few c.args.index.shape c.requires.hold_asks).2; names = c.requires.hold_asks.names }

pub mark_links-requires : goal.mark_links-requires
mark_links-requires c = record { mark_given = hold_mark c.args.index.shape c.requires.hold_asks c.rank_named-d.ensures; w_value = c.requires.hold_asks.blank }

pub lift_all-requires : goal.lift_all-requires
lift_all-requires c = record { w_len = c.mark_links.ensures.within.size; d_bound = hold_columns c.args.index.shape c.requires.hold_asks c.rank_named-d.ensures }

pub meet_all-requires : goal.meet_all-requires
meet_all-requires c = record { w_len = c.lift_all.ensures.length_is ∙ c.mark_links.ensures.within.size; d_nonzero = hold_some c.args.index.shape c.requires.hold_asks c.rank_named-d.ensures; d_bound = hold_columns c.args.index.shape c.requires.hold_asks c.rank_named-d.ensures; count_le_m = (hold_few c.args.index.shape c.requires.hold_asks).0; m_le_max_links = (hold_few c.args.index.shape c.requires.hold_asks).1 }

pub returns : goal.returns
returns c = hold_gives c.args.index.shape c.requires.hold_asks c.rank_named-d.ensures c.mark_links.ensures c.lift_all.ensures c.meet_all.ensures
