-- `holding::marks::meet_all` meets its contract. Assumes nothing.
use native.Mathlib.Omega.{arith}
use mathlib.Core.Path.{◌∙◌}
use Rattle.holding.specs.Turns.{meet_all_none, meet_all_more}
use Rattle.holding.proofs.marks.meet_all.Goals as goal

pub loop-c-init : goal.loop-c-init
loop-c-init c = (omega (arith, c.requires.d_nonzero), meet_all_none)

pub meet_column-requires : goal.meet_column-requires
meet_column-requires c = record { w_len = c.loop-c.invariant.1.length_is ∙ c.requires.w_len; c_nonzero = c.loop-c.invariant.0; c_bound = omega (arith, c.loop-c-test.true, c.requires.d_bound); count_le_m = c.requires.count_le_m; m_le_max_links = c.requires.m_le_max_links }

pub wipe_range-requires : goal.wipe_range-requires
wipe_range-requires c = record { w_len = c.meet_column.ensures.only.length_is ∙ c.loop-c.invariant.1.length_is ∙ c.requires.w_len; c_bound = omega (arith, c.loop-c-test.true, c.requires.d_bound); from_le_until = omega arith; until_le_m = c.requires.count_le_m; m_le_link_bound = omega (arith, c.requires.m_le_max_links) }

pub loop-c-preserved : goal.loop-c-preserved
loop-c-preserved c = (omega arith, meet_all_more c.requires.count_le_m c.loop-c.invariant.0 c.loop-c.invariant.1 c.meet_column.ensures c.wipe_range.ensures)
