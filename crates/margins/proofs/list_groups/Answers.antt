-- `margins::list_groups` meets its contract. Assumes nothing.
use native.Mathlib.Omega.{arith}
use mathlib.Core.Path.{◌∙◌}
use Rattle.margins.specs.Margins.{listed-none, listed_room, listed_more, listed-all}
use Rattle.margins.proofs.list_groups.Goals as goal

pub loop-g-init : goal.loop-g-init
loop-g-init c = listed-none _ _

pub take_group-t-requires : goal.take_group-t-requires
take_group-t-requires c = record { w_len = c.loop-g.invariant.length_is ∙ c.requires.w_len; g_lt_m = omega (arith, c.loop-g-test.true, c.requires.count_le_m); t_lt_m = listed_room c.requires.w_len c.requires.count_le_m c.loop-g.invariant c.loop-g-test.true; m_le_link_bound = c.requires.m_le_link_bound }

pub loop-g-preserved : goal.loop-g-preserved
loop-g-preserved c = listed_more c.requires.w_len c.requires.count_le_m c.loop-g.invariant c.loop-g-test.true c.take_group-t.ensures

pub returns : goal.returns
returns c = listed-all (omega arith) c.loop-g.invariant
