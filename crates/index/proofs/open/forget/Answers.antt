-- `index::open::forget` meets its contract. Assumes nothing.
use mathlib.Core.Path.{◌∙◌}
use native.Mathlib.Omega.{arith}
use Rattle.index.specs.Open.{forgotten}
use Rattle.index.proofs.open.forget.Goals as goal

pub wipe-requires : goal.wipe-requires
wipe-requires c = record { w_len = c.requires.w_len; c_bound = omega arith; m_le_link_bound = c.requires.m_le_link_bound }

pub wipe-requires-2 : goal.wipe-requires-2
wipe-requires-2 c = record { w_len = c.wipe.ensures.length_is ∙ c.requires.w_len; c_bound = omega arith; m_le_link_bound = c.requires.m_le_link_bound }

pub wipe-requires-3 : goal.wipe-requires-3
wipe-requires-3 c = record { w_len = c.wipe-2.ensures.length_is ∙ c.wipe.ensures.length_is ∙ c.requires.w_len; c_bound = omega arith; m_le_link_bound = c.requires.m_le_link_bound }

pub wipe_range-requires : goal.wipe_range-requires
wipe_range-requires c = record { w_len = c.wipe-3.ensures.length_is ∙ c.wipe-2.ensures.length_is ∙ c.wipe.ensures.length_is ∙ c.requires.w_len; c_bound = omega arith; from_le_until = omega arith; until_le_m = c.requires.joins_le_m; m_le_link_bound = c.requires.m_le_link_bound }

pub wipe_range-requires-2 : goal.wipe_range-requires-2
wipe_range-requires-2 c = record { w_len = c.wipe_range.ensures.length_is ∙ c.wipe-3.ensures.length_is ∙ c.wipe-2.ensures.length_is ∙ c.wipe.ensures.length_is ∙ c.requires.w_len; c_bound = omega arith; from_le_until = omega arith; until_le_m = c.requires.joins_le_m; m_le_link_bound = c.requires.m_le_link_bound }

pub wipe_range-requires-3 : goal.wipe_range-requires-3
wipe_range-requires-3 c = record { w_len = c.wipe_range-2.ensures.length_is ∙ c.wipe_range.ensures.length_is ∙ c.wipe-3.ensures.length_is ∙ c.wipe-2.ensures.length_is ∙ c.wipe.ensures.length_is ∙ c.requires.w_len; c_bound = omega arith; from_le_until = omega arith; until_le_m = c.requires.groups_le_m; m_le_link_bound = c.requires.m_le_link_bound }

pub wipe_range-requires-4 : goal.wipe_range-requires-4
wipe_range-requires-4 c = record { w_len = c.wipe_range-3.ensures.length_is ∙ c.wipe_range-2.ensures.length_is ∙ c.wipe_range.ensures.length_is ∙ c.wipe-3.ensures.length_is ∙ c.wipe-2.ensures.length_is ∙ c.wipe.ensures.length_is ∙ c.requires.w_len; c_bound = omega arith; from_le_until = omega arith; until_le_m = c.requires.groups_le_m; m_le_link_bound = c.requires.m_le_link_bound }

pub wipe_range-requires-5 : goal.wipe_range-requires-5
wipe_range-requires-5 c = record { w_len = c.wipe_range-4.ensures.length_is ∙ c.wipe_range-3.ensures.length_is ∙ c.wipe_range-2.ensures.length_is ∙ c.wipe_range.ensures.length_is ∙ c.wipe-3.ensures.length_is ∙ c.wipe-2.ensures.length_is ∙ c.wipe.ensures.length_is ∙ c.requires.w_len; c_bound = omega arith; from_le_until = omega arith; until_le_m = c.requires.groups_le_m; m_le_link_bound = c.requires.m_le_link_bound }

pub returns : goal.returns
returns c = forgotten c.requires.blank c.requires.w_len c.wipe.ensures c.wipe-2.ensures c.wipe-3.ensures c.wipe_range.ensures c.wipe_range-2.ensures c.wipe_range-3.ensures c.wipe_range-4.ensures c.wipe_range-5.ensures
