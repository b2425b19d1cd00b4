-- `stored::climb::group_at` meets its contract. Assumes nothing.
use Rattle.stored.specs.Climb.{own_weak, own_asks, own_climbed}
use Rattle.stored.proofs.climb.group_at.Goals as goal

pub returns-then-link_strength-k : goal.returns-then-link_strength-k
returns-then-link_strength-k c = own_weak c.requires.groups_at c.requires.s_value c.requires.min_level_le_k c.requires.i_bound c.link_strength.ensures.0 c.if-link_strength-k.true

pub climb-requires : goal.climb-requires
climb-requires c = own_asks c.requires.groups_at c.requires.s_value c.requires.min_level_le_k c.requires.i_bound c.link_strength.ensures.0 c.if-link_strength-k.false c.link_group-g.ensures

pub returns : goal.returns
returns c = own_climbed c.requires.groups_at c.requires.s_value c.requires.min_level_le_k c.requires.i_bound c.link_strength.ensures.0 c.if-link_strength-k.false c.link_group-g.ensures c.climb.ensures
