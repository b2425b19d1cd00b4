-- `question::links::in_one_group` meets its contract. Assumes nothing.
use Rattle.question.specs.Links.{joined_by}
use Rattle.question.proofs.links.in_one_group.Goals as goal

pub group_at-g-requires : goal.group_at-g-requires
group_at-g-requires c = let S = c.args.index.shape in record { groups_at = S.groups_at_lem; s_value = S.groups; min_level_le_k = c.requires.min_level_le_k; i_bound = c.requires.e_bound }

pub group_at-requires : goal.group_at-requires
group_at-requires c = let S = c.args.index.shape in record { groups_at = S.groups_at_lem; s_value = S.groups; min_level_le_k = c.requires.min_level_le_k; i_bound = c.requires.f_bound }

pub returns : goal.returns
returns c = joined_by c.args.index.shape.groups_at_lem.is_index c.requires.min_level_le_k c.requires.e_bound c.requires.f_bound c.requires.k_bound c.group_at-g.ensures c.group_at.ensures
