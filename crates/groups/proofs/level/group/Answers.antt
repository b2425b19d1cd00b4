-- `groups::level::group` meets its contract. Assumes nothing.
use Rattle.groups.specs.Level.{group_numbers, group_names, group_adopts, group_gives}
use Rattle.groups.proofs.level.group.Goals as goal

pub number_roots-groups-requires : goal.number_roots-groups-requires
number_roots-groups-requires c = (c.requires.0, c.requires.1, c.requires.2, c.requires.3, group_numbers c.mark_roots.ensures c.requires.4)

pub name_groups-requires : goal.name_groups-requires
name_groups-requires c = (c.requires.0, c.requires.1, c.requires.2, c.requires.3, group_names c.mark_roots.ensures c.number_roots-groups.ensures c.requires.4)

pub adopt-requires : goal.adopt-requires
adopt-requires c = (c.requires.0, c.requires.1, c.requires.2, c.requires.3, group_adopts c.mark_roots.ensures c.number_roots-groups.ensures c.name_groups.ensures c.requires.4)

pub returns : goal.returns
returns c = group_gives c.mark_roots.ensures c.number_roots-groups.ensures c.name_groups.ensures c.adopt.ensures
