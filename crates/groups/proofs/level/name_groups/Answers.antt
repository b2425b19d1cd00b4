-- `groups::level::name_groups` meets its contract. Assumes nothing.
use Rattle.groups.specs.Naming.{names_one, names_more}
use Rattle.groups.proofs.level.name_groups.Goals as goal

pub name_one-requires : goal.name_one-requires
name_one-requires c = (c.requires.0, c.requires.1, c.requires.2, c.requires.3, names_one c.requires.4 c.loop-e.invariant c.loop-e-test.true)

pub loop-e-preserved : goal.loop-e-preserved
loop-e-preserved c = names_more c.loop-e.invariant c.loop-e-test.true c.name_one.ensures
