-- `groups::level::number_roots` meets its contract. Assumes nothing.
use Rattle.groups.specs.Numbering.{numbers_one, numbers_more}
use Rattle.groups.proofs.level.number_roots.Goals as goal

pub number_one-g-requires : goal.number_one-g-requires
number_one-g-requires c = (c.requires.0, c.requires.1, c.requires.2, c.requires.3, numbers_one c.requires.4 c.loop-r.invariant c.loop-r-test.true)

pub loop-r-preserved : goal.loop-r-preserved
loop-r-preserved c = numbers_more c.loop-r.invariant c.loop-r-test.true c.number_one-g.ensures
