-- `groups::level::adopt` meets its contract. Assumes nothing.
use Rattle.groups.specs.Naming.{adopts_one, adopts_more}
use Rattle.groups.proofs.level.adopt.Goals as goal

pub adopt_one-requires : goal.adopt_one-requires
adopt_one-requires c = (c.requires.0, c.requires.1, c.args.count, c.requires.2, c.requires.3, adopts_one c.requires.4 c.loop-g.invariant c.loop-g-test.true)

pub loop-g-preserved : goal.loop-g-preserved
loop-g-preserved c = adopts_more c.loop-g.invariant c.loop-g-test.true c.adopt_one.ensures
