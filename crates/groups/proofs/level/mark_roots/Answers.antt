-- `groups::level::mark_roots` meets its contract. Assumes nothing.
use Rattle.groups.specs.Marking.{marks_one, marks_more}
use Rattle.groups.proofs.level.mark_roots.Goals as goal

pub mark_one-requires : goal.mark_one-requires
mark_one-requires c = (c.requires.0, c.requires.1, marks_one c.requires.2 c.loop-e.invariant c.loop-e-test.true)

pub loop-e-preserved : goal.loop-e-preserved
loop-e-preserved c = marks_more c.loop-e.invariant c.loop-e-test.true c.mark_one.ensures
