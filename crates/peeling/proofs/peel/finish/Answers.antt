-- `peeling::peel::finish` meets its contract. Assumes nothing.
use Rattle.peeling.specs.Drain.{full}
use Rattle.peeling.proofs.peel.finish.Goals as goal

pub returns-then-all-tail : goal.returns-then-all-tail
returns-then-all-tail c = full c.if-all-tail.true c.wipe.ensures
