-- `unions::roots::find` meets its contract. Assumes nothing.
use Rattle.unions.specs.Find.{finding_done}
use Rattle.unions.proofs.roots.find.Goals as goal

pub returns : goal.returns
returns c = finding_done (c.requires) c.loop-p.invariant c.loop-p-test.false
