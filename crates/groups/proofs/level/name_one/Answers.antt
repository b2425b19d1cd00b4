-- `groups::level::name_one` meets its contract. Assumes nothing.
use Rattle.groups.specs.Naming.{name_done}
use Rattle.groups.proofs.level.name_one.Goals as goal

pub returns : goal.returns
returns c = name_done c.get.ensures.0 c.if-get-k.false c.find-r.ensures (c.requires) c.get-g.ensures.0 c.put.ensures
