-- `groups::level::mark_one` meets its contract. Assumes nothing.
use Rattle.groups.specs.Marking.{mark_done}
use Rattle.groups.proofs.level.mark_one.Goals as goal

pub returns : goal.returns
returns c = mark_done (c.requires) c.get.ensures.0 c.if-get-k.false c.find-r.ensures c.put.ensures
