-- `groups::tree::work` meets its contract. Assumes nothing.
use Rattle.groups.specs.Tree.{work_levels, given_fits}
use Rattle.groups.proofs.tree.work.Goals as goal

pub levels-requires : goal.levels-requires
levels-requires c = (c.requires.0, c.requires.1.given.order, given_fits c.requires.1.given, work_levels c.requires.1 c.rows.ensures.rows_gives c.prepare.ensures)

pub returns : goal.returns
returns c = λ G o fits P. c.levels.ensures G o fits (work_levels P c.rows.ensures.rows_gives c.prepare.ensures)
