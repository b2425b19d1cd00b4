-- `question::named::give_groups` meets its contract. Assumes nothing.
use native.Mathlib.Omega.{arith}
use mathlib.Core.Path.{◌∙◌}
use Rattle.question.specs.Links.{shape_few}
use Rattle.question.proofs.named.give_groups.Goals as goal

pub list_groups-r-requires : goal.list_groups-r-requires
list_groups-r-requires c = c.requires

pub give_row-requires : goal.give_row-requires
give_row-requires c = let L = c.list_groups-r.ensures in record { size_is = L.length_is ∙ c.requires; part = omega (arith, L.part, (shape_few c.args.index.shape).0); few = (shape_few c.args.index.shape).1 }

pub returns : goal.returns
returns c = let L = c.list_groups-r.ensures in rw (← L.row) c.give_row.ensures
