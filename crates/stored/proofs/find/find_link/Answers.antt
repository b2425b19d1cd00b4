-- `stored::find::find_link` meets its contract. Assumes nothing.
use mathlib.Core.Path.{◌∙◌, ap}
use Rattle.stored.specs.Rows.{graph_in}
use Rattle.stored.specs.Find.{number_there, link_lower_first, link_higher_first}
use Rattle.stored.proofs.find.find_link.Goals as goal

pub returns-then-a-b : goal.returns-then-a-b
returns-then-a-b c = c.find_pair.ensures ∙ ap (number_there (graph_in c.args.s.now)) (link_lower_first c.args.a c.args.b c.if-a-b.true)

pub returns : goal.returns
returns c = c.find_pair-2.ensures ∙ ap (number_there (graph_in c.args.s.now)) (link_higher_first c.args.a c.args.b c.if-a-b.false)
