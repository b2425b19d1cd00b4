-- `stored::find::has_ends` meets its contract. Assumes nothing.
use Rattle.stored.specs.Rows.{graph_in}
use Rattle.stored.specs.Find.{other_lower, by_higher}
use Rattle.stored.proofs.find.has_ends.Goals as goal

pub returns-then-link_lower-lo : goal.returns-then-link_lower-lo
returns-then-link_lower-lo c = other_lower (graph_in c.args.s.now) c.args.lo c.args.hi c.args.i c.link_lower.ensures c.if-link_lower-lo.true

pub returns : goal.returns
returns c = by_higher (graph_in c.args.s.now) c.args.lo c.args.hi c.args.i c.link_lower.ensures c.if-link_lower-lo.false c.link_higher.ensures
