-- `groups::tree::levels` meets its contract. Assumes nothing.
use Rattle.groups.specs.Tree.{levels-first, tree_level, tree_group, tree_less, tree_next, tree_lone, tree_end}
use native.Mathlib.Omega.{arith}
use mathlib.Core.Path.{refl, ◌∙◌}
use borrow.Author.Rules.{rules}
use Rattle.groups.proofs.tree.levels.Goals as goal

pub loop-k-init : goal.loop-k-init
loop-k-init c = (refl, refl, λ G o fits P. levels-first P c.top-k.ensures)

pub level-joins-requires : goal.level-joins-requires
level-joins-requires c = (c.requires.0, tree_level (c.loop-k.invariant.2 c.requires.0 c.requires.1 c.requires.2 c.requires.3) c.loop-k-test.true c.requires.3.rows (omega (arith, c.loop-k.invariant.1, c.requires.3.wide)))

pub group-groups-requires : goal.group-groups-requires
group-groups-requires c = (c.requires.0, c.args.n, c.requires.1, c.requires.2, tree_group (c.loop-k.invariant.2 c.requires.0 c.requires.1 c.requires.2 c.requires.3) c.loop-k-test.true c.requires.3.rows (omega (arith, c.loop-k.invariant.1, c.requires.3.wide)) c.level-joins.ensures.level_gives)

pub loop-k-smaller : goal.loop-k-smaller
loop-k-smaller c = tree_less (c.loop-k.invariant.2 c.requires.0 c.requires.1 c.requires.2 c.requires.3) c.loop-k-test.true c.requires.3.rows (omega (arith, c.loop-k.invariant.1, c.requires.3.wide)) c.level-joins.ensures.level_gives c.group-groups.ensures c.top-k-in-loop-k.ensures

pub loop-k-preserved : goal.loop-k-preserved
loop-k-preserved c = (c.group-groups.ensures.steady.frame.length_is ∙ c.level-joins.ensures.level_gives.frame.length_is ∙ c.loop-k.invariant.0, search rules, λ G o fits P. tree_next (c.loop-k.invariant.2 G o fits P) c.loop-k-test.true P.rows (omega (arith, c.loop-k.invariant.1, P.wide)) c.level-joins.ensures.level_gives c.group-groups.ensures c.top-k-in-loop-k.ensures)

pub group-groups-requires-2 : goal.group-groups-requires-2
group-groups-requires-2 c = (c.requires.0, c.args.n, c.requires.1, c.requires.2, tree_lone (c.loop-k.invariant.2 c.requires.0 c.requires.1 c.requires.2 c.requires.3) (omega (arith, c.loop-k-test.false)))

pub returns : goal.returns
returns c = λ G o fits P. tree_end (c.loop-k.invariant.2 G o fits P) (omega (arith, c.loop-k-test.false)) c.group-groups-2.ensures
