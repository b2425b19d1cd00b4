-- `stored::find::find_pair` meets its contract. Assumes nothing.
use mathlib.Core.Path.{sym, ◌∙◌}
use native.Mathlib.Omega.{arith}
use Rattle.stored.specs.Rows.{graph_in}
use Rattle.stored.specs.Find.{before_none, before_more, found_is, none_is}
use Rattle.stored.proofs.find.find_pair.Goals as goal

pub loop-i-init : goal.loop-i-init
loop-i-init c = before_none (graph_in c.args.s.now) c.args.lo c.args.hi

pub returns-then-has_ends : goal.returns-then-has_ends
returns-then-has_ends c = found_is (graph_in c.args.s.now) c.args.lo c.args.hi (omega (arith, c.requires.s_value, c.loop-i-test.true)) c.loop-i.invariant (sym c.has_ends.ensures ∙ c.if-has_ends.true)

pub loop-i-preserved : goal.loop-i-preserved
loop-i-preserved c = before_more (graph_in c.args.s.now) c.args.lo c.args.hi c.loop-i.invariant (sym c.has_ends.ensures ∙ c.if-has_ends.false)

pub returns : goal.returns
returns c = none_is (graph_in c.args.s.now) c.args.lo c.args.hi c.requires.s_value (omega arith) c.loop-i.invariant
