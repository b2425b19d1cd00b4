-- `holding::marks::lift_column` meets its contract. Assumes nothing.
use mathlib.Core.Path.{◌∙◌}
use Rattle.stored.specs.Rows.{shape_sized}
use Rattle.holding.specs.Turns.{lift_more, lift_done}
use Rattle.holding.proofs.marks.lift_column.Goals as goal

pub lift-requires : goal.lift-requires
lift-requires c = record { w_len = c.loop-g.invariant.only.length_is ∙ c.requires.w_len; c_bound = c.requires.c_bound; g_lt_count = c.loop-g-test.true }

pub loop-g-preserved : goal.loop-g-preserved
loop-g-preserved c = lift_more (shape_sized c.args.index.shape) c.loop-g-test.true c.requires.c_bound c.requires.w_len c.loop-g.invariant c.lift.ensures

pub returns : goal.returns
returns c = lift_done (shape_sized c.args.index.shape) c.loop-g.invariant c.loop-g-test.false c.loop-g.auto.g-end
