-- `holding::marks::lift_all` meets its contract. Assumes nothing.
use native.Mathlib.Omega.{arith}
use mathlib.Core.Path.{◌∙◌}
use Rattle.holding.specs.Turns.{lift_all_more}
use Rattle.stored.specs.Rows.{shape_sized, sized_few}
use Rattle.holding.proofs.marks.lift_all.Goals as goal

pub lift_column-requires : goal.lift_column-requires
lift_column-requires c = record { w_len = c.loop-c.invariant.length_is ∙ c.requires.w_len; c_bound = omega (arith, c.loop-c-test.true, c.requires.d_bound) }

pub loop-c-preserved : goal.loop-c-preserved
loop-c-preserved c = lift_all_more (sized_few (shape_sized c.args.index.shape)).0 c.loop-c.invariant c.lift_column.ensures
