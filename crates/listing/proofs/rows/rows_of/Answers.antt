-- `listing::rows::rows_of` meets its contract. Assumes nothing.
use native.Mathlib.Omega.{arith}
use Rattle.stored.specs.Rows.{shape_sized, sized_few}
use Rattle.stored.specs.Opening.{graph}
use Rattle.listing.specs.Rows.{lists_12, lists-wrote, counted_rows}
use Rattle.listing.proofs.rows.rows_of.Goals as goal

pub overflow_mul-len : goal.overflow_mul-len
overflow_mul-len c = omega (arith, sized_few (shape_sized c.args.index.shape))

pub returns-then-out-len : goal.returns-then-out-len
returns-then-out-len c = lists_12 (graph c.args.index) c.args.out.now c.args.index.shape.groups c.if-out-len.true

pub put_rows-requires : goal.put_rows-requires
put_rows-requires c = record { rows_asks = counted_rows c.requires c.count_all.ensures; count_in_bounds = c.if-out-len.false }

pub overflow_cast-result : goal.overflow_cast-result
overflow_cast-result c = omega (arith, sized_few (shape_sized c.args.index.shape))

pub returns : goal.returns
returns c = lists-wrote (graph c.args.index) c.args.out.now c.args.index.shape.groups c.if-out-len.false c.put_rows.ensures
