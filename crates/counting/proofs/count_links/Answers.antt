-- `counting::count_links` meets its contract. Assumes nothing.
use native.Mathlib.Omega.{arith}
use Prim.Native.Nat.{◌<◌}
use Rattle.stored.specs.Rows.{shape_sized, sized_few}
use Rattle.counting.specs.Touching.{both_then}
use Rattle.counting.specs.Counting.{links_more, rounds_closed}
use Rattle.counting.specs.Gives.{rounds_small}
use Rattle.counting.proofs.count_links.Goals as goal

pub overflow_add-i : goal.overflow_add-i
overflow_add-i c = omega (arith, c.loop-i-test.true, (sized_few (shape_sized c.args.index.shape)).1)

pub touch_link-requires : goal.touch_link-requires
touch_link-requires c = let R = c.loop-i.invariant.1 in let l : c.loop-i.i < 65535 = omega (arith, c.loop-i-test.true, (sized_few (shape_sized c.args.index.shape)).1) in record { i_lt_m = c.loop-i-test.true; lt_c = omega arith; c_bound = omega arith; w_len = R.size_is; small = rounds_small l R; closed = rounds_closed c.args.index.bytes.now R; r_bound = omega (arith, l) }

pub loop-i-preserved : goal.loop-i-preserved
loop-i-preserved c = (both_then c.loop-i.invariant.0 c.touch_link.ensures.both, links_more c.loop-i.invariant.1 c.touch_link.ensures)
