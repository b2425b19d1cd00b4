-- `pools::find_tops` meets its contract. Assumes nothing.
use native.Mathlib.Omega.{arith}
use Rattle.stored.specs.Rows.{shape_sized}
use Rattle.pools.specs.Tops.{topping_none, topping_asks, topping_place, topping_more, topping_all, top_small}
use Rattle.pools.proofs.find_tops.Goals as goal

pub loop-g-init : goal.loop-g-init
loop-g-init c = topping_none

pub top_of-t-requires : goal.top_of-t-requires
top_of-t-requires c = topping_asks (shape_sized c.args.index.shape) c.requires c.loop-g.invariant c.loop-g-test.true c.loop-g.auto.g

pub put-requires : goal.put-requires
put-requires c = record { c_bound = omega arith; i_lt_m = topping_place (shape_sized c.args.index.shape) c.requires c.loop-g.invariant c.loop-g-test.true c.loop-g.auto.g; x_lt_entry_bound = rw c.unwrap_or.ensures (top_small c.args.index.shape.groups_at_lem.is_index c.top_of-t.ensures); w_len = (topping_asks (shape_sized c.args.index.shape) c.requires c.loop-g.invariant c.loop-g-test.true c.loop-g.auto.g).asks.size_is }

pub loop-g-preserved : goal.loop-g-preserved
loop-g-preserved c = topping_more (shape_sized c.args.index.shape) c.requires c.loop-g.invariant c.loop-g-test.true c.loop-g.auto.g {t = c.unwrap_or.result} (rw c.unwrap_or.ensures c.top_of-t.ensures) c.put.ensures

pub returns : goal.returns
returns c = topping_all c.loop-g-test.false c.loop-g.invariant
