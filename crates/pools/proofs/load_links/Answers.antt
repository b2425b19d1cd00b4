-- `pools::load_links` meets its contract. Assumes nothing.
use native.Mathlib.Omega.{arith}
use Rattle.stored.specs.Rows.{shape_sized}
use Rattle.pools.specs.Tops.{linking_in, linking_long, linking_long₁, linking_group, linking_small, linking_more}
use Rattle.pools.proofs.load_links.Goals as goal

pub link_key-requires : goal.link_key-requires
link_key-requires c = record { index = c.args.index.shape.groups_at_lem.is_index; i_bound = linking_in (shape_sized c.args.index.shape) c.requires c.loop-i.invariant c.loop-i-test.true }

pub put-requires : goal.put-requires
put-requires c = record { c_bound = omega arith; i_lt_m = c.loop-i-test.true; x_lt_entry_bound = c.link_key.ensures.1; w_len = linking_long (shape_sized c.args.index.shape) c.requires c.loop-i.invariant c.loop-i-test.true }

pub link_group-g-requires : goal.link_group-g-requires
link_group-g-requires c = record { index = c.args.index.shape.groups_at_lem.is_index; i_bound = linking_in (shape_sized c.args.index.shape) c.requires c.loop-i.invariant c.loop-i-test.true }

pub get-t-requires : goal.get-t-requires
get-t-requires c = record { c_bound = omega arith; i_lt_m = linking_group (shape_sized c.args.index.shape) c.requires c.loop-i.invariant c.loop-i-test.true c.link_key.ensures.0 c.put.ensures c.link_group-g.ensures; w_len = linking_long₁ (shape_sized c.args.index.shape) c.requires c.loop-i.invariant c.loop-i-test.true c.link_key.ensures.0 c.put.ensures }

pub put-requires-in-loop-i : goal.put-requires-in-loop-i
put-requires-in-loop-i c = record { c_bound = omega arith; i_lt_m = c.loop-i-test.true; x_lt_entry_bound = linking_small (shape_sized c.args.index.shape) c.requires c.loop-i.invariant c.loop-i-test.true c.link_key.ensures.0 c.put.ensures c.link_group-g.ensures c.get-t.ensures.0; w_len = linking_long₁ (shape_sized c.args.index.shape) c.requires c.loop-i.invariant c.loop-i-test.true c.link_key.ensures.0 c.put.ensures }

pub loop-i-preserved : goal.loop-i-preserved
loop-i-preserved c = linking_more (shape_sized c.args.index.shape) c.requires c.loop-i.invariant c.loop-i-test.true c.link_key.ensures.0 c.put.ensures c.link_group-g.ensures c.get-t.ensures.0 c.put-in-loop-i.ensures
