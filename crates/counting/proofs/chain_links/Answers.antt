-- `counting::chain_links` meets its contract. Assumes nothing.
use native.Mathlib.Omega.{arith}
use mathlib.Core.Path.{refl, ◌∙◌}
use Rattle.stored.specs.Rows.{few_links, ends_small}
use Rattle.counting.specs.Ends.{chain_head, chained_more}
use Rattle.counting.proofs.chain_links.Goals as goal

pub link_higher-b-requires : goal.link_higher-b-requires
link_higher-b-requires c = record { index = c.args.index.shape.groups_at_lem.is_index; i_bound = omega (arith, c.loop-i-test.true, c.args.index.shape.links) }

pub of-p-requires : goal.of-p-requires
of-p-requires c = chain_head c.args.index.shape.groups_at_lem.is_index c.args.index.shape.links c.loop-i-test.true c.link_higher-b.ensures c.loop-i.invariant

pub put-requires : goal.put-requires
put-requires c = record { c_bound = omega arith; i_lt_m = c.loop-i-test.true; x_lt_entry_bound = c.of-p.ensures.1; w_len = c.loop-i.invariant.length_is ∙ c.requires.size_is }

pub overflow_add-head : goal.overflow_add-head
overflow_add-head c = omega (arith, c.loop-i-test.true, c.args.index.shape.links, few_links c.args.index.shape.groups_at_lem.is_index)

pub overflow_cast-head : goal.overflow_cast-head
overflow_cast-head c = omega (arith, c.loop-i-test.true, c.args.index.shape.links, few_links c.args.index.shape.groups_at_lem.is_index)

pub offset_bounds-head-b : goal.offset_bounds-head-b
offset_bounds-head-b c = omega (arith, c.link_higher-b.ensures, (ends_small c.args.index.shape.groups_at_lem.is_index c.loop-i.i (omega (arith, c.loop-i-test.true, c.args.index.shape.links))).1)

pub bounds-head-b : goal.bounds-head-b
bounds-head-b c = chain_head c.args.index.shape.groups_at_lem.is_index c.args.index.shape.links c.loop-i-test.true c.link_higher-b.ensures c.loop-i.invariant

pub loop-i-preserved : goal.loop-i-preserved
loop-i-preserved c = chained_more c.args.index.shape.groups_at_lem.is_index c.args.index.shape.links c.loop-i-test.true c.link_higher-b.ensures c.requires.size_is c.loop-i.invariant c.of-p.ensures.0 c.put.ensures refl
