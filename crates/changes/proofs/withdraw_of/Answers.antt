-- `changes::withdraw_of` meets its contract. Assumes nothing.
use mathlib.Core.Path.{sym, ◌∙◌}
use native.Mathlib.Omega.{arith}
use lib.Seq.{length-take-le}
use Rattle.limits.specs.Refusals.{number_of}
use Rattle.truss.specs.Changes.{withdraw_outside}
use Rattle.stored.specs.Rows.{few_links}
use Rattle.changes.specs.Calls.{alters_not, first_outside, second_outside, faulty_11, found_below, take_asks}
use Rattle.changes.proofs.withdraw_of.Goals as goal

pub returns-then-index-a : goal.returns-then-index-a
unfolding number_of
returns-then-index-a c = alters_not c.args.out.now _ (withdraw_outside (first_outside c.args.index.shape c.args.a c.args.b c.if-index-a.true))

pub returns-then-index-b : goal.returns-then-index-b
unfolding number_of
returns-then-index-b c = alters_not c.args.out.now _ (withdraw_outside (second_outside c.args.index.shape c.args.a c.args.b c.if-index-b.true))

pub returns-in-None : goal.returns-in-None
unfolding number_of
returns-in-None c = alters_not c.args.out.now _ (faulty_11 c.args.index.shape c.args.a c.args.b c.if-index-a.false c.if-index-b.false c.find_link.ensures c.in-None.is)

pub overflow_sub-size : goal.overflow_sub-size
overflow_sub-size c = omega (arith, found_below c.args.index.shape c.args.a c.args.b c.find_link.ensures c.in-Some.is)

pub overflow_mul-size : goal.overflow_mul-size
overflow_mul-size c = omega (arith, c.args.index.shape.links, few_links c.args.index.shape.groups_at_lem.is_index)

pub slice_bounds-build_without-end : goal.slice_bounds-build_without-end
slice_bounds-build_without-end c = omega (arith, c.requires, c.args.index.shape.links, few_links c.args.index.shape.groups_at_lem.is_index)

pub slice_bounds-build_without-end-in-Some : goal.slice_bounds-build_without-end-in-Some
slice_bounds-build_without-end-in-Some c = sym (length-take-le _ _ (omega (arith, c.requires, c.args.index.shape.links, few_links c.args.index.shape.groups_at_lem.is_index)))

pub build_without-requires : goal.build_without-requires
build_without-requires c = take_asks c.args.index.shape c.args.a c.args.b c.find_link.ensures c.in-Some.is (length-take-le _ _ (omega (arith, c.requires, c.args.index.shape.links, few_links c.args.index.shape.groups_at_lem.is_index)))
