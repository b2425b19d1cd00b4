-- `holding::marks::lift` meets its contract. Assumes nothing.
use native.Mathlib.Omega.{arith}
use Rattle.holding.specs.Turns.{lift_unmarked, lift_top, lift_marked, lift_parent}
use mathlib.Core.Path.{refl}
use Rattle.stored.specs.Opening.{graph}
use Rattle.stored.specs.Rows.{shape_sized, sized_few, parent_none, parent_found}
use Rattle.holding.proofs.marks.lift.Goals as goal

pub get-requires : goal.get-requires
get-requires c = record { c_bound = c.requires.c_bound; i_lt_m = omega (arith, c.requires.g_lt_count, (sized_few (shape_sized c.args.index.shape)).0); w_len = c.requires.w_len }

pub returns-then-get-eq0 : goal.returns-then-get-eq0
returns-then-get-eq0 c = lift_unmarked c.get.ensures.0 c.if-get-eq0.true

pub group_parent-requires : goal.group_parent-requires
group_parent-requires c = record { groups_at = c.args.index.shape.groups_at_lem; g_bound = omega (arith, c.requires.g_lt_count, c.args.index.shape.groups) }

pub put-requires : goal.put-requires
put-requires c = let P = parent_found (graph c.args.index) c.args.g c.group_parent.ensures c.in-Some.is in record { c_bound = c.requires.c_bound; i_lt_m = omega (arith, lift_parent (shape_sized c.args.index.shape) c.requires.g_lt_count P.0 P.1, (sized_few (shape_sized c.args.index.shape)).0); x_lt_entry_bound = omega arith; w_len = c.requires.w_len }

pub returns-in-Some : goal.returns-in-Some
returns-in-Some c = let P = parent_found (graph c.args.index) c.args.g c.group_parent.ensures c.in-Some.is in lift_marked c.get.ensures.0 c.if-get-eq0.false P.0 P.1 c.put.ensures

pub returns-in_default : goal.returns-in_default
returns-in_default c = lift_top refl (parent_none (graph c.args.index) c.args.g c.group_parent.ensures c.in_default.is)
