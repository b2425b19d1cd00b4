-- `listing::rows::put_row` meets its contract. Assumes nothing.
use native.Mathlib.Omega.{arith}
use mathlib.Core.Path.{ap, ◌∙◌}
use mathlib.Core.List.{[], ◌∷◌}
use lib.ListN.{length-set}
use lib.Seq.{sets-eq}
use Rattle.wire.specs.Writing.{written}
use Rattle.stored.specs.Opening.{graph}
use Rattle.stored.specs.Rows.{shape_sized, ends_small, parent_number}
use Rattle.listing.specs.Rows.{row_in, row_room, least_in, parent_small, row_is}
use Rattle.listing.proofs.rows.put_row.Goals as goal

pub group_least-e-requires : goal.group_least-e-requires
group_least-e-requires c = record { groups_at = c.args.index.shape.groups_at_lem; g_bound = row_in (shape_sized c.args.index.shape) c.requires.row_asks }

pub group_strength-requires : goal.group_strength-requires
group_strength-requires c = record { groups_at = c.args.index.shape.groups_at_lem; g_bound = row_in (shape_sized c.args.index.shape) c.requires.row_asks }

pub group_parent-requires : goal.group_parent-requires
group_parent-requires c = record { groups_at = c.args.index.shape.groups_at_lem; g_bound = row_in (shape_sized c.args.index.shape) c.requires.row_asks }

pub overflow_cast-out-2 : goal.overflow_cast-out-2
overflow_cast-out-2 c = omega (arith, parent_small (shape_sized c.args.index.shape) c.requires.row_asks (c.unwrap_or.ensures ∙ parent_number (graph c.args.index) c.args.g c.group_parent.ensures))

pub bounds-out-1 : goal.bounds-out-1
bounds-out-1 c = simp length-set (omega (arith, c.requires.in_bounds))

pub get-requires : goal.get-requires
get-requires c = record { c_bound = omega arith; i_lt_m = row_room (shape_sized c.args.index.shape) c.requires.row_asks; w_len = c.requires.row_asks.all.size_is }

pub bounds-out-2 : goal.bounds-out-2
bounds-out-2 c = simp length-set (omega (arith, c.requires.in_bounds))

pub get-requires-2 : goal.get-requires-2
get-requires-2 c = record { c_bound = omega arith; i_lt_m = row_room (shape_sized c.args.index.shape) c.requires.row_asks; w_len = c.requires.row_asks.all.size_is }

pub bounds-out-3 : goal.bounds-out-3
bounds-out-3 c = simp length-set (omega (arith, c.requires.in_bounds))

pub link_lower-requires : goal.link_lower-requires
link_lower-requires c = record { index = c.args.index.shape.groups_at_lem.is_index; i_bound = least_in (shape_sized c.args.index.shape) c.requires.row_asks c.group_least-e.ensures }

pub overflow_cast-out-5 : goal.overflow_cast-out-5
overflow_cast-out-5 c = omega (arith, c.link_lower.ensures, (ends_small c.args.index.shape.groups_at_lem.is_index c.group_least-e.result (least_in (shape_sized c.args.index.shape) c.requires.row_asks c.group_least-e.ensures)).0)

pub bounds-out-4 : goal.bounds-out-4
bounds-out-4 c = simp length-set (omega (arith, c.requires.in_bounds))

pub link_higher-requires : goal.link_higher-requires
link_higher-requires c = record { index = c.args.index.shape.groups_at_lem.is_index; i_bound = least_in (shape_sized c.args.index.shape) c.requires.row_asks c.group_least-e.ensures }

pub overflow_cast-out-6 : goal.overflow_cast-out-6
overflow_cast-out-6 c = omega (arith, c.link_higher.ensures, (ends_small c.args.index.shape.groups_at_lem.is_index c.group_least-e.result (least_in (shape_sized c.args.index.shape) c.requires.row_asks c.group_least-e.ensures)).1)

pub bounds-out-5 : goal.bounds-out-5
bounds-out-5 c = simp length-set (omega (arith, c.requires.in_bounds))

pub returns : goal.returns
unfolding written
returns c = sets-eq (c.group_strength.result ∷ c.unwrap_or.result ∷ c.get.result ∷ c.get-2.result ∷ c.link_lower.result ∷ c.link_higher.result ∷ []) c.args.out.now 0 c.requires.in_bounds ∙ ap (written c.args.out.now 0) (row_is (shape_sized c.args.index.shape) c.requires.row_asks c.group_strength.ensures.0 (c.unwrap_or.ensures ∙ parent_number (graph c.args.index) c.args.g c.group_parent.ensures) c.get.ensures.0 c.get-2.ensures.0 c.group_least-e.ensures c.link_lower.ensures c.link_higher.ensures)
