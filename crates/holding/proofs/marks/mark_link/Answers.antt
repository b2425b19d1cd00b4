-- `holding::marks::mark_link` meets its contract. Assumes nothing.
use native.Mathlib.Omega.{arith}
use mathlib.Core.Path.{◌∙◌}
use Rattle.stored.specs.Rows.{shape_sized, sized_few}
use Rattle.holding.specs.Turns.{own_in, own_more, ends_below}
use Rattle.holding.proofs.marks.mark_link.Goals as goal

pub column_of-p-requires : goal.column_of-p-requires
column_of-p-requires c = omega (arith, c.link_lower-a.ensures, (ends_below c.args.index.shape.groups_at_lem.is_index c.args.i (omega (arith, c.args.index.shape.links, c.requires.i_lt_m))).0, c.requires.mark_given.room)

pub mark-requires : goal.mark-requires
mark-requires c = record { w_len = c.requires.own_marks.within.size; g_lt_m = omega (arith, own_in (shape_sized c.args.index.shape) c.requires.mark_given c.requires.own_marks c.requires.i_lt_m c.link_group-g.ensures, (sized_few (shape_sized c.args.index.shape)).0); rank_bound = omega (arith, c.column_of-p.ensures, c.requires.mark_given.columns, c.requires.mark_given.most c.link_lower-a.result (omega (arith, c.link_lower-a.ensures, (ends_below c.args.index.shape.groups_at_lem.is_index c.args.i (omega (arith, c.args.index.shape.links, c.requires.i_lt_m))).0))) }

pub column_of-q-requires : goal.column_of-q-requires
column_of-q-requires c = omega (arith, c.link_higher-b.ensures, (ends_below c.args.index.shape.groups_at_lem.is_index c.args.i (omega (arith, c.args.index.shape.links, c.requires.i_lt_m))).1, c.requires.mark_given.room)

pub mark-requires-2 : goal.mark-requires-2
mark-requires-2 c = record { w_len = c.mark.ensures.length_is ∙ c.requires.own_marks.within.size; g_lt_m = omega (arith, own_in (shape_sized c.args.index.shape) c.requires.mark_given c.requires.own_marks c.requires.i_lt_m c.link_group-g.ensures, (sized_few (shape_sized c.args.index.shape)).0); rank_bound = omega (arith, c.column_of-q.ensures, c.requires.mark_given.columns, c.requires.mark_given.most c.link_higher-b.result (omega (arith, c.link_higher-b.ensures, (ends_below c.args.index.shape.groups_at_lem.is_index c.args.i (omega (arith, c.args.index.shape.links, c.requires.i_lt_m))).1))) }

pub returns : goal.returns
returns c = own_more (shape_sized c.args.index.shape) c.requires.mark_given c.requires.own_marks c.requires.i_lt_m c.link_group-g.ensures c.link_lower-a.ensures c.link_higher-b.ensures c.column_of-p.ensures c.column_of-q.ensures c.mark.ensures c.mark-2.ensures
