-- `counting::touch_link` meets its contract. Assumes nothing.
use Rattle.stored.specs.Rows.{shape_sized}
use Rattle.counting.specs.Touching.{own-from, link_gives}
use native.Mathlib.Omega.{arith}
use Rattle.counting.proofs.touch_link.Goals as goal

pub link_group-g-requires : goal.link_group-g-requires
link_group-g-requires c = record { index = c.args.index.shape.groups_at_lem.is_index; i_bound = omega (arith, c.requires.i_lt_m, c.args.index.shape.links) }

pub touch_up-requires : goal.touch_up-requires
touch_up-requires c = record { g_lt_count = own-from (shape_sized c.args.index.shape) c.requires.i_lt_m c.link_group-g.ensures; lt_c = c.requires.lt_c; c_bound = c.requires.c_bound; w_len = c.requires.w_len; small = c.requires.small; closed = c.requires.closed; r_bound = c.requires.r_bound }

pub returns : goal.returns
returns c = link_gives (shape_sized c.args.index.shape) c.requires.i_lt_m c.link_group-g.ensures c.touch_up.ensures
