-- `stored::rows::link_higher` meets its contract. Assumes nothing.
use native.Mathlib.Omega.{arith}
use mathlib.Core.Path.{◌∙◌}
use Rattle.stored.specs.Rows.{few_links, link_room, higher_is}
use Rattle.stored.proofs.rows.link_higher.Goals as goal

pub overflow_mul-i : goal.overflow_mul-i
overflow_mul-i c = omega (arith, few_links c.requires.index, c.requires.i_bound)

pub overflow_add-i : goal.overflow_add-i
overflow_add-i c = omega (arith, few_links c.requires.index, c.requires.i_bound)

pub overflow_add-i-2 : goal.overflow_add-i-2
overflow_add-i-2 c = omega (arith, few_links c.requires.index, c.requires.i_bound)

pub field_at-requires : goal.field_at-requires
field_at-requires c = omega (arith, link_room c.requires.index c.args.i c.requires.i_bound)

pub returns : goal.returns
returns c = c.field_at.ensures.0 ∙ higher_is c.requires.index c.args.i c.requires.i_bound
