-- `stored::rows::link_strength` meets its contract. Assumes nothing.
use native.Mathlib.Omega.{arith}
use mathlib.Core.Path.{◌∙◌}
use Prim.Native.Nat.{◌+◌, ◌*◌}
use Rattle.stored.specs.Rows.{few_links, link_room, strength_is}
use Rattle.stored.proofs.rows.link_strength.Goals as goal

pub overflow_mul-i : goal.overflow_mul-i
overflow_mul-i c = omega (arith, few_links c.requires.index, c.requires.i_bound)

pub overflow_add-i : goal.overflow_add-i
overflow_add-i c = omega (arith, few_links c.requires.index, c.requires.i_bound)

pub overflow_add-i-2 : goal.overflow_add-i-2
overflow_add-i-2 c = omega (arith, few_links c.requires.index, c.requires.i_bound)

pub bounds-s-i : goal.bounds-s-i
bounds-s-i c = omega (arith, link_room c.requires.index c.args.i c.requires.i_bound)

pub returns : goal.returns
returns c = (c.from.ensures ∙ strength_is c.requires.index c.args.i c.requires.i_bound, omega (arith, c.from.ensures, c.type_inv.s (5 + 8 * c.args.i + 5)))
