-- `stored::rows::group_strength` meets its contract. Assumes nothing.
use native.Mathlib.Omega.{arith}
use mathlib.Core.Path.{◌∙◌, ap}
use Prim.Native.Nat.{ℕ, ◌+◌, ◌*◌}
use Rattle.truss.specs.Record.{byte_at}
use Rattle.stored.specs.Rows.{few, few_links, group_room, group_strength_is}
use Rattle.stored.proofs.rows.group_strength.Goals as goal

pub overflow_mul-g : goal.overflow_mul-g
overflow_mul-g c = omega (arith, few_links c.requires.groups_at.is_index, few c.requires.groups_at.is_index, c.requires.g_bound)

pub overflow_add-at : goal.overflow_add-at
overflow_add-at c = omega (arith, c.requires.groups_at.place, group_room c.requires.groups_at.is_index c.args.g c.requires.g_bound)

pub overflow_add-at-2 : goal.overflow_add-at-2
overflow_add-at-2 c = omega (arith, c.requires.groups_at.place, group_room c.requires.groups_at.is_index c.args.g c.requires.g_bound)

pub bounds-s-at : goal.bounds-s-at
bounds-s-at c = omega (arith, c.requires.groups_at.place, group_room c.requires.groups_at.is_index c.args.g c.requires.g_bound)

pub returns : goal.returns
returns c = (c.from.ensures ∙ ap (λ (x : ℕ). byte_at c.args.s.now (x + 6 * c.args.g + 3)) c.requires.groups_at.place ∙ group_strength_is c.requires.groups_at.is_index c.args.g c.requires.g_bound, omega (arith, c.from.ensures, c.type_inv.s (c.args.at + 6 * c.args.g + 3)))
