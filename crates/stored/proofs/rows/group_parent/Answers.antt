-- `stored::rows::group_parent` meets its contract. Assumes nothing.
use native.Mathlib.Omega.{arith}
use mathlib.Core.Path.{◌∙◌, ap}
use Prim.Native.Nat.{ℕ, ◌+◌, ◌*◌}
use Rattle.truss.specs.Record.{field_at}
use Rattle.stored.specs.Rows.{graph_in, few, few_links, group_room, parent_is, parent_not, parent_some}
use Rattle.stored.proofs.rows.group_parent.Goals as goal

pub overflow_mul-g : goal.overflow_mul-g
overflow_mul-g c = omega (arith, few_links c.requires.groups_at.is_index, few c.requires.groups_at.is_index, c.requires.g_bound)

pub overflow_add-at : goal.overflow_add-at
overflow_add-at c = omega (arith, c.requires.groups_at.place, group_room c.requires.groups_at.is_index c.args.g c.requires.g_bound)

pub overflow_add-at-2 : goal.overflow_add-at-2
overflow_add-at-2 c = omega (arith, c.requires.groups_at.place, group_room c.requires.groups_at.is_index c.args.g c.requires.g_bound)

pub field_at-p-requires : goal.field_at-p-requires
field_at-p-requires c = omega (arith, c.requires.groups_at.place, group_room c.requires.groups_at.is_index c.args.g c.requires.g_bound)

pub returns-then-p-eq-NO_GROUP : goal.returns-then-p-eq-NO_GROUP
returns-then-p-eq-NO_GROUP c = parent_not (graph_in c.args.s.now) c.args.g (c.field_at-p.ensures.0 ∙ ap (λ (x : ℕ). field_at c.args.s.now (x + 6 * c.args.g + 1)) c.requires.groups_at.place ∙ parent_is c.requires.groups_at.is_index c.args.g c.requires.g_bound) c.if-p-eq-NO_GROUP.true

pub returns : goal.returns
returns c = parent_some (graph_in c.args.s.now) c.args.g (c.field_at-p.ensures.0 ∙ ap (λ (x : ℕ). field_at c.args.s.now (x + 6 * c.args.g + 1)) c.requires.groups_at.place ∙ parent_is c.requires.groups_at.is_index c.args.g c.requires.g_bound) c.if-p-eq-NO_GROUP.false
