-- `pools::top_of` meets its contract. Assumes nothing.
use native.Mathlib.Omega.{arith}
use mathlib.Core.Path.{refl}
use Rattle.stored.specs.Opening.{graph}
use Rattle.stored.specs.Rows.{shape_sized, parent_none, parent_found}
use Rattle.pools.specs.Tops.{top_group, top_weak, top_none, top_below, top_parent, top_on}
use Rattle.pools.proofs.top_of.Goals as goal

pub group_strength-requires : goal.group_strength-requires
group_strength-requires c = record { groups_at = c.args.index.shape.groups_at_lem; g_bound = top_group (shape_sized c.args.index.shape) c.requires }

pub returns-then-group_strength-k : goal.returns-then-group_strength-k
returns-then-group_strength-k c = top_weak (shape_sized c.args.index.shape) c.requires c.group_strength.ensures.0 c.if-group_strength-k.true

pub group_parent-requires : goal.group_parent-requires
group_parent-requires c = record { groups_at = c.args.index.shape.groups_at_lem; g_bound = top_group (shape_sized c.args.index.shape) c.requires }

pub returns-in-None : goal.returns-in-None
returns-in-None c = top_none (shape_sized c.args.index.shape) c.requires c.group_strength.ensures.0 c.if-group_strength-k.false refl (parent_none (graph c.args.index) c.args.g c.group_parent.ensures c.in-None.is)

pub group_strength-requires-in-Some : goal.group_strength-requires-in-Some
group_strength-requires-in-Some c = let P = parent_found (graph c.args.index) c.args.g c.group_parent.ensures c.in-Some.is in record { groups_at = c.args.index.shape.groups_at_lem; g_bound = (top_parent (shape_sized c.args.index.shape) c.requires c.group_strength.ensures.0 c.if-group_strength-k.false P.0 P.1).0 }

pub returns-then-group_strength-k-2 : goal.returns-then-group_strength-k-2
returns-then-group_strength-k-2 c = let P = parent_found (graph c.args.index) c.args.g c.group_parent.ensures c.in-Some.is in top_below (shape_sized c.args.index.shape) c.requires c.group_strength.ensures.0 c.if-group_strength-k.false P.0 c.group_strength-in-Some.ensures.0 c.if-group_strength-k-2.true

pub get-requires : goal.get-requires
get-requires c = let P = parent_found (graph c.args.index) c.args.g c.group_parent.ensures c.in-Some.is in record { c_bound = omega arith; i_lt_m = (top_parent (shape_sized c.args.index.shape) c.requires c.group_strength.ensures.0 c.if-group_strength-k.false P.0 P.1).1; w_len = c.requires.asks.size_is }

pub returns-else-group_strength-k-2 : goal.returns-else-group_strength-k-2
returns-else-group_strength-k-2 c = let P = parent_found (graph c.args.index) c.args.g c.group_parent.ensures c.in-Some.is in top_on (shape_sized c.args.index.shape) c.requires c.group_strength.ensures.0 c.if-group_strength-k.false P.0 P.1 c.group_strength-in-Some.ensures.0 c.if-group_strength-k-2.false c.get.ensures.0
