-- `question::named::is_group_at` meets its contract. Assumes nothing.
use native.Mathlib.Omega.{arith}
use Rattle.stored.specs.Rows.{parent_of, parent_none, parent_found, shape_sized}
use Rattle.stored.specs.Opening.{graph}
use Rattle.std.proofs.Math.Path.{refl}
use Rattle.question.specs.Named.{level_weak, level_top, level_parent, level_parent_in}
use Rattle.question.proofs.named.is_group_at.Goals as goal

pub group_strength-requires : goal.group_strength-requires
group_strength-requires c = let S = c.args.index.shape in record { groups_at = S.groups_at_lem; g_bound = omega (arith, c.requires.g_lt_count, S.groups) }

pub returns-then-group_strength-k : goal.returns-then-group_strength-k
returns-then-group_strength-k c = level_weak (shape_sized c.args.index.shape) c.args.k c.args.g c.requires.min_level_le_k c.requires.g_lt_count c.group_strength.ensures.0 c.if-group_strength-k.true

pub group_parent-requires : goal.group_parent-requires
group_parent-requires c = let S = c.args.index.shape in record { groups_at = S.groups_at_lem; g_bound = omega (arith, c.requires.g_lt_count, S.groups) }

pub returns-in-None : goal.returns-in-None
returns-in-None c = level_top (shape_sized c.args.index.shape) c.args.k c.args.g c.requires.min_level_le_k c.requires.g_lt_count {p = parent_of (graph c.args.index) c.args.g} c.group_strength.ensures.0 c.if-group_strength-k.false refl (parent_none (graph c.args.index) c.args.g c.group_parent.ensures c.in-None.is)

pub group_strength-requires-in-Some : goal.group_strength-requires-in-Some
group_strength-requires-in-Some c = let S = c.args.index.shape in let P = parent_found (graph c.args.index) c.args.g c.group_parent.ensures c.in-Some.is in record { groups_at = S.groups_at_lem; g_bound = level_parent_in (shape_sized S) c.args.k c.args.g c.requires.min_level_le_k c.requires.g_lt_count P.0 P.1 }

pub returns-in-Some : goal.returns-in-Some
returns-in-Some c = let P = parent_found (graph c.args.index) c.args.g c.group_parent.ensures c.in-Some.is in level_parent (shape_sized c.args.index.shape) c.args.k c.args.g c.requires.min_level_le_k c.requires.g_lt_count c.group_strength.ensures.0 c.if-group_strength-k.false P.0 P.1 c.group_strength-in-Some.ensures.0
