-- `stored::climb::climb` meets its contract. Assumes nothing.
use native.Mathlib.Omega.{arith}
use mathlib.Core.Path.{refl}
use Rattle.stored.specs.Rows.{graph_in, parent_none, parent_found}
use Rattle.stored.specs.Climb.{climb_top, climb_weak, parent_in, climb_on, climb_falls, climbed_on}
use Rattle.stored.proofs.climb.climb.Goals as goal

pub loop-p-init : goal.loop-p-init
loop-p-init c = (c.requires, λ r C. C)

pub group_parent-requires : goal.group_parent-requires
group_parent-requires c = record { groups_at = c.loop-p.invariant.0.groups_at_lem; g_bound = omega (arith, c.loop-p.invariant.0.in_range, c.loop-p.invariant.0.groups) }

pub group_strength-requires : goal.group_strength-requires
group_strength-requires c = let P = parent_found (graph_in c.args.s.now) _ c.group_parent.ensures c.in-Some.is in record { groups_at = c.loop-p.invariant.0.groups_at_lem; g_bound = parent_in c.loop-p.invariant.0 P.0 P.1 }

pub returns-then-group_strength-k : goal.returns-then-group_strength-k
returns-then-group_strength-k c = let P = parent_found (graph_in c.args.s.now) _ c.group_parent.ensures c.in-Some.is in c.loop-p.invariant.1 _ (climb_weak c.loop-p.invariant.0 P.0 c.group_strength.ensures.0 (omega (arith, c.if-group_strength-k.true)))

pub loop-p-smaller : goal.loop-p-smaller
loop-p-smaller c = let P = parent_found (graph_in c.args.s.now) _ c.group_parent.ensures c.in-Some.is in climb_falls c.loop-p.invariant.0 P.0 P.1

pub loop-p-preserved : goal.loop-p-preserved
loop-p-preserved c = let P = parent_found (graph_in c.args.s.now) _ c.group_parent.ensures c.in-Some.is in (climb_on c.loop-p.invariant.0 P.0 P.1 c.group_strength.ensures.0 c.if-group_strength-k.false, λ r C. c.loop-p.invariant.1 r (climbed_on c.loop-p.invariant.0 P.0 P.1 C))

pub returns : goal.returns
returns c = c.loop-p.invariant.1 _ (climb_top c.loop-p.invariant.0 refl (parent_none (graph_in c.args.s.now) _ c.group_parent.ensures c.in_default.is))
