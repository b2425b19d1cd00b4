-- `question::links::joined_up_to` meets its contract. Assumes nothing.
use native.Mathlib.Omega.{arith}
use Rattle.stored.specs.Opening.{graph}
use Rattle.question.specs.Links.{none_from_start, none_from_more, joined_found, joined_nowhere}
use Rattle.question.proofs.links.joined_up_to.Goals as goal

pub link_strength-most-requires : goal.link_strength-most-requires
link_strength-most-requires c = record { index = c.args.index.shape.groups_at_lem.is_index; i_bound = c.requires.e_bound }

pub loop-k-init : goal.loop-k-init
loop-k-init c = none_from_start (graph c.args.index) c.args.e c.args.f c.link_strength-most.ensures.0

pub in_one_group-requires : goal.in_one_group-requires
in_one_group-requires c = record { min_level_le_k = omega arith; e_bound = c.requires.e_bound; f_bound = c.requires.f_bound; k_bound = omega (arith, c.link_strength-most.ensures.0) }

pub returns-then-in_one_group : goal.returns-then-in_one_group
returns-then-in_one_group c = record { is = λ x y mx qx qy. joined_found (graph c.args.index) x y mx qx qy (omega arith) (omega arith) c.loop-k.invariant c.in_one_group.ensures c.if-in_one_group.true; small = omega (arith, c.link_strength-most.ensures.1) }

pub loop-k-preserved : goal.loop-k-preserved
loop-k-preserved c = none_from_more (graph c.args.index) c.args.e c.args.f (omega arith) c.loop-k.invariant c.in_one_group.ensures c.if-in_one_group.false

pub returns : goal.returns
returns c = record { is = λ x y mx qx qy. joined_nowhere (graph c.args.index) x y mx qx qy (omega arith) c.loop-k.invariant; small = omega arith }
