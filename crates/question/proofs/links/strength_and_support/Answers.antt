-- `question::links::strength_and_support` meets its contract. Assumes nothing.
use native.Mathlib.Omega.{arith}
use mathlib.Core.Path.{sym, ◌∙◌}
use Rattle.question.specs.Links.{firmness_known, strength_known, known_strength, no_strength}
use Rattle.question.proofs.links.strength_and_support.Goals as goal

pub link_strength-t-requires : goal.link_strength-t-requires
link_strength-t-requires c = record { index = c.args.index.shape.groups_at_lem.is_index; i_bound = c.requires }

pub support_at-x-requires : goal.support_at-x-requires
support_at-x-requires c = let S = c.args.index.shape in record { index = S.groups_at_lem.is_index; s_value = S.links; e_lt_m = omega (arith, S.links, c.requires); k_bound = omega (arith, c.link_strength-t.ensures.0) }

pub overflow_cast-result-in-Some : goal.overflow_cast-result-in-Some
overflow_cast-result-in-Some c = omega (arith, c.support_at-x.ensures.1)

pub overflow_cast-result : goal.overflow_cast-result
overflow_cast-result c = let r = strength_known c.args.index.shape.groups_at_lem.is_index c.requires c.link_strength-t.ensures.0 in omega (arith, c.number.ensures, known_strength (sym c.of.ensures ∙ c.in-Some.is) r, r.1)

pub returns-in-Some : goal.returns-in-Some
returns-in-Some c = firmness_known c.args.index.shape.groups_at_lem.is_index c.requires c.link_strength-t.ensures.0 (sym c.of.ensures ∙ c.in-Some.is) c.number.ensures c.support_at-x.ensures.0

pub returns-in-None : goal.returns-in-None
returns-in-None c = absurd (no_strength (sym c.of.ensures ∙ c.in-None.is) (strength_known c.args.index.shape.groups_at_lem.is_index c.requires c.link_strength-t.ensures.0))
