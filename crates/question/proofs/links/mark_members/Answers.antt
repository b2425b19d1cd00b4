-- `question::links::mark_members` meets its contract. Assumes nothing.
use native.Mathlib.Omega.{arith}
use mathlib.Core.Path.{◌≡◌}
use Rattle.question.specs.Links.{members_none, members_more, in_group, number_of_test}
use Rattle.question.proofs.links.mark_members.Goals as goal

pub group_at-g-requires : goal.group_at-g-requires
group_at-g-requires c = let S = c.args.index.shape in record { groups_at = S.groups_at_lem; s_value = S.groups; min_level_le_k = c.requires.level; i_bound = c.requires.e_bound }

pub loop-i-init : goal.loop-i-init
loop-i-init c = members_none c.requires.w_len

pub inside-x-requires : goal.inside-x-requires
inside-x-requires c = record { level = c.requires.level; i_bound = omega (arith, c.loop-i-test.true, c.args.index.shape.links) }

pub put-requires : goal.put-requires
put-requires c = record { c_bound = omega arith; i_lt_m = c.loop-i-test.true; x_lt_entry_bound = omega (arith, number_of_test _ c.from.ensures); w_len = c.loop-i.invariant.size_is }

pub loop-i-preserved : goal.loop-i-preserved
loop-i-preserved c = let S = c.args.index.shape in
    members_more c.loop-i-test.true c.loop-i.invariant (in_group S.groups_at_lem.is_index c.requires.level c.requires.e_bound (omega (arith, c.loop-i-test.true, S.links)) c.group_at-g.ensures c.inside-x.ensures) c.from.ensures c.put.ensures

pub returns : goal.returns
returns c = let e : c.loop-i.i ≡ c.args.index.m = omega arith in rw e at c.loop-i.invariant
