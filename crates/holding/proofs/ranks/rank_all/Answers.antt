-- `holding::ranks::rank_all` meets its contract. Assumes nothing.
use native.Mathlib.Omega.{arith}
use Rattle.holding.specs.Turns.{name_below, rank_more}
use Rattle.holding.proofs.ranks.rank_all.Goals as goal

pub overflow_mul-j : goal.overflow_mul-j
overflow_mul-j c = omega (arith, c.loop-j-test.true, c.requires.names.few_names)

pub field_at-v-requires : goal.field_at-v-requires
field_at-v-requires c = omega (arith, c.loop-j-test.true, c.requires.names.even)

pub rank_one-d-requires : goal.rank_one-d-requires
rank_one-d-requires c = let q = c.field_at-v.ensures.0 in let l = name_below c.requires.names c.loop-j.j c.loop-j-test.true in record { v_in_bounds = omega (arith, q, l, c.requires.n_in_bounds, c.loop-j.auto.ranks); v_lt_max_accounts = omega (arith, q, l, c.requires.n_le_max_accounts); d_lt_max_named = omega (arith, c.loop-j-test.true, c.loop-j.invariant.few_ranks, c.requires.names.few_names) }

pub loop-j-preserved : goal.loop-j-preserved
loop-j-preserved c = rank_more c.requires.names c.loop-j-test.true c.loop-j.invariant c.field_at-v.ensures.0 c.rank_one-d.ensures
