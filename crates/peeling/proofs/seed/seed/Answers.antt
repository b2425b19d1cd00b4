-- `peeling::seed::seed` meets its contract. Assumes nothing.
use native.Mathlib.Omega.{arith}
use Rattle.peeling.specs.Seed.{seeding_room, seed_size, seed_link, seed_next, seed_end}
use Rattle.peeling.proofs.seed.seed.Goals as goal

pub seed_one-tail-requires : goal.seed_one-tail-requires
seed_one-tail-requires c = let p = c.requires in let S = c.loop-i.invariant _ _ _ _ p.4 p.5 in let l = seed_link p.4 S (omega (arith, c.unwrap_or-begins.ensures, c.loop-i.auto.i)) c.loop-i-test.true c.listed-e.ensures in record { w_len = seed_size p.4 S; m_le_link_bound = p.4.named.few; e_lt_m = l; tail_lt_m = seeding_room S l; s_lt_no_support = p.4.small }

pub loop-i-preserved : goal.loop-i-preserved
loop-i-preserved c = λ G n d v P S. seed_next P (c.loop-i.invariant G n d v P S) (omega (arith, c.unwrap_or-begins.ensures, c.loop-i.auto.i)) c.loop-i-test.true c.listed-e.ensures c.seed_one-tail.ensures

pub returns : goal.returns
returns c = λ G n d v P S. seed_end P (c.loop-i.invariant G n d v P S) c.loop-i-test.false
