-- `peeling::seed::seed_account` meets its contract. Assumes nothing.
use mathlib.Core.Logic.{inl}
use native.Mathlib.Omega.{arith}
use Rattle.peeling.specs.Seed.{seeding_room, seeding_one, hub_size, hub_link}
use Rattle.peeling.proofs.seed.seed_account.Goals as goal

pub seed_one-tail-requires : goal.seed_one-tail-requires
seed_one-tail-requires c = let p = c.requires in let S = c.loop-i.invariant.1 _ _ _ p.2.4 in let l = hub_link p.2.3 p.1 S c.loop-i.invariant.0 c.loop-i-test.true c.near-x.ensures.0 in record { w_len = hub_size p.2.3 p.1 S; m_le_link_bound = p.2.3.named.few; e_lt_m = l; tail_lt_m = seeding_room S l; s_lt_no_support = p.2.3.small }

pub loop-i-preserved : goal.loop-i-preserved
loop-i-preserved c = let p = c.requires in
    let T = c.loop-i.invariant.1 _ _ _ p.2.4 in
    let l = hub_link p.2.3 p.1 T c.loop-i.invariant.0 c.loop-i-test.true c.near-x.ensures.0 in (omega (arith, c.loop-i.invariant.0), λ G d v S. seeding_one (c.loop-i.invariant.1 G d v S) l (hub_size p.2.3 p.1 T) (λ y k h. inl h) c.seed_one-tail.ensures)
