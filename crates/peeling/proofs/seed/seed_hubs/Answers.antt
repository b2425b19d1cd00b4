-- `peeling::seed::seed_hubs` meets its contract. Assumes nothing.
use Rattle.peeling.proofs.seed.seed_hubs.Goals as goal

pub seed_hub-tail-requires : goal.seed_hub-tail-requires
seed_hub-tail-requires c = let p = c.requires in
    (c.args.n, c.loop-a-test.true, (p.0, p.1, p.2, p.3, c.loop-a.invariant _ _ _ p.4))

pub loop-a-preserved : goal.loop-a-preserved
loop-a-preserved c = λ G d v S. c.seed_hub-tail.ensures G d v (c.loop-a.invariant G d v S)
