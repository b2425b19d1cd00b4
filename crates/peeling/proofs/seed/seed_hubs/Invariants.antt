-- `peeling::seed::seed_hubs` meets its contract. Assumes nothing.
use Rattle.peeling.specs.Seed.{HubGives}
use Rattle.peeling.proofs.seed.seed_hubs.Given as goal

abbrev pub invariant-loop-a : goal.invariant-loop-a
invariant-loop-a l = HubGives l.m l.s 0 l.tail l.initial.w l.w
