-- `peeling::seed::seed` meets its contract. Assumes nothing.
use Rattle.peeling.specs.Seed.{SeedTurns}
use Rattle.peeling.proofs.seed.seed.Given as goal

abbrev pub invariant-loop-i : goal.invariant-loop-i
invariant-loop-i l = SeedTurns l.m l.first l.i l.s l.from l.tail l.initial.w l.w
