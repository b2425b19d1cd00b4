-- `peeling::seed::seed_account` meets its contract. Assumes nothing.
use Prim.Native.Nat.{◌≤◌}
use Rattle.adjacency.specs.State.{start_at}
use Rattle.peeling.specs.Seed.{HubGives}
use Rattle.peeling.proofs.seed.seed_account.Given as goal

abbrev pub invariant-loop-i : goal.invariant-loop-i
invariant-loop-i l = (start_at l.start l.a ≤ l.i) × HubGives l.m l.s l.from l.tail l.initial.w l.w
