-- `chain::search::search` meets its contract. Assumes nothing.
use Prim.Native.Nat.{◌≤◌}
use Rattle.chain.specs.Search.{SearchTurns}
use Rattle.chain.proofs.search.search.Given as goal

abbrev pub invariant-loop-head : goal.invariant-loop-head
invariant-loop-head l = (l.head ≤ l.m) × SearchTurns l.m l.n l.e l.f l.from l.head l.tail l.at l.d l.p l.initial.w l.w l.start l.initial.mark l.mark
