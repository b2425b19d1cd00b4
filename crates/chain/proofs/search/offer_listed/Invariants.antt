-- `chain::search::offer_listed` meets its contract. Assumes nothing.
use Rattle.chain.specs.Search.{OverTurns}
use Rattle.chain.proofs.search.offer_listed.Given as goal

abbrev pub invariant-loop-j : goal.invariant-loop-j
invariant-loop-j l = OverTurns l.m l.d l.a l.b l.p l.count l.from l.tail l.j l.initial.w l.w
