-- `peeling::rest::rest` meets its contract. Assumes nothing.
use Rattle.peeling.specs.Rest.{Resting}
use Rattle.peeling.proofs.rest.rest.Given as goal

abbrev pub invariant-loop-i : goal.invariant-loop-i
invariant-loop-i l = Resting l.m l.first l.i l.place l.least l.initial.w l.w
