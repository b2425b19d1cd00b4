-- `peeling::peel::bare` meets its contract. Assumes nothing.
use Rattle.peeling.specs.Bare.{Bare}
use Rattle.peeling.proofs.peel.bare.Given as goal

abbrev pub invariant-loop-e : goal.invariant-loop-e
invariant-loop-e l = Bare l.m l.e l.initial.w l.w
