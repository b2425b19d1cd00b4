-- `pools::pack` meets its contract. Assumes nothing.
use Rattle.pools.specs.Packing.{Rowed}
use Rattle.pools.proofs.pack.Given as goal

abbrev pub invariant-loop-a : goal.invariant-loop-a
invariant-loop-a l = Rowed l.m l.n l.a l.initial.w l.w l.start l.end
