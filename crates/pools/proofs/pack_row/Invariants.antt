-- `pools::pack_row` meets its contract. Assumes nothing.
use Rattle.pools.specs.Packing.{Packing}
use Rattle.pools.proofs.pack_row.Given as goal

abbrev pub invariant-loop-j : goal.invariant-loop-j
invariant-loop-j l = Packing l.m l.a l.from l.j l.to l.initial.w l.w
