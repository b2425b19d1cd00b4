-- `stored::find::find_pair` meets its contract. Assumes nothing.
use Rattle.stored.specs.Rows.{graph_in}
use Rattle.stored.specs.Find.{NotBefore}
use Rattle.stored.proofs.find.find_pair.Given as goal

abbrev pub invariant-loop-i : goal.invariant-loop-i
invariant-loop-i l = NotBefore (graph_in l.s) l.lo l.hi l.i
