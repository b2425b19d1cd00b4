-- `chain::load::load_strong` meets its contract. Assumes nothing.
use Rattle.stored.specs.Rows.{graph_in}
use Rattle.chain.specs.Load.{Loading}
use Rattle.chain.proofs.load.load_strong.Given as goal

abbrev pub invariant-loop-i : goal.invariant-loop-i
invariant-loop-i l = Loading (graph_in l.s) l.k l.h l.i l.j l.initial.w l.w
