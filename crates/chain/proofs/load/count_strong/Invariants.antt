-- `chain::load::count_strong` meets its contract. Assumes nothing.
use lib.ListN.{length}
use mathlib.Core.Path.{◌≡◌}
use Rattle.stored.specs.Rows.{graph_in}
use Rattle.chain.specs.Strong.{strong_to}
use Rattle.chain.proofs.load.count_strong.Given as goal

abbrev pub invariant-loop-i : goal.invariant-loop-i
invariant-loop-i l = l.c ≡ length (strong_to (graph_in l.s) l.k l.i)
