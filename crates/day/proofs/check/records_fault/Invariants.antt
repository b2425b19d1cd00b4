-- `day::check::records_fault` meets its contract. Assumes nothing.
use mathlib.Core.Path.{◌≡◌}
use lib.ListN.{drop}
use Rattle.truss.specs.Bets.{records_in}
use Rattle.day.specs.Checks.{first_fault}
use Rattle.day.proofs.check.records_fault.Given as goal

abbrev pub invariant-loop-i : goal.invariant-loop-i
invariant-loop-i l = first_fault l.n (drop l.i (records_in l.s)) ≡ first_fault l.n (records_in l.s)
