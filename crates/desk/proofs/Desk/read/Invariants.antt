-- `desk::Desk::read` meets its contract. Assumes nothing.
use Rattle.desk.specs.DeskBytes.{TalliesTo}
use Rattle.desk.proofs.Desk.read.Given as goal

abbrev pub invariant-loop-i : goal.invariant-loop-i
invariant-loop-i l = TalliesTo l.bytes l.i l.tallies
