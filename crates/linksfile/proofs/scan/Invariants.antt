-- `linksfile::scan` meets its contract. Assumes nothing.
use Rattle.linksfile.specs.Checks.{Scanning}
use Rattle.linksfile.specs.Leaves.{FileOnly}
use Rattle.linksfile.proofs.scan.Given as goal

abbrev pub invariant-loop-i : goal.invariant-loop-i
invariant-loop-i l = Scanning l.s l.n l.m l.i l.w × FileOnly l.m l.initial.w l.w
