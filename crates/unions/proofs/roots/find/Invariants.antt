-- `unions::roots::find` meets its contract. Assumes nothing.
use Rattle.unions.specs.Find.{Finding}
use Rattle.unions.proofs.roots.find.Given as goal

abbrev pub invariant-loop-p : goal.invariant-loop-p
invariant-loop-p l = Finding l.m l.from l.x l.p l.initial.w l.w

abbrev pub decreases-loop-p : goal.decreases-loop-p
decreases-loop-p l = l.x
