-- `groups::level::mark_roots` meets its contract. Assumes nothing.
use Rattle.groups.specs.Marking.{MarksGives}
use Rattle.groups.proofs.level.mark_roots.Given as goal

abbrev pub invariant-loop-e : goal.invariant-loop-e
invariant-loop-e l = MarksGives l.m l.k l.e l.initial.w l.w
