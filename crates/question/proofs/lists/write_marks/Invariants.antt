-- `question::lists::write_marks` meets its contract. Assumes nothing.
use Rattle.question.specs.Lists.{WriteState}
use Rattle.question.proofs.lists.write_marks.Given as goal

abbrev pub invariant-loop-i : goal.invariant-loop-i
invariant-loop-i l = WriteState l.w l.m l.i l.at l.initial.out l.out
