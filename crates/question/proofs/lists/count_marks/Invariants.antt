-- `question::lists::count_marks` meets its contract. Assumes nothing.
use mathlib.Core.Path.{◌≡◌}
use lib.ListN.{length}
use Rattle.ordering.specs.Rows.{marked}
use Rattle.question.proofs.lists.count_marks.Given as goal

abbrev pub invariant-loop-i : goal.invariant-loop-i
invariant-loop-i l = l.count ≡ length (marked l.w l.m l.i)
