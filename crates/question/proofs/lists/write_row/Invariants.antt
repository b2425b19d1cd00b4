-- `question::lists::write_row` meets its contract. Assumes nothing.
use mathlib.Core.Path.{◌≡◌}
use Rattle.wire.specs.Writing.{written}
use Rattle.question.specs.Lists.{row_bytes}
use Rattle.question.proofs.lists.write_row.Given as goal

abbrev pub invariant-loop-i : goal.invariant-loop-i
invariant-loop-i l = l.out ≡ written l.initial.out 0 (row_bytes l.w l.m l.i)
