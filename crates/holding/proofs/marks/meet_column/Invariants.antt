-- `holding::marks::meet_column` meets its contract. Assumes nothing.
use Rattle.holding.specs.Turns.{Meets}
use Rattle.holding.proofs.marks.meet_column.Given as goal

abbrev pub invariant-loop-g : goal.invariant-loop-g
invariant-loop-g l = Meets l.m l.c l.g l.initial.w l.w
