-- `holding::marks::lift_column` meets its contract. Assumes nothing.
use Rattle.holding.specs.Turns.{LiftState}
use Rattle.holding.proofs.marks.lift_column.Given as goal

abbrev pub invariant-loop-g : goal.invariant-loop-g
invariant-loop-g l = LiftState l.index.bytes.now l.index.m l.index.groups l.c l.g l.initial.w l.w
