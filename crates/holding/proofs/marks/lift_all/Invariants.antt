-- `holding::marks::lift_all` meets its contract. Assumes nothing.
use Rattle.holding.specs.Turns.{LiftAll}
use Rattle.holding.proofs.marks.lift_all.Given as goal

abbrev pub invariant-loop-c : goal.invariant-loop-c
invariant-loop-c l = LiftAll l.index.bytes.now l.index.m l.index.groups l.c l.initial.w l.w
