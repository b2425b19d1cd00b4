-- `holding::marks::meet_all` meets its contract. Assumes nothing.
use Prim.Native.Nat.{◌<◌}
use Rattle.holding.specs.Turns.{MeetAll}
use Rattle.holding.proofs.marks.meet_all.Given as goal

abbrev pub invariant-loop-c : goal.invariant-loop-c
invariant-loop-c l = (0 < l.c) × MeetAll l.m l.count l.c l.initial.w l.w
