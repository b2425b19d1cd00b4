-- `day::play::charge` meets its contract. Assumes nothing.
use Rattle.day.specs.Sums.{Charged}
use Rattle.day.proofs.play.charge.Given as goal

abbrev pub invariant-loop-j : goal.invariant-loop-j
invariant-loop-j l = Charged l.m l.from l.j l.stake l.initial.w l.w
