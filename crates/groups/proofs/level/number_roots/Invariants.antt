-- `groups::level::number_roots` meets its contract. Assumes nothing.
use Rattle.groups.specs.Numbering.{NumbersGives}
use Rattle.groups.proofs.level.number_roots.Given as goal

abbrev pub invariant-loop-r : goal.invariant-loop-r
invariant-loop-r l = NumbersGives l.m l.k l.r l.from l.g l.initial.w l.w
