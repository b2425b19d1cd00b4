-- `groups::level::adopt` meets its contract. Assumes nothing.
use Rattle.groups.specs.Naming.{AdoptsGives}
use Rattle.groups.proofs.level.adopt.Given as goal

abbrev pub invariant-loop-g : goal.invariant-loop-g
invariant-loop-g l = AdoptsGives l.m l.k l.count l.g l.initial.w l.w
